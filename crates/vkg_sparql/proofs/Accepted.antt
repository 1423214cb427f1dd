-- A query that is read is lawful.
use Rattle.std.proofs.Common.{◌≡◌, ◌∙◌, ℕ, ◌+◌, ◌<◌, Bool, true, false, List, Result, Ok, Err, Option, Some, None, length, refl, sym, ap, subst, arith, map, true≢false}
use Rattle.std.specs.Prelude.{IfOk, slice_get}
use Rattle.std.specs.Option.{option_or}
use Rattle.std.proofs.lemmas.Bool.{not_from_false}
use Rattle.std.proofs.lemmas.List.{length-map}
use Rattle.std.proofs.lemmas.Option.{same_Some, slice_get-map, slice_get_within}
use Rattle.vkg_grammar.specs.Kinds.{kinds_of}
use Rattle.vkg_grammar.specs.OneTree.{IsTree}
use Rattle.vkg_grammar.proofs.Shapes.{made}
use Rattle.vkg_grammar.specs.Trees.{Tree, leaf, pair, first, second, size, IsFrom}
use Rattle.vkg_lists.proofs.Members.{each_from_recursion}
use Rattle.vkg_tokens.specs.declared.cutting.Token.{Token}
use Rattle.vkg_sparql.specs.declared.fault.QueryError.{QueryError}
use Rattle.vkg_sparql.specs.declared.fault.QueryFault.{QueryFault}
use Rattle.vkg_sparql.specs.declared.grammar_table.TheConstants.{SPARQL}
use Rattle.vkg_sparql.specs.declared.meaning.Meaning.{Meaning}
use Rattle.vkg_sparql.specs.declared.pattern.Node.{Node}
use Rattle.vkg_sparql.specs.declared.pattern.Node.TheVariants as node
use Rattle.vkg_sparql.specs.declared.symbols.TheConstants.{FORM, QUERY}
use Rattle.vkg_sparql.specs.declared.query.Query.{Query}
use Rattle.vkg_sparql.specs.declared.query.Form.{Form}
use Rattle.vkg_sparql.specs.declared.query.Selected.{Selected}
use Rattle.vkg_sparql.specs.Groups.{ask_value, construct_value, query_value, select_value, solutions_value}
use Rattle.vkg_sparql.specs.Lawful.{IsLawful, IsLawfulQuery, IsWithin}
use Rattle.vkg_sparql.specs.Meanings.{first_token}
use Rattle.vkg_sparql.specs.Reading.{Read, IsQueryText, Says, fault_if, fault_of, part_fault, query_of, read, token_fault}
use Rattle.vkg_sparql.specs.Seen.{query_seen}
use Rattle.vkg_sparql.proofs.LawfulParts.{Fits, Good, good_query}
use Rattle.vkg_sparql.proofs.Made.{Has, has}
use Rattle.vkg_sparql.proofs.Numbering.{Marked, as_many, is_variable_key}
use Rattle.vkg_sparql.proofs.Standing.{Fine, all_meanings, given_at, node_at, operand_at, variable_at}

-- ---- nodes whose keys are of their kinds are lawful

marked_below : (keys : List (List ℕ)) (v : ℕ) (b : Bool) → Marked keys v b → v < length keys
marked_below keys v b h =
    let there : slice_get (map is_variable_key keys) v ≡ Some b = slice_get-map is_variable_key keys v ∙ h in
    omega (arith, slice_get_within (map is_variable_key keys) v b there, length-map keys is_variable_key)

within : (keys : List (List ℕ)) (n : ℕ) → length keys ≡ n → (x : Node) → Fits keys x → IsWithin n x
within keys n e (node.Variable v) h = subst (λ m. v < m) e (marked_below keys v true h)
within keys n e (node.Label v) h = subst (λ m. v < m) e (marked_below keys v false h)
within keys n e (node.Fixed t) h = not_from_false _ h

not_both : (o : Option Bool) → o ≡ Some true → o ≡ Some false → ⊥
not_both o e f = true≢false (same_Some true false (sym e ∙ f))

lawful_nodes : (keys : List (List ℕ)) (n : ℕ) (xs : List Node) → length keys ≡ n → Good keys xs → IsLawful n xs
lawful_nodes keys n xs e g = record {
  within = λ x c. within keys n e x (each_from_recursion (Fits keys) xs g x c);
  apart = λ v c d. not_both _ (each_from_recursion (Fits keys) xs g (node.Variable v) c) (each_from_recursion (Fits keys) xs g (node.Label v) d);
}

-- ---- of a text without fault

fault_free : (check : ℕ) (at : Option ℕ) (later : Option QueryFault) → fault_if check at later ≡ None → (at ≡ None) × (later ≡ None)
fault_free check None later h = (refl, h)
fault_free check (Some at) later h = absurd (cc)

no_early : (a b : Option QueryFault) → option_or a b ≡ None → (a ≡ None) × (b ≡ None)
no_early None b h = (refl, h)
no_early (Some f) b h = absurd (cc)

fine_body : (r : Read) → fault_of r ≡ None → Fine r.environment r.body
fine_body r h =
    let p = no_early (token_fault r) (part_fault r) h in
    let a = fault_free 4 _ _ p.0 in
    let b = fault_free 5 _ _ a.1 in
    let c = fault_free 6 _ _ b.1 in
    let d = fault_free 7 _ _ c.1 in
    let e = fault_free 8 _ _ d.1 in
    let f = fault_free 10 _ _ p.1 in
    let g = fault_free 11 _ _ f.1 in
    record { wide = e.0; slice = (fault_free 12 _ _ g.1).0 }

names_of_solutions : (names : List (List ℕ)) (form : Form) (distinct : Bool) (selected : Selected) (ms : List Meaning) (t : Tree) → (solutions_value names form distinct selected ms t).names ≡ names
names_of_solutions names form distinct selected ms (pair where_ (pair g (pair order slice))) = refl
names_of_solutions names form distinct selected ms t = refl

names_of_select : (names : List (List ℕ)) (ms : List Meaning) (t : Tree) → (select_value names ms t).names ≡ names
names_of_select names ms (pair select (pair kind (pair selection t))) = names_of_solutions names _ _ _ ms t
names_of_select names ms t = refl

names_of_ask : (names : List (List ℕ)) (ms : List Meaning) (t : Tree) → (ask_value names ms t).names ≡ names
names_of_ask names ms (pair ask (pair where_ g)) = refl
names_of_ask names ms t = refl

names_of_construct : (names : List (List ℕ)) (ms : List Meaning) (t : Tree) → (construct_value names ms t).names ≡ names
names_of_construct names ms (pair construct (pair left (pair block (pair right t)))) = names_of_solutions names _ _ _ ms t
names_of_construct names ms t = refl

names_stay : (names : List (List ℕ)) (ms : List Meaning) (t : Tree) → (query_value names ms t).names ≡ names
names_stay names ms (pair prologue (first t)) = names_of_select names ms t
names_stay names ms (pair prologue (second (first t))) = names_of_ask names ms t
names_stay names ms (pair prologue (second (second t))) = names_of_construct names ms t
names_stay names ms t = refl

-- where what is behind the prologue begins
begins : (ks : List ℕ) (at : ℕ) (t : Tree) → Has SPARQL ks 0 t FORM → IsFrom at t → first_token t ≡ at
begins ks at (first (pair (leaf i) t)) h f = f.0
begins ks at (first (pair t u)) h f = absurd (h.0)
begins ks at (first t) h f = absurd (h)
begins ks at (second (first (pair (leaf i) t))) h f = f.0
begins ks at (second (first (pair t u))) h f = absurd (h.0)
begins ks at (second (first t)) h f = absurd (h)
begins ks at (second (second (pair (leaf i) t))) h f = f.0
begins ks at (second (second (pair t u))) h f = absurd (h.0)
begins ks at (second (second t)) h f = absurd (h)
begins ks at (second t) h f = absurd (h)
begins ks at t h f = absurd (h)

record Behind (ks : List ℕ) (prologue rest : Tree) : Type 0 where
  has : Has SPARQL ks (first_token rest) rest FORM

behind : (ks : List ℕ) (prologue rest : Tree) → IsTree SPARQL ks FORM rest → IsFrom 0 (pair prologue rest) → Behind ks prologue rest
behind ks prologue rest w f =
    let at : ℕ = 0 + size prologue in
    let begun : first_token rest ≡ at = begins ks at rest (has SPARQL ks 0 rest FORM at w f.1 (omega arith)) f.1 in
    record { has = has SPARQL ks (first_token rest) rest FORM at w f.1 (omega (arith, begun)) }

module _ (text base : List ℕ) (tokens : List Token) where
  lawful_pair : (prologue rest : Tree) → Behind (kinds_of tokens) prologue rest → fault_of (read text tokens base (pair prologue rest)) ≡ None
      → IsLawfulQuery (query_seen (query_of (read text tokens base (pair prologue rest))))
  lawful_pair prologue rest w h =
      let r : Read = read text tokens base (pair prologue rest) in
      let start : ℕ = first_token rest in
      let fine : Fine r.environment r.body = fine_body r h in
      let keys : List (List ℕ) = r.named.keys in
      lawful_nodes keys _ _ (as_many r.body ∙ ap length (sym (names_stay r.named.names (all_meanings text tokens r.environment start) (pair prologue rest))))
      (good_query keys (kinds_of tokens) start (all_meanings text tokens r.environment start)
      (λ i k t p. node_at text tokens r.environment start fine i k t.behind t.kind p)
      (λ i k t p. operand_at text tokens r.environment start fine i k t.behind t.kind p)
      (λ i k t p. variable_at text tokens r.environment start fine i k t.behind t.kind p)
      (λ i k t. given_at text tokens r.environment start fine i k t.behind t.kind)
      r.named.names prologue rest w.has)

  lawful_tree : (t : Tree) → IsTree SPARQL (kinds_of tokens) QUERY t → IsFrom 0 t → fault_of (read text tokens base t) ≡ None → IsLawfulQuery (query_seen (query_of (read text tokens base t)))
  lawful_tree (pair prologue rest) w f h = lawful_pair prologue rest (behind (kinds_of tokens) prologue rest (made w).1 f) h
  lawful_tree t w f h = absurd (made w)

lawful_text : (text base : List ℕ) (q : Query) → IsQueryText text base q → IsLawfulQuery (query_seen q)
lawful_text text base q h =
    let s : Says text base h.said = h.says in
    let r : h.said ≡ read text s.tokens base s.tree = s.said in
    subst (λ p. IsLawfulQuery (query_seen p)) (sym (h.is ∙ ap query_of r)) (lawful_tree text base s.tokens s.tree s.the_tree.is.is s.the_tree.is.from (ap fault_of (sym r) ∙ h.fine))

pub accepted_is_lawful : (text base : List ℕ) (result : Result Query QueryError) → IfOk result (IsQueryText text base) → IfOk result (λ q. IsLawfulQuery (query_seen q))
accepted_is_lawful text base (Ok q) h = lawful_text text base q h
accepted_is_lawful text base (Err e) h = tt
