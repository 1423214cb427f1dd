-- One row of a rule: it gives a row of a triple pattern exactly where its quad gives a solution.
use Rattle.std.proofs.Common.{◌≡◌, ℕ, ◌<◌, Bool, true, false, ⊎_elim, List, [], ◌∷◌, ◌++◌, map, refl, sym, ap, ◌∙◌, arith, append-nil, subst}
use Rattle.std.proofs.Math.Bool.{and-true}
use Rattle.std.proofs.lemmas.List.Elements.{Contains-append_cases}
use Rattle.std.specs.Prelude.{Option, Some, None, ◌&&◌, filter, flat_map, nat_eq, is_some, if◌then◌else◌, ⊤, Contains}
use Rattle.std.specs.Option.{option_map_or, option_to_list}
use Rattle.std.specs.List.{list_all, range_with_len}
use Rattle.vkg_lists.proofs.Tests.{nat_test}
use Rattle.vkg_lists.proofs.Counts.{eq_comm}
use Rattle.vkg_lists.proofs.Members.{Contains-none, Contains-only}
use Rattle.vkg_terms.specs.declared.term.Term.{Term}
use Rattle.vkg_terms.specs.NQuads.{Quad}
use Rattle.vkg_terms.specs.Same.{term_eq}
use Rattle.vkg_cells.specs.declared.cell.Cell.{Cell}
use Rattle.vkg_cells.specs.declared.cell.Cell.TheVariants as cell
use Rattle.vkg_schema.specs.Rows.{Row}
use Rattle.vkg_maps.specs.Dataset.{graph_eq, quad_from}
use Rattle.vkg_sparql.specs.declared.pattern.Node.{Node}
use Rattle.vkg_sparql.specs.declared.pattern.Node.TheVariants.{Variable, Label, Fixed}
use Rattle.vkg_sparql.specs.declared.pattern.TriplePattern.{TriplePattern}
use Rattle.vkg_algebra.specs.Solutions.{compatible, merge, join, only}
use Rattle.vkg_algebra.specs.Patterns.{node_solutions, triple_solutions}
use Rattle.vkg_expr.specs.Expr.{Expr}
use Rattle.vkg_expr.specs.Value.{value_of, term_of, term_cell}
use Rattle.vkg_unfolded.specs.Unfolded.{named, constants}
use Rattle.vkg_answers.proofs.GraphVariable.{only-map}
use Rattle.vkg_answers.proofs.Entries.{Entry, entry, alike, is_same, named_solution, AreTerms}
use Rattle.vkg_answers.proofs.Links.{NamesBelow, names_agree, alike-append, solution-append, terms-append}
use Rattle.vkg_answers.proofs.Columns.{unbound_is}
use Rattle.vkg_answers.proofs.Sources.{all_hold}

-- what a node's cell is named, and whether it is the node's term
abbrev pub node_entries : Node → Cell → List Entry
node_entries (Variable v) c = (Some v, c) ∷ []
node_entries (Label v) c = (Some v, c) ∷ []
node_entries (Fixed t) c = []

abbrev pub node_ok : Node → Cell → Bool
node_ok (Fixed t) c = is_same (cell.Term t) c
node_ok x c = true

pub constants_are : (row : Row) (xs : List (Node × Expr)) → all_hold (flat_map constants xs) row ≡ list_all (λ (x : Node × Expr). node_ok x.0 (value_of x.1 row)) xs
constants_are row [] = refl
constants_are row ((Fixed t, e) ∷ xs) = ap (λ b. is_same (cell.Term t) (value_of e row) && b) (constants_are row xs)
constants_are row ((Variable v, e) ∷ xs) = constants_are row xs
constants_are row ((Label v, e) ∷ xs) = constants_are row xs

pub named_are : (row : Row) (xs : List (Node × Expr)) → map (entry row) (flat_map named xs) ≡ flat_map (λ (x : Node × Expr). node_entries x.0 (value_of x.1 row)) xs
named_are row [] = refl
named_are row ((Fixed t, e) ∷ xs) = named_are row xs
named_are row ((Variable v, e) ∷ xs) = ap (λ zs. (Some v, value_of e row) ∷ zs) (named_are row xs)
named_are row ((Label v, e) ∷ xs) = ap (λ zs. (Some v, value_of e row) ∷ zs) (named_are row xs)

-- the solutions of a node
one_bound : (n v : ℕ) (t : Term) → only n v t ≡ named_solution n ((Some v, cell.Term t) ∷ [])
one_bound n v t = only-map n v t ∙ (λ i. map (λ w. (ap (λ b. if b then Some t else None) (eq_comm nat_test v w) ∙ of (nat_eq w v)) i) (range_with_len 0 n))
  where
    of : (b : Bool) → (if b then Some t else None) ≡ term_of (if b then cell.Term t else cell.Null)
    of true = refl
    of false = refl

pub node_solution_is : (n : ℕ) (x : Node) (t : Term) → node_solutions n x t ≡ (if node_ok x (cell.Term t) then named_solution n (node_entries x (cell.Term t)) ∷ [] else [])
node_solution_is n (Variable v) t = ap (λ s. s ∷ []) (one_bound n v t)
node_solution_is n (Label v) t = ap (λ s. s ∷ []) (one_bound n v t)
node_solution_is n (Fixed u) t = ap (λ s. if term_eq u t then s ∷ [] else []) (unbound_is n 0)

join_two : (n : ℕ) (a b : Bool) (zs ws : List Entry) → AreTerms zs →
    join (if a then named_solution n zs ∷ [] else []) (if b then named_solution n ws ∷ [] else []) ≡ (if (a && b) && compatible (named_solution n zs) (named_solution n ws) then named_solution n (zs ++ ws) ∷ [] else [])
join_two n false b zs ws h = refl
join_two n true false zs ws h = refl
join_two n true true zs ws h = of (compatible (named_solution n zs) (named_solution n ws))
  where
    of : (c : Bool) → ((if c then merge (named_solution n zs) (named_solution n ws) ∷ [] else []) ++ []) ++ [] ≡ (if c then named_solution n (zs ++ ws) ∷ [] else [])
    of true = ap (λ s. s ∷ []) (sym (solution-append n zs ws h))
    of false = refl

-- the numbers of a node are below n
abbrev pub NodeBelow : ℕ → Node → Type 0
NodeBelow n (Variable v) = v < n
NodeBelow n (Label v) = v < n
NodeBelow n (Fixed t) = ⊤

-- what holds of a node's cell holds of its entries
pub node_all : (P : Cell → Type 0) (x : Node) (c : Cell) → P c → (e : Entry) → Contains (node_entries x c) e → P e.1
node_all P (Variable v) c h e k = subst (λ (z : Entry). P z.1) (Contains-only (Some v, c) e k) h
node_all P (Label v) c h e k = subst (λ (z : Entry). P z.1) (Contains-only (Some v, c) e k) h
node_all P (Fixed t) c h e k = absurd (Contains-none e k)

pub node_terms : (x : Node) (t : Term) → AreTerms (node_entries x (cell.Term t))
node_terms x t = node_all (λ c. (u : Term) × (c ≡ cell.Term u)) x (cell.Term t) (t, refl)

one_below : (n v : ℕ) (c : Cell) → v < n → NamesBelow n ((Some v, c) ∷ [])
one_below n v c h z k w e =
    let g : Some v ≡ Some w = ap (λ (x : Entry). x.0) (Contains-only (Some v, c) z k) ∙ e in
    let i : v ≡ w = cc in
    omega (arith, h, i)

pub node_below : (n : ℕ) (x : Node) (c : Cell) → NodeBelow n x → NamesBelow n (node_entries x c)
node_below n (Variable v) c h = one_below n v c h
node_below n (Label v) c h = one_below n v c h
node_below n (Fixed t) c h = λ z k w e. absurd (Contains-none z k)

node_alike : (x : Node) (c : Cell) → alike [] (node_entries x c) ≡ true
node_alike (Variable v) c = refl
node_alike (Label v) c = refl
node_alike (Fixed t) c = refl

node_graph : (x : Node) (c : Cell) (ws : List Entry) → names_agree (node_entries x c) ws None ≡ true
node_graph (Variable v) c ws = refl
node_graph (Label v) c ws = refl
node_graph (Fixed t) c ws = refl

abbrev pub pattern_cells : TriplePattern → Cell → Cell → Cell → List (Node × Cell)
pattern_cells p c d e = (p.subject, c) ∷ (p.predicate, d) ∷ (p.object, e) ∷ []

abbrev pub pattern_entries : TriplePattern → Cell → Cell → Cell → List Entry
pattern_entries p c d e = flat_map (λ (x : Node × Cell). node_entries x.0 x.1) (pattern_cells p c d e)

module _ (p : TriplePattern) (c d e : Cell) (x : Entry) where
  -- which node an entry comes from
  pub entry_from : {Q : Type 0} → (Contains (node_entries p.subject c) x → Q) → (Contains (node_entries p.predicate d) x → Q) → (Contains (node_entries p.object e) x → Q) → Contains (pattern_entries p c d e) x → Q
  entry_from f g h k = ⊎_elim f
      (λ l. ⊎_elim g (λ m. ⊎_elim h (λ o. absurd (Contains-none x o)) (Contains-append_cases (node_entries p.object e) [] x m)) (Contains-append_cases (node_entries p.predicate d) (node_entries p.object e ++ []) x l))
      (Contains-append_cases (node_entries p.subject c) (node_entries p.predicate d ++ (node_entries p.object e ++ [])) x k)

abbrev pub pattern_ok : TriplePattern → Cell → Cell → Cell → Bool
pattern_ok p c d e = list_all (λ (x : Node × Cell). node_ok x.0 x.1) (pattern_cells p c d e)

module _ (n : ℕ) (p : TriplePattern) (below : NodeBelow n p.subject × NodeBelow n p.predicate × NodeBelow n p.object) where
  pub entries_alike : (s t u : Term) → alike [] (pattern_entries p (cell.Term s) (cell.Term t) (cell.Term u))
      ≡ (compatible (named_solution n (node_entries p.predicate (cell.Term t))) (named_solution n (node_entries p.object (cell.Term u)))
      && compatible (named_solution n (node_entries p.subject (cell.Term s))) (named_solution n (node_entries p.predicate (cell.Term t) ++ node_entries p.object (cell.Term u))))
  entries_alike s t u =
      let es = node_entries p.subject (cell.Term s) in
      let ep = node_entries p.predicate (cell.Term t) in
      let eo = node_entries p.object (cell.Term u) in
      ap (λ zs. alike [] (es ++ (ep ++ zs))) (append-nil eo)
      ∙ alike-append n es (ep ++ eo) (node_terms p.subject s) (terms-append ep eo (node_terms p.predicate t) (node_terms p.object u)) (node_below n p.subject (cell.Term s) below.0)
      ∙ (λ i. (node_alike p.subject (cell.Term s) i && alike-append n ep eo (node_terms p.predicate t) (node_terms p.object u) (node_below n p.predicate (cell.Term t) below.1) i)
      && (compatible (named_solution n es) (named_solution n (ep ++ eo)) && node_graph p.subject (cell.Term s) (ep ++ eo) i))
      ∙ (λ i. ((node_alike p.predicate (cell.Term t) i && node_alike p.object (cell.Term u) i) && (compatible (named_solution n ep) (named_solution n eo) && node_graph p.predicate (cell.Term t) eo i)) && and-true (compatible (named_solution n es) (named_solution n (ep ++ eo))) i)
      ∙ ap (λ b. b && compatible (named_solution n es) (named_solution n (ep ++ eo))) (and-true (compatible (named_solution n ep) (named_solution n eo)))

  pub quad_solutions_are : (s t u : Term) (g : Option Term) → triple_solutions n p (record { subject = s; predicate = t; object = u; graph = g })
      ≡ (if pattern_ok p (cell.Term s) (cell.Term t) (cell.Term u) && alike [] (pattern_entries p (cell.Term s) (cell.Term t) (cell.Term u)) then named_solution n (pattern_entries p (cell.Term s) (cell.Term t) (cell.Term u)) ∷ [] else [])
  quad_solutions_are s t u g =
      (λ i. join (node_solution_is n p.subject s i) (join (node_solution_is n p.predicate t i) (node_solution_is n p.object u i)))
      ∙ ap (join (if a then named_solution n es ∷ [] else [])) (join_two n b c ep eo (node_terms p.predicate t))
      ∙ join_two n a ((b && c) && k) es (ep ++ eo) (node_terms p.subject s)
      ∙ (λ i. if (truths a b c k m i) then named_solution n (es ++ (ep ++ sym (append-nil eo) i)) ∷ [] else [])
      ∙ ap (λ x. if pattern_ok p (cell.Term s) (cell.Term t) (cell.Term u) && x then named_solution n (pattern_entries p (cell.Term s) (cell.Term t) (cell.Term u)) ∷ [] else []) (sym (entries_alike s t u))
    where
      es : List Entry
      es = node_entries p.subject (cell.Term s)

      ep : List Entry
      ep = node_entries p.predicate (cell.Term t)

      eo : List Entry
      eo = node_entries p.object (cell.Term u)

      a : Bool
      a = node_ok p.subject (cell.Term s)

      b : Bool
      b = node_ok p.predicate (cell.Term t)

      c : Bool
      c = node_ok p.object (cell.Term u)

      k : Bool
      k = compatible (named_solution n ep) (named_solution n eo)

      m : Bool
      m = compatible (named_solution n es) (named_solution n (ep ++ eo))

      truths : (a b c k m : Bool) → ((a && ((b && c) && k)) && m) ≡ ((a && (b && (c && true))) && (k && m))
      truths false b c k m = refl
      truths true false c k m = refl
      truths true true false k m = refl
      truths true true true k m = refl

  -- the solutions of a quad that may be there, in a graph
  pub quad_answers : (g : Option Term) (o : Option (Option Term)) (s t u : Option Term) →
      flat_map (triple_solutions n p) (filter (λ q. graph_eq q.graph g) (option_to_list (quad_from s t u o)))
      ≡ (if (is_some s && (is_some t && (is_some u && option_map_or (λ h. graph_eq h g) o false)))
      && (pattern_ok p (term_cell s) (term_cell t) (term_cell u) && alike [] (pattern_entries p (term_cell s) (term_cell t) (term_cell u)))
      then named_solution n (pattern_entries p (term_cell s) (term_cell t) (term_cell u)) ∷ [] else [])
  quad_answers g o None t u = refl
  quad_answers g o (Some s) None u = refl
  quad_answers g o (Some s) (Some t) None = refl
  quad_answers g None (Some s) (Some t) (Some u) = refl
  quad_answers g (Some h) (Some s) (Some t) (Some u) = of (graph_eq h g)
    where
      q : Quad
      q = record { subject = s; predicate = t; object = u; graph = h }

      of : (b : Bool) → flat_map (triple_solutions n p) (if b then q ∷ [] else [])
          ≡ (if (true && (true && (true && b))) && (pattern_ok p (cell.Term s) (cell.Term t) (cell.Term u) && alike [] (pattern_entries p (cell.Term s) (cell.Term t) (cell.Term u)))
          then named_solution n (pattern_entries p (cell.Term s) (cell.Term t) (cell.Term u)) ∷ [] else [])
      of true = append-nil (triple_solutions n p q) ∙ quad_solutions_are s t u h
      of false = refl
