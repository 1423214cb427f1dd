-- A text with a derivation, few brackets and without a failing check has no fault, and is one query.
use Rattle.std.proofs.Common.{◌≡◌, ◌∙◌, ◌+◌, ℕ, true, List, [], ◌∷◌, None, Ok, sym, ap, subst, take, length, arith}
use Rattle.std.specs.Prelude.{IsUtf8}
use Rattle.std.specs.List.{list_all, range_with_len}
use Rattle.std.proofs.lemmas.Option.{none-some}
use Rattle.vkg_lists.proofs.Members.{each_of_all}
use Rattle.vkg_lists.proofs.Each.{member_range}
use Rattle.vkg_grammar.specs.declared.note.Note.{Note}
use Rattle.vkg_grammar.specs.Form.{Form, IsShallow, allows, depth}
use Rattle.vkg_grammar.specs.Grammar.{Derives}
use Rattle.vkg_grammar.specs.Kinds.{kinds_of}
use Rattle.vkg_grammar.specs.OneTree.{IsTreeOf}
use Rattle.vkg_grammar.specs.Trees.{Tree}
use Rattle.vkg_grammar.proofs.Outcomes.{alive_text, deep_not_shallow, same_tokens}
use Rattle.vkg_tokens.specs.declared.cutting.Token.{Token}
use Rattle.vkg_sparql.specs.declared.grammar_table.TheConstants.{SPARQL}
use Rattle.vkg_sparql.specs.declared.fault.QueryFault.{QueryFault}
use Rattle.vkg_sparql.specs.declared.query.Query.{Query}
use Rattle.vkg_turtle.proofs.Lexical.{not_bad}
use Rattle.vkg_sparql.specs.Reading.{IsFaultOf, IsQueryText, Read, Says, checked, cut_off, dead, fault_of, lexical, query_of, read, sparql, sparql_tokens, too_deep}

pub shallow : (g : Form) (ks : List ℕ) → list_all (λ n. allows g.limit (depth g (take (n + 1) ks))) (range_with_len 0 (length ks)) ≡ true → IsShallow g ks
shallow g ks e n h = each_of_all (λ m. allows g.limit (depth g (take (m + 1) ks))) (range_with_len 0 (length ks)) e n (member_range 0 (length ks) n (omega arith) (omega (arith, h)))

module _ (text base : List ℕ) (utf8 : IsUtf8 text) (tokens : List Token) (cut : sparql_tokens text ≡ Ok tokens) (few : IsShallow sparql (kinds_of tokens))
    (ws : List Note) (derived : Derives SPARQL (0 ∷ []) (kinds_of tokens) ws) (tree : Tree) (is : IsTreeOf SPARQL (kinds_of tokens) tree) where
  said : (r : Read) → Says text base r → r ≡ read text tokens base tree
  said r s =
      let same = same_tokens s.cut cut in
      let one : tree ≡ s.tree = s.the_tree.only tree (subst (λ ts. IsTreeOf SPARQL (kinds_of ts) tree) (sym same) is) in
      s.said ∙ (λ i. read text (same i) base (sym one i))

  pub no_query_fault : fault_of (read text tokens base tree) ≡ None → (f : QueryFault) → IsFaultOf text base f → ⊥
  no_query_fault fine f (lexical b) = not_bad utf8 cut b
  no_query_fault fine f (too_deep u d) = deep_not_shallow sparql d.cut cut d.deep few
  no_query_fault fine f (dead u d) =
      let here = subst (λ ts. Derives SPARQL (0 ∷ []) (kinds_of ts) ws) (sym (same_tokens d.cut cut)) derived in
      alive_text SPARQL (kinds_of d.tokens) ws d.token here d.dead
  no_query_fault fine f (cut_off u d e) =
      let here = subst (λ ts. Derives SPARQL (0 ∷ []) (kinds_of ts) ws) (sym (same_tokens d.cut cut)) derived in
      d.short.no_text ws here
  no_query_fault fine f (checked r u s e) = none-some _ (sym fine ∙ ap fault_of (sym (said r s)) ∙ e)

  one_query : (q : Query) → IsQueryText text base q → q ≡ query_of (read text tokens base tree)
  one_query q s = s.is ∙ ap query_of (said s.said s.says)

  pub same_query : (q r : Query) → IsQueryText text base q → IsQueryText text base r → q ≡ r
  same_query q r h k = one_query q h ∙ sym (one_query r k)
