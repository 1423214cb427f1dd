-- There is one answer.
use Rattle.std.proofs.Common.{◌≡◌, ℕ, List, Option, Some, None, ap, sym, ◌∙◌, subst}
use Rattle.std.proofs.lemmas.Option.{same_Some}
use Rattle.vkg_grammar.specs.Kinds.{kinds_of, start_at}
use Rattle.vkg_grammar.specs.OneTree.{IsTheTree}
use Rattle.vkg_grammar.specs.Parsing.{IsFirstDead, IsCutOff}
use Rattle.vkg_grammar.proofs.Outcomes.{same_tokens, alive_text, not_cut, one_dead, too_deep_once, deep_not_shallow}
use Rattle.vkg_grammar.proofs.Same.{tree_derives}
use Rattle.vkg_tokens.specs.Mark.{without_mark}
use Rattle.vkg_sparql.specs.declared.fault.QueryFault.{QueryFault}
use Rattle.vkg_sparql.specs.declared.grammar_table.TheConstants.{SPARQL}
use Rattle.vkg_sparql.specs.declared.query.Query.{Query}
use Rattle.vkg_sparql.specs.Reading.{sparql, kind_at, dead_check, fault, fault_of, query_of, read, Read, Says, IsTooDeepText, IsDeadText, IsCutOffText, IsQueryText, IsFaultOf, lexical, too_deep, dead, cut_off, checked, IsDetermined}
use Rattle.vkg_turtle.proofs.Lexical.{one_first, not_bad}

-- what was read of a text
one_said : {text base : List ℕ} {r s : Read} → Says text base r → Says text base s → r ≡ s
one_said {text = text} {base = base} a b =
    let t : b.tokens ≡ a.tokens = same_tokens b.cut a.cut in
    let n : b.tree ≡ a.tree = a.the_tree.only b.tree (subst (λ ts. IsTheTree SPARQL (kinds_of ts) b.tree) t b.the_tree).is in
    a.said ∙ (λ i. read text (sym t i) base (sym n i)) ∙ sym b.said

-- ---- a text of the grammar has no fault of the grammar

said_deep : {text base : List ℕ} {r : Read} {at : ℕ} → Says text base r → IsTooDeepText text at → ⊥
said_deep a x = deep_not_shallow sparql x.cut a.cut x.deep a.shallow

said_dead : {text base : List ℕ} {r : Read} {f : QueryFault} → Says text base r → IsDeadText text f → ⊥
said_dead a x =
    let t : x.tokens ≡ a.tokens = same_tokens x.cut a.cut in
    let d = tree_derives a.the_tree.is in
    alive_text SPARQL (kinds_of a.tokens) d.0 x.token d.1 (subst (λ ts. IsFirstDead SPARQL (kinds_of ts) x.token) t x.dead)

said_short : {text base : List ℕ} {r : Read} → Says text base r → IsCutOffText text → ⊥
said_short a x =
    let t : x.tokens ≡ a.tokens = same_tokens x.cut a.cut in
    let d = tree_derives a.the_tree.is in
    (subst (λ ts. IsCutOff SPARQL (kinds_of ts)) t x.short).no_text d.0 d.1

-- ---- and else one

one_too_deep : {text : List ℕ} {a b : ℕ} → IsTooDeepText text a → IsTooDeepText text b → a ≡ b
one_too_deep x y = too_deep_once sparql x.cut y.cut x.deep y.deep x.place y.place

one_dead_text : {text : List ℕ} {f g : QueryFault} → IsDeadText text f → IsDeadText text g → f ≡ g
one_dead_text x y =
    let t : y.tokens ≡ x.tokens = same_tokens y.cut x.cut in
    let d : IsFirstDead SPARQL (kinds_of x.tokens) y.token = subst (λ ts. IsFirstDead SPARQL (kinds_of ts) y.token) t y.dead in
    let n : x.token ≡ y.token = one_dead SPARQL (kinds_of x.tokens) x.token y.token x.dead d in
    x.named ∙ (λ i. fault (dead_check (kind_at (sym t i) (n i))) (start_at (sym t i) (n i))) ∙ sym y.named

dead_or_short : {text : List ℕ} {f : QueryFault} → IsDeadText text f → IsCutOffText text → ⊥
dead_or_short x y =
    let t : y.tokens ≡ x.tokens = same_tokens y.cut x.cut in
    not_cut SPARQL (kinds_of x.tokens) x.token x.dead (subst (λ ts. IsCutOff SPARQL (kinds_of ts)) t y.short)

-- ---- one answer

one_value : (text base : List ℕ) (q other : Query) → IsQueryText text base q → IsQueryText text base other → q ≡ other
one_value text base q other a b = a.is ∙ ap query_of (one_said a.says b.says) ∙ sym b.is

not_both : (text base : List ℕ) (q : Query) (f : QueryFault) → IsQueryText text base q → IsFaultOf text base f → ⊥
not_both text base q f a (lexical e) = not_bad a.utf8 a.says.cut e
not_both text base q f a (too_deep u d) = said_deep a.says d
not_both text base q f a (dead u d) = said_dead a.says d
not_both text base q f a (cut_off u d e) = said_short a.says d
not_both text base q f a (checked r u s e) = absurd (let g : ◌≡◌ {A = Option QueryFault} None (Some f) = sym a.fine ∙ ap fault_of (one_said a.says s) ∙ e in cc)

one_fault : (text base : List ℕ) (f g : QueryFault) → IsFaultOf text base f → IsFaultOf text base g → f ≡ g
one_fault text base f g (lexical e) (lexical d) = ap (fault 1) (one_first e d)
one_fault text base f g (lexical e) (too_deep u d) = absurd (not_bad u d.cut e)
one_fault text base f g (lexical e) (dead u d) = absurd (not_bad u d.cut e)
one_fault text base f g (lexical e) (cut_off u d p) = absurd (not_bad u d.cut e)
one_fault text base f g (lexical e) (checked r u d p) = absurd (not_bad u d.cut e)
one_fault text base f g (too_deep u e) (lexical d) = absurd (not_bad u e.cut d)
one_fault text base f g (too_deep u e) (too_deep v d) = ap (fault 3) (one_too_deep e d)
one_fault text base f g (too_deep u e) (dead v d) = absurd (deep_not_shallow sparql e.cut d.cut e.deep d.shallow)
one_fault text base f g (too_deep u e) (cut_off v d p) = absurd (deep_not_shallow sparql e.cut d.cut e.deep d.shallow)
one_fault text base f g (too_deep u e) (checked r v d p) = absurd (said_deep d e)
one_fault text base f g (dead u e) (lexical d) = absurd (not_bad u e.cut d)
one_fault text base f g (dead u e) (too_deep v d) = absurd (deep_not_shallow sparql d.cut e.cut d.deep e.shallow)
one_fault text base f g (dead u e) (dead v d) = one_dead_text e d
one_fault text base f g (dead u e) (cut_off v d p) = absurd (dead_or_short e d)
one_fault text base f g (dead u e) (checked r v d p) = absurd (said_dead d e)
one_fault text base f g (cut_off u e q) (lexical d) = absurd (not_bad u e.cut d)
one_fault text base f g (cut_off u e q) (too_deep v d) = absurd (deep_not_shallow sparql d.cut e.cut d.deep e.shallow)
one_fault text base f g (cut_off u e q) (dead v d) = absurd (dead_or_short d e)
one_fault text base f g (cut_off u e q) (cut_off v d p) = ap (fault 2) (q ∙ sym p)
one_fault text base f g (cut_off u e q) (checked r v d p) = absurd (said_short d e)
one_fault text base f g (checked s u e q) (lexical d) = absurd (not_bad u e.cut d)
one_fault text base f g (checked s u e q) (too_deep v d) = absurd (said_deep e d)
one_fault text base f g (checked s u e q) (dead v d) = absurd (said_dead e d)
one_fault text base f g (checked s u e q) (cut_off v d p) = absurd (said_short e d)
one_fault text base f g (checked s u e q) (checked r v d p) = same_Some f g (sym q ∙ ap fault_of (one_said e d) ∙ p)

pub determined : IsDetermined
determined = record {
  one_value = λ bytes. one_value (without_mark bytes);
  one_fault = λ bytes. one_fault (without_mark bytes);
  not_both = λ bytes. not_both (without_mark bytes);
}
