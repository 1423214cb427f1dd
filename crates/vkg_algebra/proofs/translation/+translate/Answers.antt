-- The steps that are lemmas on algebras.
use Rattle.std.proofs.Common.{◌≡◌, ◌∙◌, [], IfOk, drop, sym, subst, ap, arith}
use Rattle.std.proofs.lemmas.List.{drop_all}
use Rattle.vkg_sparql.specs.Seen.{group_seen}
use Rattle.vkg_algebra.specs.Algebra.{Bgp, LeftJoin, Union}
use Rattle.vkg_algebra.specs.Seen.{algebra_seen, condition_seen_if_any}
use Rattle.vkg_algebra.specs.Simplified.{grown_by}
use Rattle.vkg_algebra.specs.Translation.{condition_of, elements, group_algebra, pattern_of, simplified, tests_of}
use Rattle.vkg_algebra.proofs.Translations.{simplified_pattern, grown_optional, united_at_first, united_more}
use Rattle.vkg_algebra.proofs.translation.+translate.Goals as goal

pub optional-returns : goal.optional-returns
optional-returns t c =
    let es = elements (group_seen c.args.parts.now) in
    let pattern : algebra_seen c.in_ok-pattern.pattern ≡ simplified (pattern_of es) = c.in_ok-pattern.ensures in
    let condition : condition_seen_if_any c.in_ok-condition.condition ≡ condition_of (tests_of es) = c.in_ok-condition.ensures in
    subst (λ x. IfOk c.left_joined.result (λ a. algebra_seen a ≡ x)) ((λ i. LeftJoin (algebra_seen c.args.grown) (pattern i) (condition i)) ∙ sym (grown_optional (algebra_seen c.args.grown) es)) c.left_joined.ensures

pub pattern-returns : goal.pattern-returns
pattern-returns t c =
    let done : drop c.loop-part.part-index c.args.parts.now ≡ [] = drop_all c.loop-part.part-index c.args.parts.now (omega arith) in
    let whole : grown_by (algebra_seen c.loop-part.growing.grown) c.loop-part.growing.block (elements (group_seen [])) ≡ grown_by (Bgp []) [] (elements (group_seen c.args.parts.now)) = ap (λ ps. grown_by (algebra_seen c.loop-part.growing.grown) c.loop-part.growing.block (elements (group_seen ps))) (sym done) ∙ c.loop-part.invariant in
    subst (λ x. IfOk c.joined_block.result (λ a. algebra_seen a ≡ x)) (whole ∙ sym (simplified_pattern (elements (group_seen c.args.parts.now)))) c.joined_block.ensures

pub inner-loop-parts-init : goal.inner-loop-parts-init
inner-loop-parts-init t c =
    let first : algebra_seen c.in_ok-whole-in-Groups.whole ≡ simplified (group_algebra (elements (group_seen c.as_slice-in-Groups.result.now))) = c.in_ok-whole-in-Groups.ensures in
    united_at_first c.in-Groups.is c.as_slice-in-Groups.ensures c.as_slice-parts-items.ensures first

pub inner-loop-parts-preserved : goal.inner-loop-parts-preserved
inner-loop-parts-preserved t c =
    let next : algebra_seen c.in_ok-next-in-Groups.next ≡ simplified (group_algebra (elements (group_seen c.as_slice-in-loop-parts.result.now))) = c.in_ok-next-in-Groups.ensures in
    let whole : algebra_seen c.in_ok-whole-in-Groups-2.whole ≡ Union (algebra_seen c.loop-parts.whole) (algebra_seen c.in_ok-next-in-Groups.next) = c.in_ok-whole-in-Groups-2.ensures in
    united_more c.as_slice-parts-items.result.now c.loop-parts.parts-index c.loop-parts-test.true c.parts-item.is c.as_slice-in-loop-parts.ensures next whole ∙ c.loop-parts.invariant
