-- The expression of a chain.
use Rattle.std.proofs.Common.{◌≡◌, ◌∙◌, ap, map, subst}
use Rattle.std.specs.Prelude.{IfOk}
use Rattle.vkg_expr.specs.Seen.{expr_seen}
use Rattle.vkg_sparql.specs.Seen.{condition_seen}
use Rattle.vkg_unfolded.specs.Conditions.{expr_of, gives_truth, truth_expr}
use Rattle.vkg_unfolded.specs.Unfolded.{merged}
use Rattle.vkg_unfold.proofs.Chains.{all_result, any_result}
use Rattle.vkg_unfold.proofs.conditions.+conditions.Goals as goal

pub expression-returns-in-And : goal.expression-returns-in-And
expression-returns-in-And t c =
    let at = merged c.args.mode.now c.args.left.now c.args.right.now in
    all_result at c.conjunction.result c.expression.result c.truths.result c.gives_truth.result c.in-And.first c.in-And.more c.args.condition.now c.conjunction.ensures
    (subst (λ d. IfOk c.expression.result (λ x. expr_seen x ≡ expr_of at (condition_seen d))) c.deref-in-And-2.ensures c.expression.ensures)
    (subst (λ ds. IfOk c.truths.result (λ fs. map expr_seen fs ≡ map (λ d. truth_expr at (condition_seen d)) ds)) c.as_slice.ensures c.truths.ensures)
    (c.gives_truth.ensures ∙ ap (λ d. gives_truth (condition_seen d)) c.deref-in-And.ensures)
    c.in-And.is

pub expression-returns-in-Or : goal.expression-returns-in-Or
expression-returns-in-Or t c =
    let at = merged c.args.mode.now c.args.left.now c.args.right.now in
    any_result at c.disjunction.result c.expression-in-Or.result c.truths-in-Or.result c.gives_truth-in-Or.result c.in-Or.first c.in-Or.more c.args.condition.now c.disjunction.ensures
    (subst (λ d. IfOk c.expression-in-Or.result (λ x. expr_seen x ≡ expr_of at (condition_seen d))) c.deref-in-Or-2.ensures c.expression-in-Or.ensures)
    (subst (λ ds. IfOk c.truths-in-Or.result (λ fs. map expr_seen fs ≡ map (λ d. truth_expr at (condition_seen d)) ds)) c.as_slice-in-Or.ensures c.truths-in-Or.ensures)
    (c.gives_truth-in-Or.ensures ∙ ap (λ d. gives_truth (condition_seen d)) c.deref-in-Or.ensures)
    c.in-Or.is
