-- The factors are counted one after the other, up to the bound.
use Rattle.std.proofs.Common.{◌∙◌, ◌+◌, ◌*◌, sym, ap, arith}
use Rattle.vkg_plan.specs.Seen.{plan_seen}
use Rattle.vkg_plan.proofs.SeenParts.{seen-Left}
use Rattle.vkg_spreads.specs.Counted.{capped}
use Rattle.vkg_spreads.specs.DistributeUnion.{branches}
use Rattle.vkg_spreads.proofs.Counting.{many_factors, next_factor, times_capped, within}
use Rattle.vkg_spreads.proofs.branches.+branches.Goals as goal

pub branches-returns-in-Left : goal.branches-returns-in-Left
branches-returns-in-Left t c =
    let p = c.in-Left.p in
    let q = c.in-Left.q in
    c.times.ensures
    ∙ times_capped (branches (plan_seen p)) (branches (plan_seen q)) c.branches-in-Left.result c.branches-in-Left-2.result
    (c.branches-in-Left.ensures ∙ ap (λ x. capped (branches (plan_seen x))) c.deref-in-Left.ensures)
    (c.branches-in-Left-2.ensures ∙ ap (λ x. capped (branches (plan_seen x))) c.deref-in-Left-2.ensures)
    ∙ ap (λ x. capped (branches x)) (sym (ap plan_seen c.in-Left.is ∙ seen-Left p q c.in-Left.field-2))

pub product-returns-then-count-gt-MOST : goal.product-returns-then-count-gt-MOST
product-returns-then-count-gt-MOST t c =
    let ps = c.args.ps.now in
    let i = c.loop-p.p-index in
    let n = c.loop-p.count in
    let k = c.times-count.result in
    many_factors ps (i + 1) k (omega arith)
    (next_factor ps i c.p-item.result n c.branches.result k (omega arith) c.p-item.is c.branches.ensures c.times-count.ensures c.loop-p.invariant.0)

pub product-loop-p-preserved : goal.product-loop-p-preserved
product-loop-p-preserved t c =
    let n = c.loop-p.count in (
      next_factor c.args.ps.now c.loop-p.p-index c.p-item.result n c.branches.result c.times-count.result (omega arith) c.p-item.is c.branches.ensures c.times-count.ensures c.loop-p.invariant.0,
      within (n * c.branches.result) c.times-count.result c.times-count.ensures,
    )
