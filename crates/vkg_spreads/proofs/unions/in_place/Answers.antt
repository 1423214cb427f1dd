-- The first union is replaced where it stands.
use Rattle.std.proofs.Common.{◌≡◌, ◌∙◌, ◌+◌, ◌∷◌, ◌++◌, take, drop, sym, ap, arith}
use Rattle.std.proofs.lemmas.Result.{IfOk-weaker}
use Rattle.vkg_plan.specs.Seen.{plan_seen}
use Rattle.vkg_rules.specs.StepSeen.{plans_seen}
use Rattle.vkg_spreads.specs.DistributeUnion.{in_place}
use Rattle.vkg_spreads.proofs.Placing.{all_stay, no_union_here, union_here}
use Rattle.vkg_spreads.proofs.unions.in_place.Goals as goal

pub returns-then-is_union : goal.returns-then-is_union
returns-then-is_union c =
    let ps = c.args.ps.now in
    let i = c.loop-i.i in
    let x = plan_seen c.args.x.now in
    let q = c.in_ok-copy.field-0 in
    IfOk-weaker c.replaced.result
    (λ r. r ≡ take i ps ++ q ∷ drop (i + 1) ps)
    (λ r. plans_seen r ≡ in_place x (plans_seen ps))
    (λ r e. union_here x ps i c.index-ps-i.result q r (omega arith) c.index-ps-i.is (sym c.is_union.ensures ∙ c.if-is_union.true) (ap plan_seen c.in_ok-copy.ensures) e c.loop-i.invariant)
    c.replaced.ensures

pub loop-i-preserved : goal.loop-i-preserved
loop-i-preserved c =
    no_union_here (plan_seen c.args.x.now) c.args.ps.now c.loop-i.i c.index-ps-i.result (omega arith) c.index-ps-i.is (sym c.is_union.ensures ∙ c.if-is_union.false) c.loop-i.invariant

pub returns : goal.returns
returns c =
    let ps = c.args.ps.now in
    let x = plan_seen c.args.x.now in
    IfOk-weaker c.copy_plans.result
    (λ r. r ≡ ps)
    (λ r. plans_seen r ≡ in_place x (plans_seen ps))
    (λ r e. ap plans_seen e ∙ all_stay x ps c.loop-i.i (omega arith) c.loop-i.invariant)
    c.copy_plans.ensures
