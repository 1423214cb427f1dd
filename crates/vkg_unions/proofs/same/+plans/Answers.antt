-- A member of a list is less than the list; where a pair is not one, the lists are not.
use Rattle.std.proofs.Common.{◌∙◌, true, false, sym, arith}
use Rattle.vkg_rules.proofs.Members.{nodes-member}
use Rattle.vkg_unions.proofs.SamePairs.{longer_apart, pair_here}
use Rattle.vkg_unions.proofs.same.+plans.Goals as goal

pub same_plans-same_plan-requires : goal.same_plans-same_plan-requires
same_plans-same_plan-requires t c =
    let less = nodes-member c.args.ps.now c.loop-i.i c.index-ps-i.result (omega arith) c.index-ps-i.is in
    (omega (arith, less), tt)

pub same_plans-returns-then-ps-qs : goal.same_plans-returns-then-ps-qs
same_plans-returns-then-ps-qs t c = sym (longer_apart c.args.ps.now c.args.qs.now (λ e. omega arith))

pub same_plans-returns-then-not-same_plan : goal.same_plans-returns-then-not-same_plan
same_plans-returns-then-not-same_plan t c =
    sym (pair_here c.args.ps.now c.args.qs.now c.loop-i.i c.index-ps-i.result c.index-qs-i.result false (omega arith) (omega arith) c.index-ps-i.is c.index-qs-i.is
    (sym c.same_plan.ensures ∙ c.if-not-same_plan.true) c.loop-i.invariant)

pub same_plans-loop-i-preserved : goal.same_plans-loop-i-preserved
same_plans-loop-i-preserved t c =
    pair_here c.args.ps.now c.args.qs.now c.loop-i.i c.index-ps-i.result c.index-qs-i.result true (omega arith) (omega arith) c.index-ps-i.is c.index-qs-i.is
    (sym c.same_plan.ensures ∙ c.if-not-same_plan.false) c.loop-i.invariant
