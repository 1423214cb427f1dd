-- At the end each was passed.
use Rattle.std.proofs.Common.{◌∙◌, ap, arith, map}
use Rattle.std.proofs.lemmas.List.{take_all}
use Rattle.vkg_plan.specs.Seen.{plan_seen}
use Rattle.vkg_spreads.specs.DistributeUnion.{over}
use Rattle.vkg_spreads.proofs.Placing.{each_over}
use Rattle.vkg_spreads.proofs.distribute_union.over_each.Goals as goal

pub returns : goal.returns
returns c =
    let node = plan_seen c.args.node.now in
    let us = c.args.us.now in
    each_over node c.loop-u.all us (c.loop-u.invariant ∙ ap (map (λ u. over node (plan_seen u))) (take_all c.loop-u.u-index us (omega arith)))
