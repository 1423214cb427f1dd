use Rattle.std.proofs.Common.{◌<◌, length, map, arith}
use Rattle.vkg_lists.proofs.Walks.{filter_map-take_more}
use Rattle.vkg_plan.specs.Seen.{plan_seen}
use Rattle.vkg_unfolded.specs.Unfolded.{exists_member}
use Rattle.vkg_unfold.proofs.Joins.{join_of}
use Rattle.vkg_unfold.proofs.pattern.exists_in.Goals as goal

pub loop-rule-preserved : goal.loop-rule-preserved
loop-rule-preserved c =
    let inside : c.loop-rule.rule-index < length c.args.rules.now = omega arith in
    filter_map-take_more (exists_member c.args.schema.now c.args.in_graph.now) c.args.rules.now (map plan_seen c.loop-rule.members) (map plan_seen c.push_exists.new.members) c.loop-rule.rule-index c.rule-item.result inside c.rule-item.is c.loop-rule.invariant c.in_ok-push_exists.ensures

pub push_exists-requires : goal.push_exists-requires
push_exists-requires c =
    let inside : c.loop-rule.rule-index < length c.args.rules.now = omega arith in
    join_of c.args.schema.now c.args.rules.now c.loop-rule.rule-index c.rule-item.result c.requires inside c.rule-item.is
