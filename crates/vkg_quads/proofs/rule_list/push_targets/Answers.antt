use Rattle.std.proofs.Common.{◌<◌, ◌+◌, length, arith, append_assoc}
use Rattle.vkg_maps.specs.QuadRules.{object_rule}
use Rattle.vkg_quads.proofs.Targets.{targets_are}
use Rattle.vkg_quads.proofs.rule_list.push_targets.Goals.{else-is_empty-via-then-is_empty+else-is_empty-2, else-is_empty-via-else-is_empty}
use Rattle.vkg_quads.proofs.rule_list.push_targets.Goals as goal

pub returns : goal.returns
returns c =
    let some : 0 < length c.args.m.now.graphs + length c.args.graphs.now = elim c.else-is_empty.branch [ else-is_empty-via-then-is_empty+else-is_empty-2 w ↦ grind arith | else-is_empty-via-else-is_empty w ↦ grind arith ] in
    let e = targets_are (object_rule c.args.maps.now c.args.m.now c.args.p.now c.args.o.now) c.args.m.now.graphs c.args.graphs.now some in
    rw e (grind (arith, append_assoc))
