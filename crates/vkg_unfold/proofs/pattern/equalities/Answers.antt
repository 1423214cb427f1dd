use Rattle.std.proofs.Common.{get_or}
use Rattle.std.specs.Prelude.{slice_get}
use Rattle.vkg_lists.proofs.Members.{recursion_at}
use Rattle.vkg_maps.specs.Within.{kinds_at}
use Rattle.vkg_unfolded.specs.FittingRules.{FitsCondition}
use Rattle.vkg_unfold.proofs.Joins.{there}
use Rattle.vkg_unfold.proofs.pattern.equalities.Goals as goal

pub condition-requires : goal.condition-requires
condition-requires c =
    let child = kinds_at c.args.schema.now c.args.child in
    let parents = kinds_at c.args.schema.now c.args.parents in
    let pair = get_or c.args.conditions.now c.loop-column.column-index (0, 0) in
    there (slice_get child pair.0) parents pair.1
    (recursion_at (FitsCondition child parents) c.args.conditions.now c.loop-column.column-index (0, 0) c.requires c.loop-column-test.true)
