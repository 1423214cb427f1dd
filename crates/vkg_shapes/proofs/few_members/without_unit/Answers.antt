-- The first Unit is found where it stands.
use Rattle.std.proofs.Common.{◌∙◌, sym, arith}
use Rattle.vkg_shapes.proofs.Dropping.{found_here, not_here}
use Rattle.vkg_shapes.specs.FewMembers.{is_unit}
use Rattle.vkg_shapes.proofs.few_members.without_unit.Goals as goal

pub returns-then-is_unit : goal.returns-then-is_unit
returns-then-is_unit c =
    found_here is_unit c.args.ps.now c.loop-i.i c.index-ps-i.result c.in_ok-without.field-0 (omega arith) c.index-ps-i.is (sym c.is_unit.ensures ∙ c.if-is_unit.true) c.in_ok-without.ensures c.loop-i.invariant

pub loop-i-preserved : goal.loop-i-preserved
loop-i-preserved c = not_here is_unit c.args.ps.now c.loop-i.i c.index-ps-i.result (omega arith) c.index-ps-i.is (sym c.is_unit.ensures ∙ c.if-is_unit.false) c.loop-i.invariant
