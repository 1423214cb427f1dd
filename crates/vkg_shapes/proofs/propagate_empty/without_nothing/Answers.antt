-- The first Empty is found where it stands.
use Rattle.std.proofs.Common.{◌∙◌, sym, arith}
use Rattle.vkg_shapes.proofs.Dropping.{found_here, not_here}
use Rattle.vkg_shapes.specs.PropagateEmpty.{is_nothing}
use Rattle.vkg_shapes.proofs.propagate_empty.without_nothing.Goals as goal

pub returns-then-is_nothing : goal.returns-then-is_nothing
returns-then-is_nothing c =
    found_here is_nothing c.args.ps.now c.loop-i.i c.index-ps-i.result c.in_ok-without.field-0 (omega arith) c.index-ps-i.is (sym c.is_nothing.ensures ∙ c.if-is_nothing.true) c.in_ok-without.ensures c.loop-i.invariant

pub loop-i-preserved : goal.loop-i-preserved
loop-i-preserved c = not_here is_nothing c.args.ps.now c.loop-i.i c.index-ps-i.result (omega arith) c.index-ps-i.is (sym c.is_nothing.ensures ∙ c.if-is_nothing.false) c.loop-i.invariant
