use Rattle.std.proofs.Common.{◌≡◌, map, take}
use Rattle.vkg_order.specs.Values.{bound}
use Rattle.vkg_plain.proofs.lines.cells.Given as goal

abbrev pub invariant-loop-term : goal.invariant-loop-term
invariant-loop-term l = map bound l.cells.items ≡ take l.term-index l.terms
