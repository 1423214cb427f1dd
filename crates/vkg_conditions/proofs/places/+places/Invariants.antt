-- The members until here stay; three times the weight falls, with a rest for each function.
use Rattle.std.proofs.Common.{◌+◌, ◌*◌}
use Rattle.vkg_expr.specs.Places.{first_place}
use Rattle.vkg_expr.proofs.Weights.{weight_of, weight_of_each}
use Rattle.vkg_conditions.proofs.Found.{Kept, one_for}
use Rattle.vkg_conditions.proofs.places.+places.Given as goal

abbrev pub decreases-first_place : goal.decreases-first_place
decreases-first_place g l = 3 * weight_of l.e.now + 1

abbrev pub decreases-inside : goal.decreases-inside
decreases-inside g l = 3 * weight_of l.e.now

abbrev pub decreases-in_parts : goal.decreases-in_parts
decreases-in_parts g l = 3 * weight_of_each l.list.now + 2

abbrev pub invariant-in_parts-loop-i : goal.invariant-in_parts-loop-i
invariant-in_parts-loop-i g l = Kept (one_for (first_place (g.C.Change.becomes l.change))) l.list l.i
