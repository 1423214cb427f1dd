use Rattle.std.proofs.Common.{◌≡◌, map, take, true}
use Rattle.vkg_equalities.proofs.table_columns.all_true.Given as goal

abbrev pub invariant-loop : goal.invariant-loop
invariant-loop g l = l.flags ≡ map (λ x. true) (take l.index l.items)
