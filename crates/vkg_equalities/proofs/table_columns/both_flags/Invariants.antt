use Rattle.std.proofs.Common.{◌≡◌, ◌++◌, length}
use Rattle.vkg_equalities.specs.TableColumns.{both_flags}
use Rattle.vkg_equalities.proofs.table_columns.both_flags.Given as goal

abbrev pub invariant-loop-left : goal.invariant-loop-left
invariant-loop-left l = l.both ++ both_flags l.left l.right ≡ both_flags l.fn.a l.fn.b

abbrev pub decreases-loop-left : goal.decreases-loop-left
decreases-loop-left l = length l.left
