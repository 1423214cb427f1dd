-- The columns until here.
use Rattle.std.proofs.Common.{◌≡◌, length, map}
use Rattle.vkg_columns.specs.Columns.{columns_from}
use Rattle.vkg_expr.specs.Seen.{expr_seen}
use Rattle.vkg_key_lefts.proofs.names.columns_behind.Given as goal

abbrev pub invariant-loop-i : goal.invariant-loop-i
invariant-loop-i l = map expr_seen l.columns ≡ columns_from (length l.first) l.i
