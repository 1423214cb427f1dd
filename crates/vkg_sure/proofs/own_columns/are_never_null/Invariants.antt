-- What is left decides.
use Rattle.std.proofs.Common.{◌≡◌, drop}
use Rattle.std.specs.List.{list_all}
use Rattle.vkg_equalities.specs.TableColumns.{flag_at}
use Rattle.vkg_sure.proofs.own_columns.are_never_null.Given as goal

abbrev pub invariant-loop-column : goal.invariant-loop-column
invariant-loop-column l = list_all (flag_at l.own) l.columns ≡ list_all (flag_at l.own) (drop l.column-index l.columns)
