use Rattle.std.proofs.Common.{◌≡◌, map, take}
use Rattle.vkg_expr.specs.Seen.{expr_seen}
use Rattle.vkg_equalities.specs.TableColumns.{carries}
use Rattle.vkg_equalities.proofs.table_columns.carried.Given as goal

abbrev pub invariant-loop-e : goal.invariant-loop-e
invariant-loop-e l = l.found ≡ map (carries l.fn.flags) (map expr_seen (take l.e-index l.es))
