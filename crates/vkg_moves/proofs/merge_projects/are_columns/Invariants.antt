-- What is left of the list gives the whole.
use Rattle.std.proofs.Common.{◌≡◌, drop, map}
use Rattle.vkg_expr.specs.Seen.{expr_seen}
use Rattle.vkg_moves.specs.MergeProjects.{are_columns_from}
use Rattle.vkg_moves.proofs.merge_projects.are_columns.Given as goal

abbrev pub invariant-loop-i : goal.invariant-loop-i
invariant-loop-i l = are_columns_from 0 (map expr_seen l.es) ≡ are_columns_from l.i (map expr_seen (drop l.i l.es))
