use Rattle.std.proofs.Common.{◌≡◌, drop}
use Rattle.vkg_expr.specs.Seen.{expr_seen}
use Rattle.vkg_keys.specs.Ties.{all_valued}
use Rattle.vkg_unique.specs.UnusedLeft.{is_over_first}
use Rattle.vkg_unique.proofs.unused_left.ties_columns.Given as goal

abbrev pub invariant-loop-column : goal.invariant-loop-column
invariant-loop-column l = all_valued (is_over_first l.n) (expr_seen l.c) l.n l.columns ≡ all_valued (is_over_first l.n) (expr_seen l.c) l.n (drop l.column-index l.columns)
