-- What is left of the columns gives the whole.
use Rattle.std.proofs.Common.{◌≡◌, drop}
use Rattle.vkg_expr.specs.Seen.{expr_seen}
use Rattle.vkg_keys.specs.Keys.{with_itself}
use Rattle.vkg_keys.specs.Ties.{all_tied}
use Rattle.vkg_key_lefts.proofs.self_left.ties_columns.Given as goal

abbrev pub invariant-loop-column : goal.invariant-loop-column
invariant-loop-column l =
    all_tied (expr_seen l.c) l.first l.second (with_itself l.columns) ≡ all_tied (expr_seen l.c) l.first l.second (with_itself (drop l.column-index l.columns))
