-- What is left decides.
use Rattle.std.proofs.Common.{◌≡◌, ◌||◌, drop, map}
use Rattle.std.specs.List.{list_all}
use Rattle.vkg_columns.specs.Columns.{at_place}
use Rattle.vkg_expr.specs.Seen.{expr_seen}
use Rattle.vkg_expr.specs.Strict.{put}
use Rattle.vkg_key_lefts.specs.SelfLeft.{is_left, is_null_unless}
use Rattle.vkg_key_lefts.proofs.kept.all_kept.Given as goal

abbrev pub invariant-loop-e : goal.invariant-loop-e
invariant-loop-e l =
    list_all (λ e. is_left l.n e || is_null_unless l.schema l.x (expr_seen l.c) (put (at_place (map expr_seen l.names)) e)) (map expr_seen l.es)
    ≡ list_all (λ e. is_left l.n e || is_null_unless l.schema l.x (expr_seen l.c) (put (at_place (map expr_seen l.names)) e)) (map expr_seen (drop l.e-index l.es))
