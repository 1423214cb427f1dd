-- What was made so far is the part of the list that was passed, with the others put in.
use Rattle.std.proofs.Common.{◌≡◌, map, take}
use Rattle.vkg_columns.specs.Columns.{at_place}
use Rattle.vkg_expr.specs.Seen.{expr_seen}
use Rattle.vkg_expr.specs.Strict.{put}
use Rattle.vkg_columns.proofs.putting.+put.Given as goal

abbrev pub invariant-put_list-loop-e : goal.invariant-put_list-loop-e
invariant-put_list-loop-e l = map expr_seen l.done ≡ map (λ e. put (at_place (map expr_seen l.by)) (expr_seen e)) (take l.e-index l.list)
