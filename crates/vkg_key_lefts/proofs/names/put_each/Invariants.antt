-- What was made so far is the part of the list that was passed, with the others put in.
use Rattle.std.proofs.Common.{◌≡◌, map, take}
use Rattle.vkg_columns.specs.Columns.{at_place}
use Rattle.vkg_expr.specs.Seen.{expr_seen}
use Rattle.vkg_expr.specs.Strict.{put}
use Rattle.vkg_key_lefts.proofs.names.put_each.Given as goal

abbrev pub invariant-loop-e : goal.invariant-loop-e
invariant-loop-e l = map expr_seen l.all ≡ map (put (at_place (map expr_seen l.by))) (map expr_seen (take l.e-index l.es))
