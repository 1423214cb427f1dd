use Rattle.std.proofs.Common.{◌≡◌, ◌++◌, map, take}
use Rattle.vkg_sparql.specs.Seen.{key_seen}
use Rattle.vkg_expr.specs.Seen.{expr_seen}
use Rattle.vkg_unfolded.specs.Unfolded.{key_column}
use Rattle.vkg_unfold.proofs.query.push_keys.Given as goal

abbrev pub invariant-loop-key : goal.invariant-loop-key
invariant-loop-key l = map expr_seen l.columns ≡ map expr_seen l.initial.columns ++ map (key_column l.variables) (map key_seen (take l.key-index l.keys))
