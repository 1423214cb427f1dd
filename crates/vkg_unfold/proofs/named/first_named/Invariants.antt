use Rattle.std.proofs.Common.{◌≡◌, map, drop}
use Rattle.std.specs.Prelude.{find}
use Rattle.vkg_unfold.specs.Parts.{named_seen}
use Rattle.vkg_unfolded.specs.Unfolded.{same_name}
use Rattle.vkg_unfold.proofs.named.first_named.Given as goal

abbrev pub invariant-loop-first : goal.invariant-loop-first
invariant-loop-first l = find (same_name (named_seen l.column)) (map named_seen l.before) ≡ find (same_name (named_seen l.column)) (map named_seen (drop l.first-index l.before))
