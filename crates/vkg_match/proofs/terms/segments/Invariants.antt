use Rattle.std.proofs.Common.{◌≡◌, length}
use Rattle.vkg_match.specs.Seen.{verdict_seen}
use Rattle.vkg_match.specs.Verdict.{both, segments}
use Rattle.vkg_match.proofs.terms.segments.Given as goal

abbrev pub invariant-loop-left : goal.invariant-loop-left
invariant-loop-left l = segments l.sort l.fn.ms l.fn.ns ≡ both (verdict_seen l.verdict) (segments l.sort l.left l.right)

abbrev pub decreases-loop-left : goal.decreases-loop-left
decreases-loop-left l = length l.left
