use Rattle.std.proofs.Common.{◌≡◌, false, length}
use Rattle.vkg_terms.specs.Name.{closes}
use Rattle.vkg_terms.proofs.name.is_closed.Given as goal

abbrev pub invariant-loop-first : goal.invariant-loop-first
invariant-loop-first l = closes l.some l.rest ≡ closes false l.fn.text

abbrev pub decreases-loop-first : goal.decreases-loop-first
decreases-loop-first l = length l.rest
