use Rattle.std.proofs.Common.{◌≡◌, true, drop}
use Rattle.vkg_match.specs.Cut.{are_parted}
use Rattle.vkg_match.proofs.breaks.separable.Given as goal

abbrev pub invariant-loop-piece : goal.invariant-loop-piece
invariant-loop-piece l = are_parted true l.pieces ≡ are_parted l.parted (drop l.piece-index l.pieces)
