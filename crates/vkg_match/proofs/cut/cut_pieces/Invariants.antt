use Rattle.std.proofs.Common.{◌≡◌, take}
use Rattle.vkg_match.specs.Cut.{cut_pieces}
use Rattle.vkg_match.proofs.cut.cut_pieces.Given as goal

abbrev pub invariant-loop-piece : goal.invariant-loop-piece
invariant-loop-piece l = l.so_far ≡ cut_pieces l.sort (take l.piece-index l.pieces)
