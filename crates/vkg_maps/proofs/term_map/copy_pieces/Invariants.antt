use Rattle.std.proofs.Common.{◌≡◌, take}
use Rattle.vkg_maps.proofs.term_map.copy_pieces.Given as goal

abbrev pub invariant-loop-piece : goal.invariant-loop-piece
invariant-loop-piece l = l.copied ≡ take l.piece-index l.pieces
