use Rattle.std.proofs.Common.{◌≡◌, ◌++◌, flat_map, take, string_bytes}
use Rattle.vkg_terms.specs.DotSegments.{piece_text}
use Rattle.vkg_terms.proofs.dot_segments.push_pieces.Given as goal

abbrev pub invariant-loop-piece : goal.invariant-loop-piece
invariant-loop-piece l = string_bytes l.out ≡ string_bytes l.fn.out ++ flat_map piece_text (take l.piece-index l.pieces)
