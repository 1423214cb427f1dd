use Rattle.std.proofs.Common.{◌≡◌, take, map, length}
use Rattle.vkg_expr.specs.TermExprs.{moved_piece}
use Rattle.vkg_row_rules.specs.RowTerms.{piece_of}
use Rattle.vkg_row_rules.proofs.row_terms.pieces_behind.Given as goal

abbrev pub invariant-loop-piece : goal.invariant-loop-piece
invariant-loop-piece l = l.out ≡ map (moved_piece (length l.before)) (map (piece_of l.kinds) (take l.piece-index l.pieces))
