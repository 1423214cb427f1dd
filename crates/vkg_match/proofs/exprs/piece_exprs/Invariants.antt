use Rattle.std.proofs.Common.{◌≡◌, map, take}
use Rattle.vkg_expr.specs.Seen.{expr_seen}
use Rattle.vkg_expr.specs.TermExprs.{piece_expr}
use Rattle.vkg_match.proofs.exprs.piece_exprs.Given as goal

abbrev pub invariant-loop-piece : goal.invariant-loop-piece
invariant-loop-piece l = map expr_seen l.parts ≡ map (piece_expr l.sort) (take l.piece-index l.pieces)
