use Rattle.std.proofs.Common.{◌<◌, length, arith}
use Rattle.vkg_lists.specs.Lists.{AllBelow}
use Rattle.vkg_maps.specs.Within.{piece_columns}
use Rattle.vkg_row_rules.proofs.Places.{each_piece, of_item}
use Rattle.vkg_row_rules.proofs.row_terms.pieces_behind.Goals as goal

pub piece_behind-requires : goal.piece_behind-requires
piece_behind-requires c =
    let inside : c.loop-piece.piece-index < length c.args.pieces.now = omega arith in
    of_item (λ p. AllBelow (length c.args.kinds.now) (piece_columns p)) c.args.pieces.now c.loop-piece.piece-index c.piece-item.result
    (each_piece (length c.args.kinds.now) c.args.pieces.now c.requires) inside c.piece-item.is
