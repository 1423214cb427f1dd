-- The value with one more piece.
use Rattle.std.proofs.Common.{◌∙◌, ap, Some, None, string_bytes}
use Rattle.std.specs.Prelude.{if◌then◌else◌}
use Rattle.vkg_quads.proofs.Pieces.{value_more}
use Rattle.vkg_quads.proofs.made.value_of.Goals as goal

pub loop-piece-preserved : goal.loop-piece-preserved
loop-piece-preserved c =
    let all = c.add_piece.new.all in
    c.loop-piece.invariant
    ∙ value_more c.args.sort.now c.args.row.now c.args.pieces.now c.loop-piece.piece-index c.piece-item.result (string_bytes c.loop-piece.all) (Some (string_bytes all)) c.loop-piece-test.true c.piece-item.is
    (c.in_ok-there.ensures ∙ ap (λ b. if b then Some (string_bytes all) else None) c.if-not-there.false)
