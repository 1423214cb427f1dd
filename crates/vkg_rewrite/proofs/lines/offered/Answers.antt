use Rattle.std.proofs.Common.{◌∙◌, map, refl}
use Rattle.vkg_expr.specs.Value.{term_of}
use Rattle.vkg_algebra.proofs.Offers.{offered_more, one_more, stands_none}
use Rattle.vkg_rewrite.proofs.Offers.{keys_are, line_is}
use Rattle.vkg_rewrite.proofs.lines.offered.Goals as goal

pub loop-i-init : goal.loop-i-init
loop-i-init c = record { asked = refl; stands = stands_none c.args.keeper.modifiers c.args.keeper.held c.requires }

pub loop-i-preserved : goal.loop-i-preserved
loop-i-preserved c = record {
  asked = c.in_ok-offer.ensures.asked ∙ c.loop-i.invariant.asked;
  stands = offered_more (map term_of) c.args.width c.args.keeper.modifiers _ c.args.rows.now c.loop-i.i _ _ c.row.result.now _ _ c.loop-i.invariant.asked c.loop-i.invariant.stands
      (one_more (map term_of) c.args.width c.args.rows.now c.loop-i.i c.row.result.now c.row.ensures)
      (keys_are c.args.width c.row.result.now _ _ c.parts.ensures.behind c.in_ok-copied.ensures) (line_is c.args.width c.row.result.now _ _ c.parts.ensures.shown c.in_ok-row_line.ensures) c.in_ok-offer.ensures.ok;
}
