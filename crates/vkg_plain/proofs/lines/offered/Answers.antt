use Rattle.std.proofs.Common.{◌∙◌, ap, arith, drop, refl, take}
use Rattle.vkg_algebra.specs.Answer.{solution_line}
use Rattle.vkg_algebra.proofs.Offers.{offered_more, one_more_at, stands_none}
use Rattle.vkg_plain.proofs.lines.offered.Goals as goal

pub loop-row-init : goal.loop-row-init
loop-row-init c = record { asked = refl; stands = stands_none c.args.keeper.modifiers c.args.keeper.held c.requires }

pub loop-row-preserved : goal.loop-row-preserved
loop-row-preserved c = record {
  asked = c.in_ok-offer.ensures.asked ∙ c.loop-row.invariant.asked;
  stands = offered_more (λ s. s) c.args.width c.args.keeper.modifiers _ c.args.rows.now c.loop-row.row-index _ _ c.row-item.result _ _ c.loop-row.invariant.asked c.loop-row.invariant.stands
      (one_more_at (λ s. s) c.args.width c.args.rows.now c.loop-row.row-index c.row-item.result (omega arith) c.row-item.is)
      (c.in_ok-cells.ensures ∙ c.parts.ensures.behind ∙ ap (drop c.args.width) c.as_slice.ensures)
      (c.in_ok-solution_line.ensures ∙ ap solution_line (c.parts.ensures.shown ∙ ap (take c.args.width) c.as_slice.ensures)) c.in_ok-offer.ensures.ok;
}
