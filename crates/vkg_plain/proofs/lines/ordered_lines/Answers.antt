use Rattle.std.proofs.Common.{◌∙◌, map, subst}
use Rattle.vkg_order.specs.Kept.{StandFor}
use Rattle.vkg_sparql.specs.Seen.{query_seen}
use Rattle.vkg_algebra.specs.Answer.{modifiers_of, solution_entry}
use Rattle.vkg_algebra.proofs.Offers.{finished}
use Rattle.vkg_plain.proofs.lines.ordered_lines.Goals as goal

pub returns : goal.returns
returns c = finished c.finish.result (modifiers_of (query_seen c.args.query.now)) c.new-keeper.result.modifiers c.in_ok-keeper.keeper.modifiers c.in_ok-keeper.keeper.held _ c.finish.ensures
    c.in_ok-keeper.ensures.asked (c.new-keeper.ensures.asked ∙ c.in_ok-modifiers_of.ensures) (subst (λ n. StandFor c.new-keeper.result.modifiers c.in_ok-keeper.keeper.held (map (solution_entry n) c.args.rows.now)) c.in_ok-width.ensures c.in_ok-keeper.ensures.stands)
