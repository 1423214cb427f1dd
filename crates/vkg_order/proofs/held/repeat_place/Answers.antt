use Rattle.std.proofs.Common.{◌∙◌, sym, ap}
use Rattle.std.specs.List.{position}
use Rattle.vkg_order.specs.Kept.{repeat_place}
use Rattle.vkg_order.proofs.Entering.{has_line, repeat-within}
use Rattle.vkg_order.proofs.held.repeat_place.Goals as goal

pub returns-in-Some-clause-place : goal.returns-in-Some-clause-place
returns-in-Some-clause-place c =
    c.find_line.ensures ∙ (λ j. position (has_line (c.line.ensures j)) c.in-Some.behind.now) ∙ ap repeat_place (sym c.in-Some.ensures.cases.0)

pub returns-in-Some-clause-within : goal.returns-in-Some-clause-within
returns-in-Some-clause-within c =
    repeat-within c.line.result.now c.in-Some.first.now c.in-Some.behind.now c.args.held.now c.find_line.result c.in-Some.ensures.cases.0 c.find_line.ensures
