use Rattle.std.proofs.Common.{◌∙◌, sym, ap}
use Rattle.vkg_order.specs.Listed.{at_most}
use Rattle.vkg_order.proofs.solutions.cut.Goals as goal

pub returns-in-Some : goal.returns-in-Some
returns-in-Some c = c.truncate.ensures.items ∙ ap (λ o. at_most o c.args.found.now.items) (sym c.in-Some.is)
