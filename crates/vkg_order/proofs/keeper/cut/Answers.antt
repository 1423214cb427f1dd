use Rattle.std.proofs.Common.{◌∙◌, sym, ap, map}
use Rattle.std.proofs.lemmas.List.{take-map}
use Rattle.vkg_order.specs.Listed.{at_most}
use Rattle.vkg_order.proofs.Steps.{line_of}
use Rattle.vkg_order.proofs.keeper.cut.Goals as goal

pub returns-in-Some : goal.returns-in-Some
returns-in-Some c =
    ap (map line_of) c.truncate.ensures.items
    ∙ sym (take-map line_of c.in-Some.limit c.args.held.now.items)
    ∙ ap (λ o. at_most o (map line_of c.args.held.now.items)) (sym c.in-Some.is)
