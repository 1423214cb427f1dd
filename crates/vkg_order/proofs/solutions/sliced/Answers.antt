use Rattle.std.proofs.Common.{◌∙◌, ap, drop, length, arith, rules}
use Rattle.std.specs.Prelude.{◌≡◌, min}
use Rattle.vkg_order.specs.Listed.{at_most}
use Rattle.vkg_order.proofs.Sliced.{drop-upto}
use Rattle.vkg_order.proofs.solutions.sliced.Goals as goal

pub returns : goal.returns
returns c =
    let found = c.args.found.items in
    let n : c.min-start.result ≡ min (length found) c.args.slice.offset = first_of (search rules, omega arith, cc) in
    let a : c.in_ok-asked.asked.items ≡ drop (min (length found) c.args.slice.offset) found = c.in_ok-asked.ensures.tail ∙ ap (λ k. drop k found) n in
    c.cut.ensures ∙ ap (at_most c.args.slice.limit) (a ∙ drop-upto found c.args.slice.offset)
