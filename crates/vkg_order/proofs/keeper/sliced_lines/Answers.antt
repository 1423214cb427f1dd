use Rattle.std.proofs.Common.{◌∙◌, ap, drop, length, subst, arith, rules}
use Rattle.std.specs.Prelude.{IfOk, ◌≡◌, min}
use Rattle.vkg_order.proofs.Sliced.{slice-is}
use Rattle.vkg_order.proofs.keeper.sliced_lines.Goals as goal

pub returns : goal.returns
returns c =
    let held = c.args.held.items in
    let n : c.min-start.result ≡ min (length held) c.args.slice.offset = first_of (search rules, omega arith, cc) in
    let a : c.in_ok-asked.asked.items ≡ drop (min (length held) c.args.slice.offset) held = c.in_ok-asked.ensures.tail ∙ ap (λ k. drop k held) n in
    subst (λ all. IfOk c.lines_of.result (λ lines. lines ≡ all)) (slice-is c.args.slice held c.in_ok-asked.asked.items c.cut.new.held.items c.cut.ensures a) c.lines_of.ensures
