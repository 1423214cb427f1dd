use Rattle.std.proofs.Common.{◌≡◌, ◌∙◌, Some, None, sym}
use Rattle.vkg_cells.specs.Moment.{cut}
use Rattle.vkg_order.proofs.Moments.{cut-back, moment-none, moment-some}
use Rattle.vkg_order.proofs.moment.moment_form.Goals as goal

pub returns-in_default : goal.returns-in_default
returns-in_default c =
    let e : cut 84 c.args.text.now ≡ None = sym c.in_default.ensures in
    sym (moment-none c.args.text.now e)

pub form_of_parts-requires : goal.form_of_parts-requires
form_of_parts-requires c =
    let e : cut 84 c.args.text.now ≡ Some (c.in-Some.day.now, c.in-Some.clock.now) = sym c.in-Some.ensures in
    cut-back 84 c.args.text.now (c.in-Some.day.now, c.in-Some.clock.now) e

pub returns : goal.returns
returns c =
    let e : cut 84 c.args.text.now ≡ Some (c.in-Some.day.now, c.in-Some.clock.now) = sym c.in-Some.ensures in
    c.form_of_parts.ensures ∙ sym (moment-some c.args.text.now (c.in-Some.day.now, c.in-Some.clock.now) e)
