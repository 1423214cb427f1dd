use Rattle.std.proofs.Common.{◌≡◌, ◌∙◌, ◌++◌, ◌∷◌, ◌&&◌, Some, sym, ap, length, nat_le, append_assoc}
use Rattle.std.specs.Prelude.{option_map}
use Rattle.std.specs.Bool.{then_some}
use Rattle.vkg_cells.specs.declared.cell.Cell.TheVariants as cell
use Rattle.vkg_cells.specs.Moment.{cut, form_at, is_clock, is_date}
use Rattle.vkg_cells.specs.Number.{after_point, is_digits, without_trailing_zeros}
use Rattle.vkg_order.proofs.Moments.{cut-back, fraction-form}
use Rattle.vkg_order.proofs.moment.form_of_parts.Goals as goal

pub fraction_form-requires : goal.fraction_form-requires
fraction_form-requires c =
    let day = c.args.day.now in
    let clock = c.in-Some.clock.now in
    let fraction = c.in-Some.fraction.now in
    let e : cut 46 c.args.time.now ≡ Some (clock, fraction) = sym c.in-Some.ensures in
    (day ++ 84 ∷ clock, c.requires ∙ ap (λ l. day ++ 84 ∷ l) (cut-back 46 c.args.time.now (clock, fraction) e) ∙ sym (append_assoc day (84 ∷ clock) (46 ∷ fraction)))

pub returns-in-Some : goal.returns-in-Some
returns-in-Some c =
    let day = c.args.day.now in
    let clock = c.in-Some.clock.now in
    let fraction = c.in-Some.fraction.now in
    let e : cut 46 c.args.time.now ≡ Some (clock, fraction) = sym c.in-Some.ensures in
    let shape = c.requires ∙ ap (λ l. day ++ 84 ∷ l) (cut-back 46 c.args.time.now (clock, fraction) e) ∙ sym (append_assoc day (84 ∷ clock) (46 ∷ fraction)) in
    c.fraction_form.ensures (day ++ 84 ∷ clock) shape
    ∙ ap (λ b. then_some (b && is_digits fraction && nat_le (length fraction) 9) (cell.Stamp ((day ++ 84 ∷ clock) ++ after_point (without_trailing_zeros fraction)))) c.is_moment-in-Some.ensures
    ∙ fraction-form (is_date day) (is_clock clock) (is_digits fraction) (nat_le (length fraction) 9) day clock fraction
    ∙ ap (λ o. option_map cell.Stamp (form_at day c.args.time.now o)) (sym e)
