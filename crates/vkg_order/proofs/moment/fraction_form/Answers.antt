use Rattle.std.proofs.Common.{◌≡◌, ◌∙◌, ◌+◌, ◌-◌, ◌&&◌, true, length, take, sym, ap, arith, rules, nat_le, Some}
use Rattle.std.specs.Bool.{then_some}
use Rattle.std.proofs.lemmas.Bool.Decides.{nat_tests}
use Rattle.vkg_cells.specs.declared.cell.Cell.TheVariants as cell
use Rattle.vkg_cells.specs.Number.{after_point, is_digits, without_trailing_zeros}
use Rattle.std.specs.Prelude.{◌++◌}
use Rattle.vkg_order.proofs.Moments.{fraction-cut, fraction-long}
use Rattle.vkg_order.proofs.moment.fraction_form.Goals as goal

pub returns : goal.returns
returns c = λ front e.
    let text = c.args.text.now in
    let fraction = c.args.fraction.now in
    let long = fraction-long text fraction c.requires in
    let t : (c.args.is_moment && is_digits fraction && nat_le (length fraction) 9) ≡ true = first_of (search rules, grind (arith, nat_tests)) in
    let start = length text - length fraction - 1 in
    let p : c.point_length.result ≡ length (after_point (without_trailing_zeros fraction)) = cc in
    let s = fraction-cut text front fraction start c.point_length.result e (omega (arith, long)) p in
    let b : c.as_bytes-3.result.now ≡ text = cc in
    ap (λ l. Some (cell.Stamp (take (start + c.point_length.result) l))) b
    ∙ ap (λ l. Some (cell.Stamp l)) s
    ∙ sym (ap (λ p. then_some p (cell.Stamp (front ++ after_point (without_trailing_zeros fraction)))) t)
