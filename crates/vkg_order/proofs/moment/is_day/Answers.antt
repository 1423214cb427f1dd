use Rattle.std.proofs.Common.{◌≡◌, ℕ, Bool, true, false, nat_eq, List, length, refl, arith, rules}
use Rattle.std.proofs.lemmas.Bool.Decides.{nat_tests}
use Rattle.vkg_cells.specs.Moment.{day_of_text, is_date}
use Rattle.vkg_order.proofs.moment.is_day.Goals as goal

not_long : (text : List ℕ) (b : Bool) → nat_eq (length text) 10 ≡ b → b ≡ false → nat_eq (length text) 10 ≡ is_date text
unfolding day_of_text
not_long text true e f = cc
not_long text false e f = rw e refl

pub returns-else-text-eq10 : goal.returns-else-text-eq10
returns-else-text-eq10 c =
    let h : nat_eq (length c.args.text.now) 10 ≡ false = first_of (search rules, grind (arith, nat_tests)) in
    not_long c.args.text.now _ refl h
