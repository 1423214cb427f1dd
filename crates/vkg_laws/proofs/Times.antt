-- The forms of times of day are ordered as the times.
use Rattle.std.proofs.Common.{◌≡◌, ◌∙◌, ◌≤◌, ◌++◌, ◌∷◌, ◌&&◌, ℕ, Bool, true, false, List, [], Option, Some, None, refl, sym, length, nat_le, leb-true, lit≤}
use Rattle.std.specs.Ordering.{nat_cmp, ordering_then}
use Rattle.std.specs.Cmp.Lexicographic.{slice_cmp}
use Rattle.std.specs.Str.Parse.{AllDigits}
use Rattle.std.specs.declared.cmp.Ordering.{Ordering}
use Rattle.std.proofs.lemmas.Option.{none-some, same_Some}
use Rattle.vkg_lists.proofs.Bools.{and_parts}
use Rattle.vkg_lists.proofs.Results.{some_of}
use Rattle.vkg_cells.specs.Moment.{clock_of_text, is_clock, time_at as form_at, time_if as form_if}
use Rattle.vkg_cells.specs.Number.{after_point, is_digits, without_trailing_zeros}
use Rattle.vkg_cells.proofs.Digits.{digits-some}
use Rattle.vkg_laws.specs.ByValue.{TimeOfDay, nanoseconds_of, time_at, time_cmp, time_if}
use Rattle.vkg_laws.proofs.Dates.{at, clock-long, clock-order, spelled}
use Rattle.vkg_laws.proofs.Fractions.{fraction-order}
use Rattle.vkg_laws.proofs.Orders.{front-in-turn}

-- a form and the time that it writes, by their parts
pub record IsTime (value : Option TimeOfDay) (form : List ℕ) : Type 0 where
  pub clock : List ℕ
  pub fraction : List ℕ
  pub time : TimeOfDay
  pub clock_is : clock_of_text clock ≡ Some time.clock
  pub fraction_is : nanoseconds_of fraction ≡ time.nanoseconds
  pub digits : AllDigits 10 fraction
  pub short : length fraction ≤ 9
  pub form_is : clock ++ after_point (without_trailing_zeros fraction) ≡ form
  pub value_is : value ≡ Some time

-- a form that is made where the test holds, of parts that the test asks for
made-if : (b : Bool) (clock fraction form : List ℕ) → (b ≡ true → (is_clock clock ≡ true) × AllDigits 10 fraction × (length fraction ≤ 9))
    → form_if b clock fraction ≡ Some form → IsTime (time_if (clock_of_text clock) (nanoseconds_of fraction)) form
made-if false clock fraction form h e = absurd (none-some form e)
made-if true clock fraction form h e =
    let parts = h refl in
    let time = some_of (clock_of_text clock) parts.0 in
    record {
      clock = clock;
      fraction = fraction;
      time = record { clock = time.0; nanoseconds = nanoseconds_of fraction };
      clock_is = time.1;
      fraction_is = refl;
      digits = parts.1;
      short = parts.2;
      form_is = same_Some _ _ e;
      value_is = λ i. time_if (time.1 i) (nanoseconds_of fraction);
    }

pub time-parts : (text : List ℕ) (o : Option (List ℕ × List ℕ)) (form : List ℕ) → form_at text o ≡ Some form → IsTime (time_at text o) form
time-parts text None form e = made-if (is_clock text) text [] form (λ h. (h, tt, lit≤ tt)) e
time-parts text (Some p) form e = made-if (is_clock p.0 && is_digits p.1 && nat_le (length p.1) 9) p.0 p.1 form asked e
  where
    asked : is_clock p.0 && is_digits p.1 && nat_le (length p.1) 9 ≡ true → (is_clock p.0 ≡ true) × AllDigits 10 p.1 × (length p.1 ≤ 9)
    asked h =
        let second = and_parts (is_clock p.0 && is_digits p.1) (nat_le (length p.1) 9) h in
        let first = and_parts (is_clock p.0) (is_digits p.1) second.0 in
        (first.0, digits-some p.1 first.1, leb-true (length p.1) 9 second.1)

-- the order of two forms, by their parts: eight bytes of the times of day, and what follows
parts-order : (c k f g : List ℕ) → length c ≡ 8 → length k ≡ 8
    → slice_cmp nat_cmp (c ++ f) (k ++ g) ≡ ordering_then (slice_cmp nat_cmp c k) (slice_cmp nat_cmp f g)
parts-order c k f g lc lk =
    (λ i. slice_cmp nat_cmp (spelled c 8 0 lc i ++ f) (spelled k 8 0 lk i ++ g))
    ∙ front-in-turn times (slice_cmp nat_cmp f g)
    ∙ (λ i. ordering_then (slice_cmp nat_cmp (sym (spelled c 8 0 lc) i) (sym (spelled k 8 0 lk) i)) (slice_cmp nat_cmp f g))
  where
    times : List Ordering
    times = at c k 0 ∷ at c k 1 ∷ at c k 2 ∷ at c k 3 ∷ at c k 4 ∷ at c k 5 ∷ at c k 6 ∷ at c k 7 ∷ []

pub time-order : (v w : Option TimeOfDay) (x y : List ℕ) (p : IsTime v x) (q : IsTime w y) → slice_cmp nat_cmp x y ≡ time_cmp p.time q.time
time-order v w x y p q =
    (λ i. slice_cmp nat_cmp (sym p.form_is i) (sym q.form_is i))
    ∙ parts-order p.clock q.clock (after_point (without_trailing_zeros p.fraction)) (after_point (without_trailing_zeros q.fraction))
    (clock-long p.clock p.time.clock p.clock_is) (clock-long q.clock q.time.clock q.clock_is)
    ∙ (λ i. ordering_then (clock-order p.clock q.clock p.time.clock q.time.clock p.clock_is q.clock_is i)
    ((fraction-order p.fraction q.fraction p.digits q.digits p.short q.short ∙ (λ j. nat_cmp (p.fraction_is j) (q.fraction_is j))) i))
