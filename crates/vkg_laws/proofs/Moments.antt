-- The forms of moments are ordered as the moments.
use Rattle.std.proofs.Common.{◌≡◌, ◌∙◌, ◌≤◌, ◌++◌, ◌∷◌, ◌&&◌, ℕ, Bool, true, false, List, [], Option, Some, None, refl, sym, ap, length, codes, nat_le, leb-true, lit≤}
use Rattle.std.specs.Ordering.{nat_cmp, ordering_then}
use Rattle.std.specs.Cmp.Lexicographic.{slice_cmp}
use Rattle.std.specs.Str.Parse.{AllDigits}
use Rattle.std.specs.declared.cmp.Ordering.{Ordering}
use Rattle.std.specs.declared.cmp.Ordering.TheVariants.{Equal}
use Rattle.std.proofs.lemmas.Option.{none-some, same_Some}
use Rattle.vkg_lists.proofs.Bools.{and_parts}
use Rattle.vkg_lists.proofs.Results.{some_of}
use Rattle.vkg_cells.specs.Moment.{clock_of_text, cut, day_of_text, form_at, form_if, form_of_parts, is_clock, is_date}
use Rattle.vkg_cells.specs.Number.{after_point, is_digits, without_trailing_zeros}
use Rattle.vkg_cells.proofs.Digits.{digits-some}
use Rattle.vkg_laws.specs.ByValue.{Moment, moment_at, moment_cmp, moment_if, moment_of_parts, nanoseconds_of}
use Rattle.vkg_laws.proofs.Dates.{at, clock-long, clock-order, date-long, date-order, spelled}
use Rattle.vkg_laws.proofs.Fractions.{fraction-order}
use Rattle.vkg_laws.proofs.Orders.{front-in-turn, in_turn}

-- a form and the moment that it writes, by their parts
pub record IsWritten (value : Option Moment) (form : List ℕ) : Type 0 where
  pub date : List ℕ
  pub clock : List ℕ
  pub fraction : List ℕ
  pub moment : Moment
  pub date_is : day_of_text date ≡ Some moment.date
  pub clock_is : clock_of_text clock ≡ Some moment.clock
  pub fraction_is : nanoseconds_of fraction ≡ moment.nanoseconds
  pub digits : AllDigits 10 fraction
  pub short : length fraction ≤ 9
  pub form_is : date ++ codes "T" ++ clock ++ after_point (without_trailing_zeros fraction) ≡ form
  pub value_is : value ≡ Some moment

-- a form that is made where the test holds, of parts that the test asks for
written-if : (b : Bool) (date clock fraction form : List ℕ)
    → (b ≡ true → (is_date date ≡ true) × (is_clock clock ≡ true) × AllDigits 10 fraction × (length fraction ≤ 9))
    → form_if b date clock fraction ≡ Some form
    → IsWritten (moment_if (day_of_text date) (clock_of_text clock) (nanoseconds_of fraction)) form
written-if false date clock fraction form h e = absurd (none-some form e)
written-if true date clock fraction form h e =
    let parts = h refl in
    let day = some_of (day_of_text date) parts.0 in
    let time = some_of (clock_of_text clock) parts.1 in
    record {
      date = date;
      clock = clock;
      fraction = fraction;
      moment = record { date = day.0; clock = time.0; nanoseconds = nanoseconds_of fraction };
      date_is = day.1;
      clock_is = time.1;
      fraction_is = refl;
      digits = parts.2;
      short = parts.3;
      form_is = same_Some _ _ e;
      value_is = λ i. moment_if (day.1 i) (time.1 i) (nanoseconds_of fraction);
    }

written-at : (date rest form : List ℕ) (o : Option (List ℕ × List ℕ)) → form_at date rest o ≡ Some form → IsWritten (moment_at date rest o) form
written-at date rest form None e = written-if (is_date date && is_clock rest) date rest [] form (λ h. let g = and_parts (is_date date) (is_clock rest) h in (g.0, g.1, tt, lit≤ tt)) e
written-at date rest form (Some p) e = written-if (is_date date && is_clock p.0 && is_digits p.1 && nat_le (length p.1) 9) date p.0 p.1 form asked e
  where
    asked : is_date date && is_clock p.0 && is_digits p.1 && nat_le (length p.1) 9 ≡ true → (is_date date ≡ true) × (is_clock p.0 ≡ true) × AllDigits 10 p.1 × (length p.1 ≤ 9)
    asked h =
        let third = and_parts (is_date date && is_clock p.0 && is_digits p.1) (nat_le (length p.1) 9) h in
        let second = and_parts (is_date date && is_clock p.0) (is_digits p.1) third.0 in
        let first = and_parts (is_date date) (is_clock p.0) second.0 in
        (first.0, first.1, digits-some p.1 second.1, leb-true (length p.1) 9 third.1)

pub written-parts : (o : Option (List ℕ × List ℕ)) (form : List ℕ) → form_of_parts o ≡ Some form → IsWritten (moment_of_parts o) form
written-parts None form e = absurd (none-some form e)
written-parts (Some p) form e = written-at p.0 p.1 form (cut 46 p.1) e

-- the order of two forms, by their parts: ten bytes of the dates, a `T`, eight bytes of the times of day, and what follows
parts-order : (d e c k f g : List ℕ) → length d ≡ 10 → length e ≡ 10 → length c ≡ 8 → length k ≡ 8
    → slice_cmp nat_cmp (d ++ codes "T" ++ c ++ f) (e ++ codes "T" ++ k ++ g)
    ≡ ordering_then (slice_cmp nat_cmp d e) (ordering_then (slice_cmp nat_cmp c k) (slice_cmp nat_cmp f g))
parts-order d e c k f g ld le lc lk =
    (λ i. slice_cmp nat_cmp (spelled d 10 0 ld i ++ codes "T" ++ spelled c 8 0 lc i ++ f) (spelled e 10 0 le i ++ codes "T" ++ spelled k 8 0 lk i ++ g))
    ∙ front-in-turn dates (in_turn times (slice_cmp nat_cmp f g))
    ∙ ap (ordering_then (in_turn dates Equal)) (front-in-turn times (slice_cmp nat_cmp f g))
    ∙ (λ i. ordering_then (slice_cmp nat_cmp (sym (spelled d 10 0 ld) i) (sym (spelled e 10 0 le) i))
    (ordering_then (slice_cmp nat_cmp (sym (spelled c 8 0 lc) i) (sym (spelled k 8 0 lk) i)) (slice_cmp nat_cmp f g)))
  where
    dates : List Ordering
    dates = at d e 0 ∷ at d e 1 ∷ at d e 2 ∷ at d e 3 ∷ at d e 4 ∷ at d e 5 ∷ at d e 6 ∷ at d e 7 ∷ at d e 8 ∷ at d e 9 ∷ []

    times : List Ordering
    times = at c k 0 ∷ at c k 1 ∷ at c k 2 ∷ at c k 3 ∷ at c k 4 ∷ at c k 5 ∷ at c k 6 ∷ at c k 7 ∷ []

pub moment-order : (v w : Option Moment) (x y : List ℕ) (p : IsWritten v x) (q : IsWritten w y) → slice_cmp nat_cmp x y ≡ moment_cmp p.moment q.moment
moment-order v w x y p q =
    (λ i. slice_cmp nat_cmp (sym p.form_is i) (sym q.form_is i))
    ∙ parts-order p.date q.date p.clock q.clock (after_point (without_trailing_zeros p.fraction)) (after_point (without_trailing_zeros q.fraction))
    (date-long p.date p.moment.date p.date_is) (date-long q.date q.moment.date q.date_is)
    (clock-long p.clock p.moment.clock p.clock_is) (clock-long q.clock q.moment.clock q.clock_is)
    ∙ (λ i. ordering_then (date-order p.date q.date p.moment.date q.moment.date p.date_is q.date_is i)
    (ordering_then (clock-order p.clock q.clock p.moment.clock q.moment.clock p.clock_is q.clock_is i)
    ((fraction-order p.fraction q.fraction p.digits q.digits p.short q.short ∙ (λ j. nat_cmp (p.fraction_is j) (q.fraction_is j))) i)))
