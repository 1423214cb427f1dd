-- The forms of dates and times are ASCII.
use Rattle.std.proofs.Common.{◌≡◌, ℕ, ◌+◌, ◌-◌, ◌*◌, ◌<◌, ◌≤◌, refl, sym, ap, subst, List, [], ◌++◌, length, codes, Bool, true, false, ◌&&◌, arith, ◌==◌, nat_le, Option, Some, None, lit<}
use Rattle.std.specs.Prelude.{is_some, slice_index}
use Rattle.std.specs.Char.{is_ascii_digit}
use Rattle.std.specs.List.{AllByRecursion, range_with_len}
use Rattle.std.specs.Str.{IsAscii}
use Rattle.std.specs.Str.Parse.{AllDigits}
use Rattle.std.proofs.lemmas.List.{get_or_past}
use Rattle.std.proofs.lemmas.Str.{IsAscii-append}
use Rattle.std.proofs.lemmas.Str.Ascii.{IsAscii-nil, IsAscii-cons}
use Rattle.std.proofs.lemmas.Option.{same_Some}
use Rattle.std.specs.Option.{option_or}
use Rattle.vkg_lists.proofs.Bools.{and_parts}
use Rattle.vkg_lists.proofs.Each.{below_range}
use Rattle.vkg_lists.proofs.Results.{some_if, some_then}
use Rattle.vkg_cells.specs.Number.{is_digits, after_point, without_trailing_zeros}
use Rattle.vkg_cells.specs.Moment.{two_digits_at, day_of_text, clock_of_text, is_date, is_clock, cut, form_if, form_at, form_of_parts, stamp_form, time_if, time_at, time_form}
use Rattle.vkg_cells.proofs.Digits.{after_ascii, digits-some, digits-without-trailing}

small_digit : (b : ℕ) → is_ascii_digit b ≡ true → b < 128
small_digit b e = grind arith

digits_at : (bs : List ℕ) (i n : ℕ) → two_digits_at bs i ≡ Some n → (is_ascii_digit (slice_index bs i) ≡ true) × (is_ascii_digit (slice_index bs (i + 1)) ≡ true)
digits_at bs i n e =
    let d = some_if (is_ascii_digit (slice_index bs i) && is_ascii_digit (slice_index bs (i + 1))) (Some ((slice_index bs i - 48) * 10 + (slice_index bs (i + 1) - 48))) (ap is_some e) in
    and_parts (is_ascii_digit (slice_index bs i)) (is_ascii_digit (slice_index bs (i + 1))) d.0

past_end : (bs : List ℕ) (k : ℕ) → length bs ≤ k → slice_index bs k < 128
past_end bs k h = let e = get_or_past bs k 0 h in omega (arith, e)

ascii_below : (bs : List ℕ) (n : ℕ) → length bs ≡ n → AllByRecursion (λ k. slice_index bs k < 128) (range_with_len 0 n) → IsAscii bs
ascii_below bs n long each k = elim (nat_le n k) as (λ b. nat_le n k ≡ b → slice_index bs k < 128) [
  | true ↦ λ e. past_end bs k (let h : length bs ≤ k = grind arith in h)
  | false ↦ λ e. below_range (λ k. slice_index bs k < 128) n each k (let h : k < n = grind arith in h)
] refl

-- a text of ASCII bytes, so many
pub record Fixed (n : ℕ) (text : List ℕ) : Type 0 where
  pub long : length text ≡ n
  pub ascii : IsAscii text

pub date_fixed : (text : List ℕ) → is_date text ≡ true → Fixed 10 text
unfolding day_of_text
date_fixed text e =
    let a = some_if ((length text == 10) && (slice_index text 4 == 45) && (slice_index text 7 == 45)) _ e in
    let b = and_parts ((length text == 10) && (slice_index text 4 == 45)) (slice_index text 7 == 45) a.0 in
    let c = and_parts (length text == 10) (slice_index text 4 == 45) b.0 in
    let century = some_then _ (two_digits_at text 0) a.1 in
    let year = some_then _ (two_digits_at text 2) century.2 in
    let month = some_then _ (two_digits_at text 5) year.2 in
    let day = some_then _ (two_digits_at text 8) month.2 in
    let d0 = digits_at text 0 century.0 century.1 in
    let d2 = digits_at text 2 year.0 year.1 in
    let d5 = digits_at text 5 month.0 month.1 in
    let d8 = digits_at text 8 day.0 day.1 in
    let long : length text ≡ 10 = let h = c.0 in grind arith in
    let dash4 : slice_index text 4 < 128 = let h = c.1 in grind arith in
    let dash7 : slice_index text 7 < 128 = let h = b.1 in grind arith in
    record {
      long = long;
      ascii = ascii_below text 10 long (small_digit _ d0.0, (small_digit _ d0.1, (small_digit _ d2.0, (small_digit _ d2.1, (dash4, (small_digit _ d5.0, (small_digit _ d5.1, (dash7, (small_digit _ d8.0, (small_digit _ d8.1, tt))))))))));
    }

pub clock_fixed : (text : List ℕ) → is_clock text ≡ true → Fixed 8 text
unfolding clock_of_text
clock_fixed text e =
    let a = some_if ((length text == 8) && (slice_index text 2 == 58) && (slice_index text 5 == 58)) _ e in
    let b = and_parts ((length text == 8) && (slice_index text 2 == 58)) (slice_index text 5 == 58) a.0 in
    let c = and_parts (length text == 8) (slice_index text 2 == 58) b.0 in
    let hour = some_then _ (two_digits_at text 0) a.1 in
    let minute = some_then _ (two_digits_at text 3) hour.2 in
    let second = some_then _ (two_digits_at text 6) minute.2 in
    let d0 = digits_at text 0 hour.0 hour.1 in
    let d3 = digits_at text 3 minute.0 minute.1 in
    let d6 = digits_at text 6 second.0 second.1 in
    let long : length text ≡ 8 = let h = c.0 in grind arith in
    let colon2 : slice_index text 2 < 128 = let h = c.1 in grind arith in
    let colon5 : slice_index text 5 < 128 = let h = b.1 in grind arith in
    record {
      long = long;
      ascii = ascii_below text 8 long (small_digit _ d0.0, (small_digit _ d0.1, (colon2, (small_digit _ d3.0, (small_digit _ d3.1, (colon5, (small_digit _ d6.0, (small_digit _ d6.1, tt))))))));
    }

pub form_ascii : (date clock ds : List ℕ) → is_date date ≡ true → is_clock clock ≡ true → AllDigits 10 ds → IsAscii (date ++ codes "T" ++ clock ++ after_point ds)
form_ascii date clock ds d c f = IsAscii-append _ (after_point ds) (IsAscii-append _ clock (IsAscii-append date (codes "T") (date_fixed date d).ascii (IsAscii-cons 84 [] (lit< tt) IsAscii-nil)) (clock_fixed clock c).ascii) (after_ascii ds f)

-- what `stamp_form` gives is made of a date, a time of day and digits
pub record Made (form : List ℕ) : Type 0 where
  pub date : List ℕ
  pub clock : List ℕ
  pub fraction : List ℕ
  pub is_date : is_date date ≡ true
  pub is_clock : is_clock clock ≡ true
  pub is_digits : AllDigits 10 fraction
  pub is : form ≡ date ++ codes "T" ++ clock ++ after_point fraction

made_if : (b : Bool) (date clock fraction form : List ℕ) → (b ≡ true → (is_date date ≡ true) × (is_clock clock ≡ true) × AllDigits 10 fraction) → form_if b date clock fraction ≡ Some form → Made form
made_if false date clock fraction form h e = cc
made_if true date clock fraction form h e = record {
  date = date;
  clock = clock;
  fraction = without_trailing_zeros fraction;
  is_date = (h refl).0;
  is_clock = (h refl).1;
  is_digits = digits-without-trailing fraction (h refl).2;
  is = same_Some _ _ (sym e);
}

made_at : (date rest : List ℕ) (p : Option (List ℕ × List ℕ)) (form : List ℕ) → form_at date rest p ≡ Some form → Made form
made_at date rest None form e = made_if (is_date date && is_clock rest) date rest [] form (λ b. let h = and_parts (is_date date) (is_clock rest) b in (h.0, h.1, tt)) e
made_at date rest (Some p) form e = made_if (is_date date && is_clock p.0 && is_digits p.1 && nat_le (length p.1) 9) date p.0 p.1 form (λ b.
    let h = and_parts (is_date date && is_clock p.0 && is_digits p.1) (nat_le (length p.1) 9) b in
    let g = and_parts (is_date date && is_clock p.0) (is_digits p.1) h.0 in
    let f = and_parts (is_date date) (is_clock p.0) g.0 in
    (f.0, f.1, digits-some p.1 g.1)) e

made_of : (p : Option (List ℕ × List ℕ)) (form : List ℕ) → form_of_parts p ≡ Some form → Made form
made_of None form e = cc
made_of (Some p) form e = made_at p.0 p.1 (cut 46 p.1) form e

pub stamp_made : (text form : List ℕ) → stamp_form text ≡ Some form → Made form
stamp_made text form e = made_of (option_or (cut 84 text) (cut 32 text)) form e

pub stamp_ascii : (text form : List ℕ) → stamp_form text ≡ Some form → IsAscii form
stamp_ascii text form e = let m = stamp_made text form e in subst IsAscii (sym m.is) (form_ascii m.date m.clock m.fraction m.is_date m.is_clock m.is_digits)

-- what `time_form` gives is made of a time of day and digits
pub record MadeTime (form : List ℕ) : Type 0 where
  pub clock : List ℕ
  pub fraction : List ℕ
  pub is_clock : is_clock clock ≡ true
  pub is_digits : AllDigits 10 fraction
  pub is : form ≡ clock ++ after_point fraction

made_time : (b : Bool) (clock fraction form : List ℕ) → (b ≡ true → (is_clock clock ≡ true) × AllDigits 10 fraction) → time_if b clock fraction ≡ Some form → MadeTime form
made_time false clock fraction form h e = cc
made_time true clock fraction form h e = record {
  clock = clock;
  fraction = without_trailing_zeros fraction;
  is_clock = (h refl).0;
  is_digits = digits-without-trailing fraction (h refl).1;
  is = same_Some _ _ (sym e);
}

made_time_at : (text : List ℕ) (p : Option (List ℕ × List ℕ)) (form : List ℕ) → time_at text p ≡ Some form → MadeTime form
made_time_at text None form e = made_time (is_clock text) text [] form (λ b. (b, tt)) e
made_time_at text (Some p) form e = made_time (is_clock p.0 && is_digits p.1 && nat_le (length p.1) 9) p.0 p.1 form (λ b.
    let h = and_parts (is_clock p.0 && is_digits p.1) (nat_le (length p.1) 9) b in
    let g = and_parts (is_clock p.0) (is_digits p.1) h.0 in
    (g.0, digits-some p.1 g.1)) e

pub time_made : (text form : List ℕ) → time_form text ≡ Some form → MadeTime form
time_made text form e = made_time_at text (cut 46 text) form e

pub time_ascii : (text form : List ℕ) → time_form text ≡ Some form → IsAscii form
time_ascii text form e =
    let m = time_made text form e in
    subst IsAscii (sym m.is) (IsAscii-append m.clock (after_point m.fraction) (clock_fixed m.clock m.is_clock).ascii (after_ascii m.fraction m.is_digits))
