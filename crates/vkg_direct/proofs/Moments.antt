-- The forms of dates and times are of their datatypes' lexical spaces.
use Rattle.std.proofs.Common.{◌≡◌, ℕ, refl, ◌∙◌, ap, List, [], ◌∷◌, ◌++◌, length, get_or, take, drop, codes, Bool, true, false, ◌&&◌, ◌||◌, arith, ◌==◌, append_assoc, take_all, take_at, drop_at}
use Rattle.std.specs.Char.{is_ascii_digit}
use Rattle.std.specs.Str.Parse.{AllDigits}
use Rattle.std.proofs.lemmas.List.Sums.{position_or_len_is, AllPass-from_list_all}
use Rattle.std.proofs.Math.ListN.{drop_of_length-le}
use Rattle.std.proofs.Math.Seq.{take-length, drop-length}
use Rattle.vkg_cells.specs.Number.{after_point}
use Rattle.vkg_cells.specs.Moment.{is_date, is_clock}
use Rattle.vkg_cells.specs.WellTyped.{is_xsd_date, is_zone, is_fraction, is_moment, is_end_of_day, zone_place, is_xsd_date_time}
use Rattle.vkg_lists.proofs.Bools.{and_true, or_left}
use Rattle.vkg_cells.proofs.Digits.{are-digits}
use Rattle.vkg_cells.proofs.MomentText.{clock_fixed, date_fixed}

pub date_is : (text : List ℕ) → is_date text ≡ true → is_xsd_date text ≡ true
date_is text e =
    let long = (date_fixed text e).long in
    let front : take 10 text ≡ text = take_all 10 text (omega (arith, long)) in
    let back : drop 10 text ≡ [] = drop_of_length-le text {i = 10} (omega (arith, long)) in
    and_true (is_date (take 10 text)) (is_zone (drop 10 text)) (ap is_date front ∙ e) (ap is_zone back)

-- a point and digits hold no sign of a zone
abbrev begins_zone : ℕ → Bool
begins_zone b = (b == 90) || (b == 43) || (b == 45)

no_zone_digit : (b : ℕ) → is_ascii_digit b ≡ true → begins_zone b ≡ false
no_zone_digit b e = grind arith

no_zone : (ds : List ℕ) → AllDigits 10 ds → zone_place ds ≡ length ds
no_zone ds d =
    position_or_len_is begins_zone ds (length ds) 0 (omega arith) (λ k l. no_zone_digit (get_or ds k 0) (AllPass-from_list_all is_ascii_digit ds (are-digits ds d) k 0 l)) (λ l. absurd (omega (arith, l)))

no_zone_point : (ds : List ℕ) → AllDigits 10 ds → zone_place (after_point ds) ≡ length (after_point ds)
no_zone_point [] d = refl
no_zone_point (b ∷ ds) d = omega (arith, no_zone (b ∷ ds) d)

fraction_is : (ds : List ℕ) → AllDigits 10 ds → is_fraction (after_point ds) ≡ true
fraction_is [] d = refl
fraction_is (b ∷ ds) d = are-digits (b ∷ ds) d

-- a date, a `T`, a time of day and the digits of a fraction
module _ (date clock ds : List ℕ) (d : is_date date ≡ true) (c : is_clock clock ≡ true) (f : AllDigits 10 ds) where
  abbrev form : List ℕ
  form = date ++ codes "T" ++ clock ++ after_point ds

  shape : form ≡ date ++ (84 ∷ (clock ++ after_point ds))
  shape = append_assoc (date ++ codes "T") clock (after_point ds) ∙ append_assoc date (codes "T") (clock ++ after_point ds)

  abbrev later : List ℕ
  later = 84 ∷ (clock ++ after_point ds)

  pub form_is : is_xsd_date_time form ≡ true
  form_is =
      let tail = after_point ds in
      let front : take 10 (date ++ later) ≡ date = take_at date later 10 (date_fixed date d).long in
      let back : drop 10 (date ++ later) ≡ later = drop_at date later 10 (date_fixed date d).long in
      let hours : take 8 (clock ++ tail) ≡ clock = take_at clock tail 8 (clock_fixed clock c).long in
      let rest : drop 8 (clock ++ tail) ≡ tail = drop_at clock tail 8 (clock_fixed clock c).long in
      let whole : take (length tail) tail ≡ tail = take-length tail in
      let none : drop (length tail) tail ≡ [] = drop-length tail in
      let parts : List ℕ → List ℕ → List ℕ → Bool = λ day after_sign after_clock. is_moment day (codes "T") (take 8 after_sign) (take (zone_place after_clock) after_clock) && is_zone (drop (zone_place after_clock) after_clock) in
      ap is_xsd_date_time shape
      ∙ ap (λ r. is_moment (take 10 (date ++ later)) (take 1 r) (take 8 (drop 1 r)) (take (zone_place (drop 8 (drop 1 r))) (drop 8 (drop 1 r))) && is_zone (drop (zone_place (drop 8 (drop 1 r))) (drop 8 (drop 1 r)))) back
      ∙ ap (λ r. parts r (clock ++ tail) (drop 8 (clock ++ tail))) front
      ∙ ap (λ r. parts date (clock ++ tail) r) rest
      ∙ ap (λ r. is_moment date (codes "T") r (take (zone_place tail) tail) && is_zone (drop (zone_place tail) tail)) hours
      ∙ ap (λ n. is_moment date (codes "T") clock (take n tail) && is_zone (drop n tail)) (no_zone_point ds f)
      ∙ ap (λ r. is_moment date (codes "T") clock r && is_zone (drop (length tail) tail)) whole
      ∙ ap (λ r. is_moment date (codes "T") clock tail && is_zone r) none
      ∙ and_true _ true (and_true _ (is_fraction tail) (and_true _ (is_clock clock || is_end_of_day clock tail) (and_true (is_date date) true d refl) (or_left (is_clock clock) (is_end_of_day clock tail) c)) (fraction_is ds f)) refl
