-- Texts of digits, as std tells them, and what is made of them.
use Rattle.std.proofs.Common.{◌≡◌, ℕ, ◌<◌, ◌++◌, ◌==◌, refl, List, [], ◌∷◌, Bool, true, false, if◌then◌else◌, leb-true, lit≤, lit<}
use Rattle.std.specs.Prelude.{nat_le}
use Rattle.std.specs.List.{list_all}
use Rattle.std.specs.Char.{digit_value, is_ascii_digit}
use Rattle.std.specs.Int.{IsInRange}
use Rattle.std.specs.Str.{IsAscii}
use Rattle.std.specs.Str.Parse.{AllDigits, digits_value}
use Rattle.std.proofs.lemmas.Bool.{le-leb}
use Rattle.std.proofs.lemmas.Fmt.{IsAscii-from_digits}
use Rattle.std.proofs.lemmas.Str.Ascii.{IsAscii-nil, IsAscii-cons}
use Rattle.std.proofs.lemmas.Str.Parse.{IsDigitsTest, IsNumeralModel, numerals_by_value, tells_digits}
use Rattle.vkg_lists.proofs.Bools.{and_parts}
use Rattle.vkg_cells.specs.Number.{is_digits, after_point, onto_unless_zero, without_leading_zeros, without_trailing_zeros}

abbrev AreTold : List ℕ → Type 0
AreTold ds = list_all is_ascii_digit ds ≡ true

tells : IsDigitsTest AreTold
tells = record { empty = refl; parts = parts; more = λ c cs k e. rw (le-leb 48 c k.0, le-leb c 57 k.1, e) refl }
  where
    parts : (c : ℕ) (cs : List ℕ) → AreTold (c ∷ cs) → IsInRange 48 57 c × AreTold cs
    parts c cs e =
        let here = and_parts (is_ascii_digit c) (list_all is_ascii_digit cs) e in
        let range = and_parts (nat_le 48 c) (nat_le c 57) here.0 in
        ((leb-true 48 c range.0, leb-true c 57 range.1), here.1)

told : IsNumeralModel AreTold (digits_value 10)
told = numerals_by_value AreTold tells

pub are-digits : (ds : List ℕ) → AllDigits 10 ds → list_all is_ascii_digit ds ≡ true
are-digits ds a = told.from ds a

pub digits-some : (ds : List ℕ) → is_digits ds ≡ true → AllDigits 10 ds
digits-some [] e = tt
digits-some (d ∷ ds) e = told.to (d ∷ ds) e

-- the bounds of the first digit
pub first-digit : (d : ℕ) (ds : List ℕ) → AllDigits 10 (d ∷ ds) → IsInRange 48 57 d
first-digit d ds a = (tells_digits.parts d ds a).0

pub zero-first : (ds : List ℕ) → AllDigits 10 ds → AllDigits 10 (48 ∷ ds)
zero-first ds a = tells_digits.more 48 ds (lit≤ tt, lit≤ tt) a

pub digits-append : (xs ys : List ℕ) → AllDigits 10 xs → AllDigits 10 ys → AllDigits 10 (xs ++ ys)
digits-append [] ys a b = b
digits-append (x ∷ xs) ys a b = (a.0, digits-append xs ys a.1 b)

pub digits-parts : (w f : List ℕ) → AllDigits 10 (w ++ f) → AllDigits 10 w × AllDigits 10 f
digits-parts [] f a = (tt, a)
digits-parts (d ∷ ds) f a = let rest = digits-parts ds f a.1 in ((a.0, rest.0), rest.1)

pub digits-without-leading : (w : List ℕ) → AllDigits 10 w → AllDigits 10 (without_leading_zeros w)
digits-without-leading [] a = tt
digits-without-leading (d ∷ ds) a = by (digits-without-leading ds a.1) (d == 48) refl
  where
    by : AllDigits 10 (without_leading_zeros ds) → (b : Bool) → (d == 48) ≡ b → AllDigits 10 (if d == 48 then without_leading_zeros ds else d ∷ ds)
    by h true e = rw e h
    by h false e = rw e a

digits-onto : (d : ℕ) (ds : List ℕ) → digit_value d < 10 → AllDigits 10 ds → AllDigits 10 (onto_unless_zero d ds)
digits-onto d (e ∷ es) a h = (a, h)
digits-onto d [] a h = by (d == 48) refl
  where
    by : (c : Bool) → (d == 48) ≡ c → AllDigits 10 (if d == 48 then [] else d ∷ [])
    by true e = rw e tt
    by false e = rw e (a, tt)

pub digits-without-trailing : (f : List ℕ) → AllDigits 10 f → AllDigits 10 (without_trailing_zeros f)
digits-without-trailing [] a = tt
digits-without-trailing (d ∷ ds) a = digits-onto d (without_trailing_zeros ds) a.0 (digits-without-trailing ds a.1)

pub after_ascii : (xs : List ℕ) → AllDigits 10 xs → IsAscii (after_point xs)
after_ascii [] a = IsAscii-nil
after_ascii (x ∷ xs) a = IsAscii-cons 46 (x ∷ xs) (lit< tt) (IsAscii-from_digits (x ∷ xs) a)
