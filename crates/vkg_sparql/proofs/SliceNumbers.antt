-- The number of a slice: what `parse` makes of its digits, and that it is no number of too many digits.
use Rattle.std.proofs.Common.{◌≡◌, ◌∙◌, ℕ, ◌+◌, ◌*◌, ◌^◌, ◌<◌, ◌≤◌, suc, Bool, true, false, List, [], ◌∷◌, Some, None, Result, Ok, Err, codes, length, nat_lt, ◌&&◌, ◌==◌, if◌then◌else◌, refl, sym, ap, subst, arith, add-zero, zero, lit<, lit≤, true≢false, eqb-true}
use Rattle.std.specs.Prelude.{is_some}
use Rattle.std.specs.Bool.{then_some}
use Rattle.std.specs.Char.{digit_value, is_ascii_digit}
use Rattle.std.specs.Int.{IsInRange}
use Rattle.std.specs.List.{after_first, before_first, list_all}
use Rattle.std.specs.Result.{result_ok}
use Rattle.std.specs.Str.Parse.{AllDigits, ParsesUnsigned, digits_value, digits_value_after}
use Rattle.std.proofs.Math.Nat.{mul-le-mul_right, mul_assoc, pow-le-pow_right, pow-succ'}
use Rattle.std.proofs.lemmas.Bool.{and_right, eqb-false, lt-ltb, ltb-true}
use Rattle.std.proofs.lemmas.Str.{digit_value_digit}
use Rattle.std.proofs.lemmas.Str.Parse.{IsNumeralModel, numerals_by_value, parse_digits, tells_digits}
use Rattle.vkg_cells.specs.Number.{fraction, is_digits, unsigned, whole, width, without_leading_zeros, without_trailing_zeros}
use Rattle.vkg_cells.specs.WellTyped.{is_too_wide, is_well_typed, is_wide_number}
use Rattle.vkg_cells.proofs.CanonicalLemmas.{unsigned-digits}
use Rattle.vkg_cells.proofs.Digits.{digits-some, first-digit}
use Rattle.vkg_cells.proofs.PlaceLemmas.{after-all, before-all, lacks-digits}
use Rattle.vkg_lists.proofs.Bools.{and_parts}
use Rattle.vkg_terms.specs.Vocabulary.{xsd}
use Rattle.vkg_turtle.specs.Document.{typed}
use Rattle.vkg_sparql.specs.Orders.{slice_number}

-- ---- as `parse` reads it

own : IsNumeralModel (AllDigits 10) (digits_value 10)
own = numerals_by_value (AllDigits 10) tells_digits

pub no_digits : (text : List ℕ) → list_all is_ascii_digit text ≡ false → None ≡ slice_number text
unfolding slice_number
no_digits [] d = refl
no_digits (b ∷ bs) d = sym (ap (λ a. then_some (a && nat_lt (digits_value 10 (b ∷ bs)) (2 ^ 32)) (digits_value 10 (b ∷ bs))) d)

small : (a b : Bool) (v n : ℕ) → a ≡ true → b ≡ true → n ≡ v → Some n ≡ then_some (a && b) v
small a b v n d l e = rw (d, l, e) refl

great : (a b : Bool) (v : ℕ) → b ≡ false → None ≡ then_some (a && b) v
great a b v l = sym (ap (λ t. then_some t v) (and_right a b l))

pub read : (E : Type 0) (text : List ℕ) (r : Result ℕ E) → list_all is_ascii_digit text ≡ true → ParsesUnsigned 32 10 text r → result_ok r ≡ slice_number text
unfolding slice_number
read E [] (Ok n) d h = let p = parse_digits own {E = E} 32 [] (Ok n) h tt in absurd (omega (arith, p.0.0))
read E [] (Err e) d h = refl
read E (b ∷ bs) (Ok n) d h =
    let text = b ∷ bs in
    let p = parse_digits own {E = E} 32 text (Ok n) h (digits-some text d) in
    small (is_digits text) (nat_lt (digits_value 10 text) (2 ^ 32)) (digits_value 10 text) n d (lt-ltb (digits_value 10 text) (2 ^ 32) p.0.1) p.1
read E (b ∷ bs) (Err e) d h =
    let text = b ∷ bs in
    let p = parse_digits own {E = E} 32 text (Err e) h (digits-some text d) in
    great (is_digits text) (nat_lt (digits_value 10 text) (2 ^ 32)) (digits_value 10 text) (by (nat_lt (digits_value 10 text) (2 ^ 32)) refl p)
  where
    by : (t : Bool) → nat_lt (digits_value 10 (b ∷ bs)) (2 ^ 32) ≡ t → ((0 < length (b ∷ bs)) × (digits_value 10 (b ∷ bs) < 2 ^ 32) → ⊥) → nat_lt (digits_value 10 (b ∷ bs)) (2 ^ 32) ≡ false
    by true e p = absurd (p (omega arith, ltb-true (digits_value 10 (b ∷ bs)) (2 ^ 32) e))
    by false e p = e

-- ---- no more digits count than its value has

-- each digit more makes ten times as much
tens : (n d p v : ℕ) → (n * 10 + d) * p ≤ v → n * (10 * p) ≤ v
tens n d p v h =
    let e : (n * 10) * p ≡ n * (10 * p) = mul_assoc n 10 p in
    let m : (n * 10) * p ≤ (n * 10 + d) * p = mul-le-mul_right p (let l : n * 10 ≤ n * 10 + d = omega arith in l) in
    omega (arith, e, m, h)

scaled : (n : ℕ) (ds : List ℕ) → n * 10 ^ length ds ≤ digits_value_after 10 n ds
scaled n [] = omega arith
scaled n (c ∷ cs) =
    rw (pow-succ' 10 (length cs)) (tens n (digit_value c) (10 ^ length cs) (digits_value_after 10 (n * 10 + digit_value c) cs) (scaled (n * 10 + digit_value c) cs))

-- where the first digit is no zero
long : (d : ℕ) (ds : List ℕ) → AllDigits 10 (d ∷ ds) → (48 ≡ d → ⊥) → 10 ^ length ds ≤ digits_value 10 (d ∷ ds)
long d ds a z =
    let r = first-digit d ds a in
    let v = digit_value_digit d r in
    let some : 1 ≤ 0 * 10 + digit_value d = above d (digit_value d) r z v in
    let m : 1 * 10 ^ length ds ≤ (0 * 10 + digit_value d) * 10 ^ length ds = mul-le-mul_right (10 ^ length ds) some in
    omega (arith, m, scaled (0 * 10 + digit_value d) ds)
  where
    above : (d v : ℕ) → IsInRange 48 57 d → (48 ≡ d → ⊥) → v + 48 ≡ d → 1 ≤ 0 * 10 + v
    above d zero r z e = absurd (z (omega (arith, e)))
    above d (suc v) r z e = omega arith

counted : (ds : List ℕ) → AllDigits 10 ds → 10 ^ length (without_leading_zeros ds) ≤ 10 * digits_value 10 ds + 1
counted [] a = lit≤ tt
counted (d ∷ ds) a = by (d == 48) refl (counted ds a.1)
  where
    by : (b : Bool) → (d == 48) ≡ b → 10 ^ length (without_leading_zeros ds) ≤ 10 * digits_value 10 ds + 1 → 10 ^ length (if b then without_leading_zeros ds else d ∷ ds) ≤ 10 * digits_value 10 (d ∷ ds) + 1
    by true e k = subst (λ x. 10 ^ length (without_leading_zeros ds) ≤ 10 * digits_value 10 (x ∷ ds) + 1) (sym (eqb-true d 48 e)) k
    by false e k = let l = long d ds a (λ q. eqb-false d 48 e (sym q)) in rw (pow-succ' 10 (length ds)) (omega (arith, l))

too_long : (n v a b : ℕ) → 10 ^ n ≤ 10 * v + 1 → v < b → a ≤ 10 ^ n → 10 * b ≤ a → ⊥
too_long n v a b c s l m = omega (arith, c, s, l, m)

unsigned_digits : (text : List ℕ) → AllDigits 10 text → unsigned text ≡ text
unsigned_digits [] a = refl
unsigned_digits (d ∷ ds) a = unsigned-digits d ds (first-digit d ds a).0

digits_width : (text : List ℕ) → AllDigits 10 text → width text ≡ length (without_leading_zeros text)
digits_width text a =
    let k = lacks-digits 46 text (lit< tt) a in
    let w : whole text ≡ text = ap (before_first (λ b. b == 46)) (unsigned_digits text a) ∙ before-all 46 text k in
    let f : fraction text ≡ [] = ap (after_first (λ b. b == 46)) (unsigned_digits text a) ∙ after-all 46 text k in
    (λ i. length (without_leading_zeros (w i)) + length (without_trailing_zeros (f i))) ∙ add-zero (length (without_leading_zeros text))

is_narrow : (text : List ℕ) → is_digits text ≡ true → digits_value 10 text < 2 ^ 32 → nat_lt 38 (width text) ≡ false
is_narrow text d s = by (nat_lt 38 (width text)) refl
  where
    by : (t : Bool) → nat_lt 38 (width text) ≡ t → nat_lt 38 (width text) ≡ false
    by true e =
        let a = digits-some text d in
        let n = length (without_leading_zeros text) in
        let l : 39 ≤ n = subst (λ m. 39 ≤ m) (digits_width text a) (ltb-true 38 (width text) e) in
        absurd (too_long n (digits_value 10 text) (10 ^ 39) (2 ^ 32) (counted text a) s (pow-le-pow_right (lit< tt) l) (lit≤ tt))
    by false e = e

-- the number of a slice is no number of too many digits
pub slice_is_narrow : (text : List ℕ) → is_some (slice_number text) ≡ true → is_wide_number (typed text (codes "integer")) ≡ false
unfolding slice_number
slice_is_narrow text h = by (is_digits text && nat_lt (digits_value 10 text) (2 ^ 32)) refl h
  where
    by : (t : Bool) → (is_digits text && nat_lt (digits_value 10 text) (2 ^ 32)) ≡ t → is_some (then_some t (digits_value 10 text)) ≡ true → is_wide_number (typed text (codes "integer")) ≡ false
    by true e h =
        let p = and_parts (is_digits text) (nat_lt (digits_value 10 text) (2 ^ 32)) e in
        and_right (is_well_typed (xsd (codes "integer")) text) (is_too_wide (xsd (codes "integer")) text) (is_narrow text p.0 (ltb-true (digits_value 10 text) (2 ^ 32) p.1))
    by false e h = absurd (true≢false (sym h))
