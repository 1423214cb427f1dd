-- The order of numbers with a sign.
use Rattle.std.proofs.Common.{◌≡◌, ◌∙◌, ◌+◌, ◌*◌, ◌^◌, ◌<◌, ◌++◌, inl, inr, ℕ, zero, suc, Bool, true, false, List, [], ◌∷◌, pos, negsuc, refl, sym, ap, arith, length, nat_lt, lit<}
use Rattle.std.specs.Prelude.{neg_ℤ, ◌*ℤ◌, ◌<ℤ◌}
use Rattle.std.specs.Ordering.{nat_cmp, int_cmp, ordering_then}
use Rattle.std.specs.Cmp.{int_cmp_is, nat_cmp_is, ranked}
use Rattle.std.specs.Cmp.Lexicographic.{slice_cmp}
use Rattle.std.specs.declared.cmp.Ordering.{Ordering}
use Rattle.std.specs.declared.cmp.Ordering.TheVariants.{Less, Equal, Greater}
use Rattle.std.proofs.Math.IntN.{negsuc-*ℤ-pos, pos-*ℤ-pos, zero-*ℤ}
use Rattle.std.proofs.Math.Nat.{mul-one, mul-pos, one-le-pow, zero-mul}
use Rattle.std.proofs.Math.Dec.{lt→ltb}
use Rattle.std.proofs.lemmas.Bool.{cases_order, ltb-true, ltb-false}
use Rattle.vkg_lists.proofs.Bools.{and_parts}
use Rattle.vkg_cells.specs.Number.{digits_value, fraction, is_below_zero, is_decimal, is_negative, number_cmp, numerator, scale, size, whole, width, without_leading_zeros, without_trailing_zeros}
use Rattle.std.specs.Str.Parse.{AllDigits}
use Rattle.vkg_cells.proofs.Digits.{digits-parts, digits-some}
use Rattle.vkg_cells.proofs.ValueLemmas.{cmp-scaled}

-- the digits of a decimal, before and after the point
pub decimal-parts : (text : List ℕ) → is_decimal text ≡ true → AllDigits 10 (whole text) × AllDigits 10 (fraction text)
decimal-parts text e = digits-parts (whole text) (fraction text) (digits-some (whole text ++ fraction text) e)

pub neg-times : (n m : ℕ) → neg_ℤ (pos n) *ℤ pos m ≡ neg_ℤ (pos (n * m))
neg-times zero m = zero-*ℤ (pos m) ∙ ap (λ k. neg_ℤ (pos k)) (sym (zero-mul m))
neg-times (suc n) m = negsuc-*ℤ-pos n m

pos-below : (x y : ℕ) → x < y → pos x <ℤ pos y
pos-below x y h = omega (arith, lt→ltb)

neg-below : (x y : ℕ) → x < y → negsuc y <ℤ negsuc x
neg-below x y h = omega (arith, lt→ltb)

pub cmp-pos : (x y : ℕ) → int_cmp (pos x) (pos y) ≡ nat_cmp x y
cmp-pos x y = elim (cases_order x y) [
  | inl e ↦ rw (sym (nat_cmp_is x y Equal e)) (sym (int_cmp_is (pos x) (pos y) Equal (ap pos e)))
  | inr (inl h) ↦ rw (sym (nat_cmp_is x y Less h)) (sym (int_cmp_is (pos x) (pos y) Less (pos-below x y h)))
  | inr (inr h) ↦ rw (sym (nat_cmp_is x y Greater h)) (sym (int_cmp_is (pos x) (pos y) Greater (pos-below y x h)))
]

cmp-negsuc : (x y : ℕ) → int_cmp (negsuc x) (negsuc y) ≡ nat_cmp (suc y) (suc x)
cmp-negsuc x y = elim (cases_order x y) [
  | inl e ↦ rw (sym (nat_cmp_is (suc y) (suc x) Equal (omega (arith, e)))) (sym (int_cmp_is (negsuc x) (negsuc y) Equal (ap negsuc e)))
  | inr (inl h) ↦ rw (sym (nat_cmp_is (suc y) (suc x) Greater (omega (arith, h)))) (sym (int_cmp_is (negsuc x) (negsuc y) Greater (neg-below x y h)))
  | inr (inr h) ↦ rw (sym (nat_cmp_is (suc y) (suc x) Less (omega (arith, h)))) (sym (int_cmp_is (negsuc x) (negsuc y) Less (neg-below y x h)))
]

pub cmp-neg : (x y : ℕ) → int_cmp (neg_ℤ (pos x)) (neg_ℤ (pos y)) ≡ nat_cmp y x
cmp-neg zero zero = refl
cmp-neg zero (suc y) = nat_cmp_is (suc y) 0 Greater (omega arith)
cmp-neg (suc x) zero = nat_cmp_is 0 (suc x) Less (omega arith)
cmp-neg (suc x) (suc y) = cmp-negsuc x y

pub neg-above : (x y : ℕ) → 0 < x → int_cmp (neg_ℤ (pos x)) (pos y) ≡ Less
neg-above zero y h = absurd (omega (arith, h))
neg-above (suc x) y h = refl

pub above-neg : (x y : ℕ) → 0 < y → int_cmp (pos x) (neg_ℤ (pos y)) ≡ Greater
above-neg x zero h = absurd (omega (arith, h))
above-neg x (suc y) h = refl

-- a number has a digit that counts exactly where it is not zero
size-order : (w f : List ℕ) → AllDigits 10 w → AllDigits 10 f
    → nat_cmp (digits_value (w ++ f)) 0 ≡ ordering_then (ordering_then (nat_cmp (length (without_leading_zeros w)) 0) (slice_cmp nat_cmp (without_leading_zeros w) []))
    (slice_cmp nat_cmp (without_trailing_zeros f) [])
size-order w f dw df =
    (λ i. nat_cmp (sym (mul-one (digits_value (w ++ f))) i) (sym (zero-mul (10 ^ length f)) i))
    ∙ cmp-scaled w f [] [] dw df tt tt

wide : (w f : List ℕ) → nat_lt 0 (length w + length f) ≡ true
    → ordering_then (ordering_then (nat_cmp (length w) 0) (slice_cmp nat_cmp w [])) (slice_cmp nat_cmp f []) ≡ Greater
wide [] [] e = absurd (omega (arith, ltb-true 0 (0 + 0) e))
wide [] (d ∷ ds) e = refl
wide (d ∷ ds) f e = rw (sym (nat_cmp_is (suc (length ds)) 0 Greater (omega arith))) refl

narrow : (w f : List ℕ) → nat_lt 0 (length w + length f) ≡ false
    → ordering_then (ordering_then (nat_cmp (length w) 0) (slice_cmp nat_cmp w [])) (slice_cmp nat_cmp f []) ≡ Equal
narrow [] [] e = refl
narrow [] (d ∷ ds) e = absurd (omega (arith, ltb-false 0 (0 + suc (length ds)) e))
narrow (d ∷ ds) f e = absurd (omega (arith, ltb-false 0 (suc (length ds) + length f) e))

size-above : (text : List ℕ) → is_decimal text ≡ true → nat_lt 0 (width text) ≡ true → 0 < size text
size-above text d e =
    let parts = decimal-parts text d in
    ranked (size text) 0 Greater (sym (size-order (whole text) (fraction text) parts.0 parts.1 ∙ wide (without_leading_zeros (whole text)) (without_trailing_zeros (fraction text)) e))

size-zero : (text : List ℕ) → is_decimal text ≡ true → nat_lt 0 (width text) ≡ false → size text ≡ 0
size-zero text d e =
    let parts = decimal-parts text d in
    ranked (size text) 0 Equal (sym (size-order (whole text) (fraction text) parts.0 parts.1 ∙ narrow (without_leading_zeros (whole text)) (without_trailing_zeros (fraction text)) e))

-- a number below zero, and one that is not
pub record IsBelow (text : List ℕ) : Type 0 where
  pub numerator_is : numerator text ≡ neg_ℤ (pos (size text))
  pub is_positive : 0 < size text

pub below : (text : List ℕ) → is_decimal text ≡ true → is_below_zero text ≡ true → IsBelow text
below text d e =
    let signs = and_parts (is_negative text) (nat_lt 0 (width text)) e in
    record { numerator_is = rw signs.0 refl; is_positive = size-above text d signs.1 }

pub not-below : (text : List ℕ) → is_decimal text ≡ true → is_below_zero text ≡ false → numerator text ≡ pos (size text)
not-below text d e = by (is_negative text) refl
  where
    by : (b : Bool) → is_negative text ≡ b → numerator text ≡ pos (size text)
    by false f = rw f refl
    by true f = let none = size-zero text d (rw f at e) in rw (f, none) refl

scaled-pos : (n k : ℕ) → 0 < n → 0 < n * 10 ^ k
scaled-pos n k h = mul-pos h (one-le-pow k 10 (lit< tt))

-- the order of the sizes of two numbers
abbrev pub size_cmp : List ℕ → List ℕ → Ordering
size_cmp a b = nat_cmp (size a * 10 ^ scale b) (size b * 10 ^ scale a)

pub cmp-above : (a b : List ℕ) → is_decimal a ≡ true → is_decimal b ≡ true → is_below_zero a ≡ false → is_below_zero b ≡ false
    → size_cmp a b ≡ number_cmp a b
cmp-above a b da db na nb =
    sym ((λ i. int_cmp (not-below a da na i *ℤ pos (10 ^ scale b)) (not-below b db nb i *ℤ pos (10 ^ scale a)))
    ∙ (λ i. int_cmp (pos-*ℤ-pos (size a) (10 ^ scale b) i) (pos-*ℤ-pos (size b) (10 ^ scale a) i))
    ∙ cmp-pos (size a * 10 ^ scale b) (size b * 10 ^ scale a))

pub cmp-below : (a b : List ℕ) → is_decimal a ≡ true → is_decimal b ≡ true → is_below_zero a ≡ true → is_below_zero b ≡ true
    → size_cmp b a ≡ number_cmp a b
cmp-below a b da db na nb =
    sym ((λ i. int_cmp ((below a da na).numerator_is i *ℤ pos (10 ^ scale b)) ((below b db nb).numerator_is i *ℤ pos (10 ^ scale a)))
    ∙ (λ i. int_cmp (neg-times (size a) (10 ^ scale b) i) (neg-times (size b) (10 ^ scale a) i))
    ∙ cmp-neg (size a * 10 ^ scale b) (size b * 10 ^ scale a))

pub cmp-below-above : (a b : List ℕ) → is_decimal a ≡ true → is_decimal b ≡ true → is_below_zero a ≡ true → is_below_zero b ≡ false
    → Less ≡ number_cmp a b
cmp-below-above a b da db na nb =
    sym ((λ i. int_cmp ((below a da na).numerator_is i *ℤ pos (10 ^ scale b)) (not-below b db nb i *ℤ pos (10 ^ scale a)))
    ∙ (λ i. int_cmp (neg-times (size a) (10 ^ scale b) i) (pos-*ℤ-pos (size b) (10 ^ scale a) i))
    ∙ neg-above (size a * 10 ^ scale b) (size b * 10 ^ scale a) (scaled-pos (size a) (scale b) (below a da na).is_positive))

pub cmp-above-below : (a b : List ℕ) → is_decimal a ≡ true → is_decimal b ≡ true → is_below_zero a ≡ false → is_below_zero b ≡ true
    → Greater ≡ number_cmp a b
cmp-above-below a b da db na nb =
    sym ((λ i. int_cmp (not-below a da na i *ℤ pos (10 ^ scale b)) ((below b db nb).numerator_is i *ℤ pos (10 ^ scale a)))
    ∙ (λ i. int_cmp (pos-*ℤ-pos (size a) (10 ^ scale b) i) (neg-times (size b) (10 ^ scale a) i))
    ∙ above-neg (size a * 10 ^ scale b) (size b * 10 ^ scale a) (scaled-pos (size b) (scale a) (below b db nb).is_positive))

-- the sizes of two numbers, as their digits without needless zeros are ordered
pub cmp-size : (a b : List ℕ) → is_decimal a ≡ true → is_decimal b ≡ true
    → ordering_then (ordering_then (nat_cmp (length (without_leading_zeros (whole a))) (length (without_leading_zeros (whole b))))
    (slice_cmp nat_cmp (without_leading_zeros (whole a)) (without_leading_zeros (whole b))))
    (slice_cmp nat_cmp (without_trailing_zeros (fraction a)) (without_trailing_zeros (fraction b)))
    ≡ size_cmp a b
cmp-size a b da db =
    let p = decimal-parts a da in let q = decimal-parts b db in
    sym (cmp-scaled (whole a) (fraction a) (whole b) (fraction b) p.0 p.1 q.0 q.1)
