-- Texts of octets are ordered as the octets.
use Rattle.std.proofs.Common.{◌≡◌, ◌∙◌, ◌/◌, ◌%◌, ◌<◌, ◌==◌, inl, inr, ℕ, suc, true, List, [], ◌∷◌, refl, sym, ap, arith, slice_index, eqb-true}
use Rattle.std.proofs.lemmas.Bool.{agree_below_at, cases_lt, le-ltb, lt-ltb}
use Rattle.std.specs.Ordering.{nat_cmp, ordering_then}
use Rattle.std.specs.Cmp.Lexicographic.{slice_cmp}
use Rattle.hex.specs.Hex.{IsBytes, encode_upper, encode_with, upper_digits}
use Rattle.std.specs.Cmp.Derive.{then_next}
use Rattle.vkg_terms.specs.Safe.{upper_hex}
use Rattle.vkg_laws.proofs.Orders.{nat-order, nat-order-then}

upper-is : (n : ℕ) → n < 16 → slice_index upper_digits n ≡ upper_hex n
upper-is n h = eqb-true (slice_index upper_digits n) (upper_hex n) (agree_below_at (λ k. slice_index upper_digits k == upper_hex k) (λ k. true) 16 n refl h)

digits-ascend : (m n : ℕ) → m < n → upper_hex m < upper_hex n
digits-ascend m n h = elim (cases_lt n 10) [
  | inl low ↦ let first : m < 10 = omega arith in rw (lt-ltb m 10 first, lt-ltb n 10 low) (omega arith)
  | inr high ↦ elim (cases_lt m 10) [
    | inl first ↦ rw (lt-ltb m 10 first, le-ltb n 10 high) (omega arith)
    | inr both ↦ rw (le-ltb m 10 both, le-ltb n 10 high) (omega arith)
  ]
]

digit-order : (m n : ℕ) → m < 16 → n < 16 → nat_cmp (slice_index upper_digits m) (slice_index upper_digits n) ≡ nat_cmp m n
digit-order m n h g =
    (λ i. nat_cmp (upper-is m h i) (upper-is n g i))
    ∙ nat-order (upper_hex m) (upper_hex n) m n (digits-ascend m n) (ap upper_hex) (digits-ascend n m)

octet-order : (x y : ℕ) → nat_cmp x y ≡ ordering_then (nat_cmp (x / 16) (y / 16)) (nat_cmp (x % 16) (y % 16))
octet-order x y =
    nat-order-then x y (x / 16) (y / 16) (x % 16) (y % 16) (λ h. omega arith) (λ h. omega arith) (λ e h. omega arith) (λ e h. omega arith) (λ e h. omega arith)

high : (x : ℕ) → x < 256 → x / 16 < 16
high x h = omega arith

low : (x : ℕ) → x % 16 < 16
low x = omega arith

pub octets-order : (xs ys : List ℕ) → IsBytes xs → IsBytes ys → slice_cmp nat_cmp (encode_upper xs) (encode_upper ys) ≡ slice_cmp nat_cmp xs ys
unfolding encode_with
octets-order [] [] a b = refl
octets-order [] (y ∷ ys) a b = refl
octets-order (x ∷ xs) [] a b = refl
octets-order (x ∷ xs) (y ∷ ys) a b =
    (λ i. ordering_then (digit-order (x / 16) (y / 16) (high x (a 0)) (high y (b 0)) i)
    (ordering_then (digit-order (x % 16) (y % 16) (low x) (low y) i) (octets-order xs ys (λ k. a (suc k)) (λ k. b (suc k)) i)))
    ∙ then_next (nat_cmp (x / 16) (y / 16)) (nat_cmp (x % 16) (y % 16)) (slice_cmp nat_cmp xs ys) refl refl
    ∙ ap (λ o. ordering_then o (slice_cmp nat_cmp xs ys)) (sym (octet-order x y))
