-- Orders that are made of orders.
use Rattle.std.proofs.Common.{◌≡◌, ◌∙◌, ◌*◌, ◌<◌, inl, inr, ℕ, List, [], ◌∷◌, refl, sym, ap}
use Rattle.std.proofs.Math.Nat.{mul-lt-mul_of_pos_right}
use Rattle.std.proofs.lemmas.Bool.{cases_order}
use Rattle.std.specs.Ordering.{nat_cmp, ordering_then}
use Rattle.std.specs.Cmp.{nat_cmp_is}
use Rattle.std.specs.Cmp.Derive.{then_next}
use Rattle.std.specs.declared.cmp.Ordering.{Ordering}
use Rattle.std.specs.declared.cmp.Ordering.TheVariants.{Less, Equal, Greater}

-- one order after another, and then this one
abbrev pub in_turn : List Ordering → Ordering → Ordering
in_turn [] last = last
in_turn (o ∷ os) last = ordering_then o (in_turn os last)

pub front-in-turn : (os : List Ordering) (last : Ordering) → in_turn os last ≡ ordering_then (in_turn os Equal) last
front-in-turn [] last = refl
front-in-turn (o ∷ os) last = then_next o (in_turn os Equal) last refl (ap (ordering_then o) (front-in-turn os last))

-- numbers are ordered as others are that they ascend with
pub nat-order : (p q x y : ℕ) → (x < y → p < q) → (x ≡ y → p ≡ q) → (y < x → q < p) → nat_cmp p q ≡ nat_cmp x y
nat-order p q x y less same more = elim (cases_order x y) [
  | inl e ↦ rw (sym (nat_cmp_is x y Equal e)) (sym (nat_cmp_is p q Equal (same e)))
  | inr (inl h) ↦ rw (sym (nat_cmp_is x y Less h)) (sym (nat_cmp_is p q Less (less h)))
  | inr (inr h) ↦ rw (sym (nat_cmp_is x y Greater h)) (sym (nat_cmp_is p q Greater (more h)))
]

-- the order of numbers in two places, of which the first counts for more
pub nat-order-then : (p q m n x y : ℕ) → (m < n → p < q) → (n < m → q < p) → (m ≡ n → x < y → p < q) → (m ≡ n → x ≡ y → p ≡ q) → (m ≡ n → y < x → q < p)
    → nat_cmp p q ≡ ordering_then (nat_cmp m n) (nat_cmp x y)
nat-order-then p q m n x y before behind less same more = elim (cases_order m n) [
  | inl e ↦ rw (sym (nat_cmp_is m n Equal e)) (nat-order p q x y (less e) (same e) (more e))
  | inr (inl h) ↦ rw (sym (nat_cmp_is m n Less h)) (sym (nat_cmp_is p q Less (before h)))
  | inr (inr h) ↦ rw (sym (nat_cmp_is m n Greater h)) (sym (nat_cmp_is p q Greater (behind h)))
]

-- two numbers and two others that are the same over two denominators
pub nat-order-over : (p q x y a b : ℕ) → 0 < a → 0 < b → p * a ≡ x * b → q * a ≡ y * b → nat_cmp p q ≡ nat_cmp x y
nat-order-over p q x y a b h k e f =
    sym (nat-order (p * a) (q * a) p q (λ l. mul-lt-mul_of_pos_right l h) (ap (λ n. n * a)) (λ l. mul-lt-mul_of_pos_right l h))
    ∙ (λ i. nat_cmp (e i) (f i))
    ∙ nat-order (x * b) (y * b) x y (λ l. mul-lt-mul_of_pos_right l k) (ap (λ n. n * b)) (λ l. mul-lt-mul_of_pos_right l k)
