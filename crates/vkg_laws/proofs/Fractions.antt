-- The digits after a point are ordered as the nanoseconds that they write.
use Rattle.std.proofs.Common.{◌≡◌, ◌∙◌, ◌+◌, ◌-◌, ◌*◌, ◌^◌, ◌≤◌, ℕ, List, [], ◌∷◌, refl, sym, ap, arith, length}
use Rattle.std.proofs.Math.Dec.{lit<}
use Rattle.std.proofs.Math.Nat.{mul_assoc, one-le-pow}
use Rattle.std.proofs.lemmas.Nat.{pow-add}
use Rattle.std.specs.Ordering.{nat_cmp}
use Rattle.std.specs.Cmp.Lexicographic.{slice_cmp}
use Rattle.std.specs.Str.Parse.{AllDigits}
use Rattle.vkg_cells.specs.Number.{after_point, digits_value, without_trailing_zeros}
use Rattle.vkg_cells.proofs.ValueLemmas.{cmp-scaled}
use Rattle.vkg_laws.specs.ByValue.{nanoseconds_of}
use Rattle.vkg_laws.proofs.Orders.{nat-order-over}

raised : (x m n k : ℕ) → m ≤ k → x * 10 ^ (k - m) * 10 ^ (m + n) ≡ x * 10 ^ n * 10 ^ k
raised x m n k h =
    let sum : k - m + (m + n) ≡ n + k = omega arith in
    mul_assoc x (10 ^ (k - m)) (10 ^ (m + n))
    ∙ ap (λ p. x * p) (sym (pow-add 10 (k - m) (m + n)) ∙ ap (λ e. 10 ^ e) sum ∙ pow-add 10 n k)
    ∙ sym (mul_assoc x (10 ^ n) (10 ^ k))

-- two fractions over one power of ten, and each over its own
over-one : (x y m n k : ℕ) → m ≤ k → n ≤ k → nat_cmp (x * 10 ^ (k - m)) (y * 10 ^ (k - n)) ≡ nat_cmp (x * 10 ^ n) (y * 10 ^ m)
over-one x y m n k h g =
    let turned : m + n ≡ n + m = omega arith in
    nat-order-over (x * 10 ^ (k - m)) (y * 10 ^ (k - n)) (x * 10 ^ n) (y * 10 ^ m) (10 ^ (m + n)) (10 ^ k)
    (one-le-pow (m + n) 10 (lit< tt)) (one-le-pow k 10 (lit< tt)) (raised x m n k h) (ap (λ e. y * 10 ^ (k - n) * 10 ^ e) turned ∙ raised y n m k g)

points-order : (f g : List ℕ) → slice_cmp nat_cmp (after_point f) (after_point g) ≡ slice_cmp nat_cmp f g
points-order [] [] = refl
points-order [] (d ∷ ds) = refl
points-order (c ∷ cs) [] = refl
points-order (c ∷ cs) (d ∷ ds) = refl

pub fraction-order : (f g : List ℕ) → AllDigits 10 f → AllDigits 10 g → length f ≤ 9 → length g ≤ 9
    → slice_cmp nat_cmp (after_point (without_trailing_zeros f)) (after_point (without_trailing_zeros g)) ≡ nat_cmp (nanoseconds_of f) (nanoseconds_of g)
fraction-order f g df dg sf sg =
    points-order (without_trailing_zeros f) (without_trailing_zeros g)
    ∙ sym (over-one (digits_value f) (digits_value g) (length f) (length g) 9 sf sg ∙ cmp-scaled [] f [] g tt df tt dg)
