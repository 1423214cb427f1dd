-- A number has no more digits that count than its text has bytes.
use Rattle.std.proofs.Common.{◌≡◌, ℕ, ◌+◌, ◌≤◌, ◌<◌, ◌^◌, suc, Bool, true, false, cond, List, [], ◌∷◌, take, drop, length, nat_lt, arith, min, lit≤}
use Rattle.std.specs.Prelude.{decimal, ◌==◌, ◌||◌}
use Rattle.std.specs.List.{after_first, before_first, position_or_len}
use Rattle.std.proofs.lemmas.Bool.{le-ltb, lt-ltb}
use Rattle.std.proofs.lemmas.Fmt.{length-decimal-le_wide}
use Rattle.std.proofs.lemmas.List.{length-drop, length-take}
use Rattle.vkg_cells.specs.Number.{fraction, onto_unless_zero, unsigned, whole, width, without_leading_zeros, without_trailing_zeros}

leading : (ds : List ℕ) → length (without_leading_zeros ds) ≤ length ds
leading [] = omega arith
leading (d ∷ ds) = let h = leading ds in elim (d == 48) as (λ b. length (cond b (without_leading_zeros ds) (d ∷ ds)) ≤ suc (length ds)) [ true ↦ omega (arith, h) | false ↦ omega arith ]

onto : (d : ℕ) (es : List ℕ) → length (onto_unless_zero d es) ≤ suc (length es)
onto d [] = elim (d == 48) as (λ b. length (cond b [] (d ∷ [])) ≤ 1) [ true ↦ omega arith | false ↦ omega arith ]
onto d (e ∷ es) = omega arith

trailing : (ds : List ℕ) → length (without_trailing_zeros ds) ≤ length ds
trailing [] = omega arith
trailing (d ∷ ds) = let h = trailing ds in let k = onto d (without_trailing_zeros ds) in omega (arith, h, k)

unsigned_short : (text : List ℕ) → length (unsigned text) ≤ length text
unsigned_short [] = omega arith
unsigned_short (b ∷ bs) = elim ((b == 43) || (b == 45)) as (λ s. length (cond s bs (b ∷ bs)) ≤ suc (length bs)) [ true ↦ omega arith | false ↦ omega arith ]

halves : (k : ℕ) (xs : List ℕ) → length (take k xs) + length (drop (k + 1) xs) ≤ length xs
halves k xs = let t = length-take k xs in let d = length-drop (k + 1) xs in omega (arith, t, d)

width_short : (text : List ℕ) → width text ≤ length text
width_short text =
    let l = leading (whole text) in
    let t = trailing (fraction text) in
    let h = halves (position_or_len (λ b. b == 46) (unsigned text)) (unsigned text) in
    let u = unsigned_short text in
    omega (arith, l, t, h, u)

through : (n a b : ℕ) → n < a → a ≤ b → n < b
through n a b l m = omega (arith, l, m)

-- what is below 10 ^ 38 has at most 38 digits
pub narrow_decimal : (n : ℕ) → n < 10 ^ 38 → nat_lt 38 (width (decimal n)) ≡ false
narrow_decimal n l =
    let d : length (decimal n) ≤ 38 = length-decimal-le_wide 38 n (omega arith) l (through n (10 ^ 38) (10 ^ 64) l (lit≤ tt)) in
    let w = width_short (decimal n) in
    le-ltb 38 (width (decimal n)) (omega (arith, d, w))

-- a number of the machine is below 10 ^ 38
pub fits : (n : ℕ) → n < 2 ^ 64 → nat_lt n (10 ^ 38) ≡ true
fits n l = lt-ltb n (10 ^ 38) (through n (2 ^ 64) (10 ^ 38) l (lit≤ tt))
