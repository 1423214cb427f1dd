-- The label of a blank node is the kit's hex, and no two texts share one.
use Rattle.std.proofs.Common.{◌≡◌, ◌<◌, ◌++◌, ◌/◌, ◌%◌, ℕ, List, [], ◌∷◌, true, ap, refl, arith, suc, ◌==◌}
use Rattle.std.specs.Prelude.{flat_map, slice_index}
use Rattle.std.proofs.lemmas.Bool.{agree_below_at}
use Rattle.std.proofs.lemmas.Bool.Decides.{nat_tests}
use Rattle.std.specs.Char.{digit_char}
use Rattle.vkg_lists.proofs.Heads.{head_same, tail_same}
use Rattle.hex.specs.Hex.{encode_with, encode_lower, lower_digits, IsBytes}
use Rattle.vkg_terms.specs.Label.{blank_label}

-- the digits of an octet
abbrev digits : ℕ → List ℕ
digits octet = digit_char (octet / 16) ∷ digit_char (octet % 16) ∷ []

digit_char_same : (a b : ℕ) → digit_char a ≡ digit_char b → a ≡ b
digit_char_same a b e = grind (arith, nat_tests)

octet_same : (a b : ℕ) → digit_char (a / 16) ≡ digit_char (b / 16) → digit_char (a % 16) ≡ digit_char (b % 16) → a ≡ b
octet_same a b high low =
    let h = digit_char_same _ _ high in
    let l = digit_char_same _ _ low in
    omega (arith, h, l)

digits_same : (a b : List ℕ) → flat_map digits a ≡ flat_map digits b → a ≡ b
digits_same [] [] e = refl
digits_same [] (y ∷ ys) e = cc e
digits_same (x ∷ xs) [] e = cc e
digits_same (x ∷ xs) (y ∷ ys) e =
    let tail = tail_same _ _ _ _ e in
    let h : x ≡ y = octet_same x y (head_same _ _ _ _ e) (head_same _ _ _ _ tail) in
    let t : xs ≡ ys = digits_same xs ys (tail_same _ _ _ _ tail) in
    cc

-- no two texts have one label
pub label_same : (a b : List ℕ) → blank_label a ≡ blank_label b → a ≡ b
label_same a b e = digits_same a b (tail_same _ _ _ _ e)

digit_table : (d : ℕ) → d < 16 → (digit_char d == slice_index lower_digits d) ≡ true
digit_table d h = agree_below_at (λ n. digit_char n == slice_index lower_digits n) (λ n. true) 16 d refl h

digit_kit : (d : ℕ) → d < 16 → digit_char d ≡ slice_index lower_digits d
digit_kit d h = let e = digit_table d h in grind (arith, nat_tests)

digits_kit : (text : List ℕ) → IsBytes text → flat_map digits text ≡ encode_lower text
unfolding encode_with
digits_kit [] h = refl
digits_kit (b ∷ bs) h =
    let small : b < 256 = h 0 in
    let high = digit_kit (b / 16) (omega (arith, small)) in
    let low = digit_kit (b % 16) (omega arith) in
    let rest = digits_kit bs (λ i. h (suc i)) in
    cc

-- the label is `b` and the kit's hex text
pub label_kit : (text : List ℕ) → IsBytes text → blank_label text ≡ 98 ∷ encode_lower text
label_kit text h = ap (λ ds. 98 ∷ ds) (digits_kit text h)

-- the label, put together
pub label_steps : (text start sign before hex shown out : List ℕ) → IsBytes text → start ≡ [] → sign ≡ 98 ∷ [] → before ≡ start ++ sign → hex ≡ encode_lower text → shown ≡ hex → out ≡ before ++ shown → out ≡ blank_label text
label_steps text start sign before hex shown out h a b c d e f = let kit = label_kit text h in cc
