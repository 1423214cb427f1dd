-- Octets of a text, and tests of each.
use Rattle.std.proofs.Common.{◌≡◌, ℕ, ◌+◌, ◌/◌, ◌<◌, ◌≤◌, refl, ap, List, [], ◌∷◌, ◌++◌, length, length-append, Bool, true, false, cond, ltb, nat_lt, get_or, arith}
use Rattle.std.specs.List.{list_all}
use Rattle.std.specs.Str.{IsAscii}
use Rattle.std.proofs.lemmas.Bool.{ltb-true}
use Rattle.std.proofs.lemmas.List.Sums.{AllPass-from_list_all}
use Rattle.std.proofs.lemmas.Str.{length-encode, len_utf8_bounds}
use Rattle.std.proofs.lemmas.Str.Ascii.{IsAscii-from_all}
use Rattle.vkg_lists.proofs.Bools.{and_true}
use lib.Utf8.{encode, next, scalar}

pub scalar_below : (c : ℕ) → scalar c ≡ true → c < 1114112
scalar_below c e = grind arith

pub ascii_small : (text : List ℕ) → list_all (λ b. nat_lt b 128) text ≡ true → IsAscii text
ascii_small text e = IsAscii-from_all text (λ k d l. ltb-true (get_or text k d) 128 (AllPass-from_list_all (λ b. nat_lt b 128) text e k d l))

-- a character has an octet
pub not_nothing : (c : ℕ) (u : List ℕ) → [] ≡ encode c ++ u → ⊥
not_nothing c u e =
    let h : 0 ≡ length (encode c ++ u) = ap length e in
    let k : length (encode c ++ u) ≡ length (encode c) + length u = length-append (encode c) u in
    let n = length-encode c in
    let m = (len_utf8_bounds c).0 in
    omega (arith, h, k, n, m)

-- the octets of a character are itself, or all at least 128
pub encode_all : (p : ℕ → Bool) (c : ℕ) → c < 1114112 → ((b : ℕ) → 128 ≤ b → b < 256 → p b ≡ true) → (c < 128 → p c ≡ true) → list_all p (encode c) ≡ true
unfolding encode
encode_all p c s h l = elim (ltb c 128) as (λ x. ltb c 128 ≡ x → list_all p (cond x (c ∷ []) (cond (ltb c 2048) ((192 + c / 64) ∷ next c ∷ []) (cond (ltb c 65536) ((224 + c / 4096) ∷ next (c / 64) ∷ next c ∷ []) ((240 + c / 262144) ∷ next (c / 4096) ∷ next (c / 64) ∷ next c ∷ [])))) ≡ true) [
  | true ↦ λ e. and_true (p c) true (l (ltb-true c 128 e)) refl
  | false ↦ λ e. elim (ltb c 2048) as (λ x. ltb c 2048 ≡ x → list_all p (cond x ((192 + c / 64) ∷ next c ∷ []) (cond (ltb c 65536) ((224 + c / 4096) ∷ next (c / 64) ∷ next c ∷ []) ((240 + c / 262144) ∷ next (c / 4096) ∷ next (c / 64) ∷ next c ∷ []))) ≡ true) [
    | true ↦ λ f. let g = ltb-true c 2048 f in and_true (p (192 + c / 64)) _ (h (192 + c / 64) (omega arith) (omega (arith, g))) (and_true (p (next c)) true (more c) refl)
    | false ↦ λ f. elim (ltb c 65536) as (λ x. ltb c 65536 ≡ x → list_all p (cond x ((224 + c / 4096) ∷ next (c / 64) ∷ next c ∷ []) ((240 + c / 262144) ∷ next (c / 4096) ∷ next (c / 64) ∷ next c ∷ [])) ≡ true) [
      | true ↦ λ f. let g = ltb-true c 65536 f in and_true (p (224 + c / 4096)) _ (h (224 + c / 4096) (omega arith) (omega (arith, g))) (and_true (p (next (c / 64))) _ (more (c / 64)) (and_true (p (next c)) true (more c) refl))
      | false ↦ λ f. and_true (p (240 + c / 262144)) _ (h (240 + c / 262144) (omega arith) (omega (arith, s))) (and_true (p (next (c / 4096))) _ (more (c / 4096)) (and_true (p (next (c / 64))) _ (more (c / 64)) (and_true (p (next c)) true (more c) refl)))
    ] refl
  ] refl
] refl
  where
    more : (b : ℕ) → p (next b) ≡ true
    more b = h (next b) (omega arith) (omega arith)
