-- IRI-safe text stands in an IRI.
use Rattle.std.proofs.Common.{◌≡◌, ℕ, suc, ◌+◌, ◌<◌, ◌≤◌, refl, sym, ◌∙◌, ap, List, [], ◌∷◌, ◌++◌, take, flat_map, Bool, true, false, not, cond, ◌||◌, arith, ◌==◌, nat_le}
use Rattle.std.specs.Prelude.{chars, encode_utf8}
use Rattle.std.specs.List.{list_all, list_any, before_first, position_or_len}
use Rattle.std.proofs.lemmas.Bool.{agree_below_at}
use Rattle.std.proofs.lemmas.List.Folds.{list_all-append, list_any-append}
use lib.Utf8.{scalar, scalars}
use Rattle.vkg_terms.specs.Iri.{is_iri_character, is_absolute, has_scheme, is_scheme}
use Rattle.vkg_terms.specs.Safe.{safe, safe_character, is_unreserved, percent}
use Rattle.vkg_lists.proofs.Bools.{and_true, and_parts, implied}
use Rattle.vkg_lists.proofs.Positions.{all_weaken}
use Rattle.vkg_lists.proofs.Walks.{list_all-flat_map}
use Rattle.vkg_terms.proofs.Octets.{encode_all, scalar_below}

percents : (b : ℕ) → b < 256 → list_all is_iri_character (percent b) ≡ true
percents b h = agree_below_at (λ n. list_all is_iri_character (percent n)) (λ n. true) 256 b refl h

high : (b : ℕ) → 128 ≤ b → b < 256 → is_iri_character b ≡ true
high b h l = implied (nat_le 128 b) (is_iri_character b) (agree_below_at (λ n. not (nat_le 128 n) || is_iri_character n) (λ n. true) 256 b refl l) (grind arith)

low : (b : ℕ) → is_unreserved b ≡ true → b < 128 → is_iri_character b ≡ true
low b u l = implied (is_unreserved b) (is_iri_character b) (agree_below_at (λ n. not (is_unreserved n) || is_iri_character n) (λ n. true) 128 b refl l) u

safe_one : (c : ℕ) → c < 1114112 → list_all is_iri_character (safe_character c) ≡ true
safe_one c s = elim (is_unreserved c) as (λ b. is_unreserved c ≡ b → list_all is_iri_character (cond b (encode_utf8 c) (flat_map percent (encode_utf8 c))) ≡ true) [
  | true ↦ λ e. encode_all is_iri_character c s high (low c e)
  | false ↦ λ e. list_all-flat_map is_iri_character percent (encode_utf8 c) ∙ encode_all (λ b. list_all is_iri_character (percent b)) c s (λ b h l. percents b l) (λ l. percents c (omega (arith, l)))
] refl

-- what is put in IRI-safe holds only characters of IRIs
pub safe_all : (text : List ℕ) → scalars (chars text) ≡ true → list_all is_iri_character (safe text) ≡ true
safe_all text e =
    list_all-flat_map is_iri_character safe_character (chars text)
    ∙ all_weaken scalar (λ c. list_all is_iri_character (safe_character c)) (chars text) (λ c s. safe_one c (scalar_below c s)) e

before_more : (p : ℕ → Bool) (xs ys : List ℕ) → list_any p xs ≡ true → before_first p (xs ++ ys) ≡ before_first p xs
before_more p [] ys e = cc
before_more p (x ∷ xs) ys e = elim (p x) as (λ b. (b || list_any p xs) ≡ true → take (cond (not b) (1 + position_or_len p (xs ++ ys)) 0) (x ∷ xs ++ ys) ≡ take (cond (not b) (1 + position_or_len p xs) 0) (x ∷ xs)) [
  | true ↦ λ f. refl
  | false ↦ λ f.
      let k : 1 + position_or_len p (xs ++ ys) ≡ suc (position_or_len p (xs ++ ys)) = omega arith in
      let j : 1 + position_or_len p xs ≡ suc (position_or_len p xs) = omega arith in
      ap (λ n. take n (x ∷ xs ++ ys)) k ∙ (ap (λ r. x ∷ r) (before_more p xs ys f) ∙ ap (λ n. take n (x ∷ xs)) (sym j))
] e

-- an absolute IRI stays one with more characters of IRIs behind it
pub absolute_more : (base more : List ℕ) → is_absolute base ≡ true → list_all is_iri_character more ≡ true → is_absolute (base ++ more) ≡ true
absolute_more base more e m =
    let h = and_parts (has_scheme base) (list_all is_iri_character base) e in
    let g = and_parts (list_any (λ c. c == 58) base) (is_scheme (before_first (λ c. c == 58) base)) h.0 in
    and_true (has_scheme (base ++ more)) _
    (and_true (list_any (λ c. c == 58) (base ++ more)) _ (list_any-append (λ c. c == 58) base more ∙ ap (λ b. b || list_any (λ c. c == 58) more) g.0) (ap is_scheme (before_more (λ c. c == 58) base more g.0) ∙ g.1))
    (list_all-append is_iri_character base more ∙ and_true (list_all is_iri_character base) _ h.1 m)
