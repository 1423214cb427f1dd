-- The lines of triples, solution after solution.
use Rattle.std.proofs.Common.{◌≡◌, ◌∙◌, ℕ, zero, suc, ◌+◌, ◌<◌, ◌≤◌, List, [], ◌∷◌, ◌++◌, drop, flat_map, get_or, length, map, append-nil, append_assoc, refl, sym, ap, arith}
use Rattle.std.specs.Prelude.{option_and_then, slice_get}
use Rattle.std.specs.List.{enumerate_from}
use Rattle.std.proofs.Math.ListN.{drop_of_length-le}
use Rattle.std.proofs.lemmas.List.{map-append}
use Rattle.vkg_lists.specs.Rows.{value_at}
use Rattle.vkg_terms.specs.NQuads.{Quad, line}
use Rattle.vkg_cells.specs.declared.cell.Cell.{Cell}
use Rattle.vkg_order.specs.Values.{bound}

-- a place of a row is that of its cell
pub place_is : (cells : List Cell) (k : ℕ) → value_at (map bound cells) k ≡ option_and_then bound (slice_get cells k)
place_is [] zero = refl
place_is [] (suc k) = refl
place_is (c ∷ cells) zero = refl
place_is (c ∷ cells) (suc k) = place_is cells k

-- what is numbered from a place on: the first, and what is behind it
numbered : {A : Type 0} (xs : List A) (k n : ℕ) (x : A) → k < length xs → x ≡ get_or xs k x → enumerate_from n (drop k xs) ≡ (n, x) ∷ enumerate_from (n + 1) (drop (k + 1) xs)
numbered [] k n x l e = absurd (omega (arith, l))
numbered (y ∷ xs) zero n x l e = ap (λ z. (n, z) ∷ enumerate_from (n + 1) xs) (sym e)
numbered (y ∷ xs) (suc k) n x l e =
    numbered xs k n x (omega (arith, l)) e ∙ ap (λ ys. (n, x) ∷ enumerate_from (n + 1) ys) (let j : suc k + 1 ≡ suc (k + 1) = omega arith in ap (λ i. drop i (y ∷ xs)) (sym j))

-- what is numbered of a list's images
pub numbered-map : {A B C : Type 0} (f : A → B) (quads : ℕ × B → List C) (xs : List A) (n : ℕ) → flat_map quads (enumerate_from n (map f xs)) ≡ flat_map (λ (p : ℕ × A). quads (p.0, f p.1)) (enumerate_from n xs)
numbered-map f quads [] n = refl
numbered-map f quads (x ∷ xs) n = ap (λ ys. quads (n, f x) ++ ys) (numbered-map f quads xs (n + 1))

module _ {A : Type 0} (quads : ℕ × A → List Quad) where
  -- what is written and what is left give the same after one more
  pub numbered_more : (xs : List A) (n k : ℕ) (x : A) (before after whole : List (List ℕ)) → k < length xs → x ≡ get_or xs k x
      → before ++ map line (flat_map quads (enumerate_from (n + k) (drop k xs))) ≡ whole → after ≡ before ++ map line (quads (n + k, x))
      → after ++ map line (flat_map quads (enumerate_from (n + (k + 1)) (drop (k + 1) xs))) ≡ whole
  numbered_more xs n k x before after whole l e h a =
      let next : n + (k + 1) ≡ n + k + 1 = omega arith in
      let rest : List Quad = flat_map quads (enumerate_from (n + k + 1) (drop (k + 1) xs)) in
      ap (λ m. after ++ map line (flat_map quads (enumerate_from m (drop (k + 1) xs)))) next
      ∙ ap (λ ls. ls ++ map line rest) a
      ∙ append_assoc before (map line (quads (n + k, x))) (map line rest)
      ∙ ap (λ ls. before ++ ls) (sym (map-append line (quads (n + k, x)) rest))
      ∙ ap (λ ps. before ++ map line (flat_map quads ps)) (sym (numbered xs k (n + k) x l e))
      ∙ h

  -- where nothing is written yet
  pub numbered_none : (xs : List A) (n : ℕ) (out : List (List ℕ)) → out ≡ [] → out ++ map line (flat_map quads (enumerate_from (n + 0) (drop 0 xs))) ≡ map line (flat_map quads (enumerate_from n xs))
  numbered_none xs n out e = rw e (ap (λ m. map line (flat_map quads (enumerate_from m xs))) (let z : n + 0 ≡ n = omega arith in z))

  -- where nothing is left
  pub numbered_all : (xs : List A) (n k : ℕ) (out whole : List (List ℕ)) → length xs ≤ k → out ++ map line (flat_map quads (enumerate_from (n + k) (drop k xs))) ≡ whole → out ≡ whole
  numbered_all xs n k out whole l h = sym (append-nil out) ∙ ap (λ ys. out ++ map line (flat_map quads (enumerate_from (n + k) ys))) (sym (drop_of_length-le xs l)) ∙ h
