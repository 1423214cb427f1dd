-- The elements of a list with their numbers (`enumerate_from` of std).
use Rattle.std.proofs.Common.{◌≡◌, ◌∙◌, ℕ, zero, suc, ◌+◌, ◌<◌, ◌≤◌, inl, inr, ⊎_elim, List, [], ◌∷◌, ◌++◌, map, drop, length, get_or, Some, sym, ap, subst, append_assoc, arith}
use Rattle.std.specs.Prelude.{slice_get}
use Rattle.std.specs.List.{Contains, enumerate_from}
use Rattle.std.proofs.lemmas.Option.{same_Some}
use Rattle.vkg_lists.proofs.Firsts.{opened}
use Rattle.vkg_lists.proofs.Members.{Contains-none, Contains-here, Contains-there, Contains-cons_cases}

module _ {A : Type 0} where
  pub numbered : (n : ℕ) (xs : List A) (x : A) → Contains xs x → (k : ℕ) × Contains (enumerate_from n xs) (k, x)
  numbered n [] x c = absurd (Contains-none x c)
  numbered n (y ∷ ys) x c = ⊎_elim
      (λ e. (n, subst (λ z. Contains (enumerate_from n (y ∷ ys)) (n, z)) e (Contains-here (n, y) (enumerate_from (n + 1) ys))))
      (λ d. let r = numbered (n + 1) ys x d in (r.0, Contains-there (n, y) (enumerate_from (n + 1) ys) (r.0, x) r.1))
      (Contains-cons_cases y ys x c)

  pub numbered_at : (n : ℕ) (xs : List A) (p : ℕ × A) → Contains (enumerate_from n xs) p → (k : ℕ) × (p.0 ≡ n + k) × (slice_get xs k ≡ Some p.1)
  numbered_at n [] p c = absurd (Contains-none p c)
  numbered_at n (x ∷ xs) p c = elim (Contains-cons_cases (n, x) (enumerate_from (n + 1) xs) p c) [
    | inl e ↦ let i : n ≡ p.0 = ap (λ q. q.0) e in (0, omega (arith, i), ap (λ q. Some q.1) e)
    | inr d ↦ let r = numbered_at (n + 1) xs p d in let i : p.0 ≡ (n + 1) + r.0 = r.1 in (suc r.0, omega (arith, i), r.2)
  ]

  pub numbered_place : (xs : List A) (p : ℕ × A) → Contains (enumerate_from 0 xs) p → slice_get xs p.0 ≡ Some p.1
  numbered_place xs p c = let r = numbered_at 0 xs p c in let i : p.0 ≡ r.0 = let j : p.0 ≡ 0 + r.0 = r.1 in omega (arith, j) in ap (slice_get xs) i ∙ r.2

  pub numbered_get : (n : ℕ) (xs : List A) (k : ℕ) (x : A) → slice_get xs k ≡ Some x → slice_get (enumerate_from n xs) k ≡ Some (n + k, x)
  numbered_get n [] k x e = cc
  numbered_get n (y ∷ ys) zero x e = let s : y ≡ x = cc in let i : n ≡ n + 0 = omega arith in λ j. Some (i j, s j)
  numbered_get n (y ∷ ys) (suc k) x e = let i : (n + 1) + k ≡ n + suc k = omega arith in numbered_get (n + 1) ys k x e ∙ ap (λ m. Some (m, x)) i

  pub numbered_member : (n : ℕ) (xs : List A) (p : ℕ × A) → Contains (enumerate_from n xs) p → Contains xs p.1
  numbered_member n [] p c = absurd (Contains-none p c)
  numbered_member n (x ∷ xs) p c = elim (Contains-cons_cases (n, x) (enumerate_from (n + 1) xs) p c) [
    | inl e ↦ subst (Contains (x ∷ xs)) (ap (λ q. q.1) e) (Contains-here x xs)
    | inr d ↦ Contains-there x xs p.1 (numbered_member (n + 1) xs p d)
  ]

  pub numbered_from : (n : ℕ) (xs : List A) (p : ℕ × A) → Contains (enumerate_from n xs) p → n ≤ p.0
  numbered_from n xs p c = let r = numbered_at n xs p c in let i : p.0 ≡ n + r.0 = r.1 in omega (arith, i)

  -- a number has one element
  pub numbered_once : (n : ℕ) (xs : List A) (p q : ℕ × A) → Contains (enumerate_from n xs) p → Contains (enumerate_from n xs) q → p.0 ≡ q.0 → p.1 ≡ q.1
  numbered_once n xs p q c d e =
      let r = numbered_at n xs p c in
      let s = numbered_at n xs q d in
      let i : p.0 ≡ n + r.0 = r.1 in
      let j : q.0 ≡ n + s.0 = s.1 in
      let same : r.0 ≡ s.0 = omega (arith, i, j, e) in
      same_Some p.1 q.1 (sym r.2 ∙ ap (slice_get xs) same ∙ s.2)

-- one more element of a list whose elements are walked with their numbers
pub numbered_more : {X A : Type 0} (f : (ℕ × X) → A) (xs : List X) (i : ℕ) (x : X) (all done done' : List A) → i < length xs → x ≡ get_or xs i x → done' ≡ done ++ f (i, x) ∷ [] → all ≡ done ++ map f (enumerate_from i (drop i xs)) → all ≡ done' ++ map f (enumerate_from (i + 1) (drop (i + 1) xs))
numbered_more f xs i x all done done' h e d was =
    let rest = map f (enumerate_from (i + 1) (drop (i + 1) xs)) in
    was ∙ (ap (λ ys. done ++ map f (enumerate_from i ys)) (opened xs i x h e) ∙ (sym (append_assoc done (f (i, x) ∷ []) rest) ∙ ap (λ l. l ++ rest) (sym d)))
