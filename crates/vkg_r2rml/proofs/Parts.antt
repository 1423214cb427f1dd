-- What is known of the parts of a part that no check fails of.
use Rattle.std.proofs.Common.{◌≡◌, ℕ, List, [], ◌∷◌, map, refl, sym, ap, subst}
use Rattle.std.specs.Prelude.{Option, Some, None, Ok, Err, filter_map, ok_or}
use Rattle.std.specs.List.{AllByRecursion, cons_option}
use Rattle.std.specs.Result.{result_ok, result_err}
use Rattle.vkg_lists.proofs.Places.{least_of-kept}
use Rattle.vkg_lists.specs.Places.{least_of}
use Rattle.vkg_lists.proofs.Results.{ok_same, unless_given}
use Rattle.vkg_r2rml.specs.Checked.{Checked, both, all_of, and_then}

module _ {A B : Type 0} where
  pub of_both : (a : Checked A) (b : Checked B) (p : A × B) → both a b ≡ Ok p → (a ≡ Ok p.0) × (b ≡ Ok p.1)
  of_both (Ok x) (Ok y) p e = let s : (x, y) ≡ p = ok_same (x, y) p e in (ap (λ (q : A × B). Ok q.0) s, ap (λ (q : A × B). Ok q.1) s)
  of_both (Ok x) (Err d) p e = cc
  of_both (Err c) (Ok y) p e = cc
  of_both (Err c) (Err d) p e = cc

  pub of_then : (a : Checked A) (next : A → Checked B) (b : B) → and_then a next ≡ Ok b → (x : A) × (a ≡ Ok x) × (next x ≡ Ok b)
  of_then (Ok x) next b e = (x, refl, e)
  of_then (Err c) next b e = cc

  values : (P : B → Type 0) (f : A → Checked B) (xs : List A) → ((x : A) (y : B) → f x ≡ Ok y → P y) → AllByRecursion P (filter_map result_ok (map f xs))
  values P f [] h = tt
  values P f (x ∷ xs) h = of (f x) refl (values P f xs h)
    where
      of : (c : Checked B) → f x ≡ c → AllByRecursion P (filter_map result_ok (map f xs)) → AllByRecursion P (cons_option (result_ok c) (filter_map result_ok (map f xs)))
      of (Ok y) e rest = (h x y e, rest)
      of (Err check) e rest = rest

  pub of_all : (P : B → Type 0) (f : A → Checked B) (xs : List A) (ys : List B) → ((x : A) (y : B) → f x ≡ Ok y → P y) → all_of (map f xs) ≡ Ok ys → AllByRecursion P ys
  of_all P f xs ys h e =
      let made = filter_map result_ok (map f xs) in
      subst (AllByRecursion P) (ok_same made ys (unless_given (least_of result_err (map f xs)) (Ok made) ys e).1) (values P f xs h)

module _ {A : Type 0} where
  pub of_option : (o : Option A) (check : ℕ) (a : A) → ok_or o check ≡ Ok a → o ≡ Some a
  of_option None check a e = cc
  of_option (Some x) check a e = ap Some (ok_same x a e)

-- ---- the first of several parts

module _ {A B : Type 0} where
  -- where there is a part, there is a value
  pub of_first : (f : A → Checked B) (x : A) (xs : List A) (ys : List B) → all_of (map f (x ∷ xs)) ≡ Ok ys → (y : B) × (zs : List B) × (ys ≡ y ∷ zs)
  of_first f x xs ys e = of (f x) e
    where
      parts : Checked B → List (Checked B)
      parts c = c ∷ map f xs

      of : (c : Checked B) → all_of (parts c) ≡ Ok ys → (y : B) × (zs : List B) × (ys ≡ y ∷ zs)
      of (Ok y) e =
          let rest = filter_map result_ok (map f xs) in
          (y, rest, sym (ok_same (y ∷ rest) ys (unless_given (least_of result_err (parts (Ok y))) (Ok (y ∷ rest)) ys e).1))
      of (Err check) e = absurd (least_of-kept result_err check (map f xs) (unless_given (least_of result_err (parts (Err check))) (Ok (filter_map result_ok (map f xs))) ys e).0)
