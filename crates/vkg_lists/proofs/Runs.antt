-- The longest runs of elements that pass a test.
use Rattle.std.proofs.Common.{◌≡◌, Bool, true, false, not, ◌&&◌, List, [], ◌∷◌, ◌++◌, refl, sym, subst}
use Rattle.std.specs.List.{list_all}
use Rattle.vkg_lists.proofs.Bools.{and_parts}
use Rattle.vkg_lists.proofs.Heads.{head_same, tail_same}

passes_not : (b c : Bool) → (b && c) ≡ true → not b ≡ true → ⊥
passes_not true c h k = absurd (cc)
passes_not false c h k = absurd (cc)

-- it does not go on with an element that passes
abbrev pub stops : {A : Type 0} → (A → Bool) → List A → Bool
stops p [] = true
stops p (x ∷ xs) = not (p x)

module _ {A : Type 0} (p : A → Bool) where
  pub run_same : (v w x y : List A) → list_all p v ≡ true → list_all p w ≡ true → stops p x ≡ true → stops p y ≡ true → v ++ x ≡ w ++ y → (v ≡ w) × (x ≡ y)
  run_same [] [] x y h k s t e = (refl, e)
  run_same [] (b ∷ w) x y h k s t e = absurd (passes_not (p b) (list_all p w) k (subst (λ z. stops p z ≡ true) e s))
  run_same (a ∷ v) [] x y h k s t e = absurd (passes_not (p a) (list_all p v) h (subst (λ z. stops p z ≡ true) (sym e) t))
  run_same (a ∷ v) (b ∷ w) x y h k s t e =
      let r = run_same v w x y (and_parts (p a) (list_all p v) h).1 (and_parts (p b) (list_all p w) k).1 s t (tail_same a b (v ++ x) (w ++ y) e) in
      ((λ i. head_same a b (v ++ x) (w ++ y) e i ∷ r.0 i), r.1)
