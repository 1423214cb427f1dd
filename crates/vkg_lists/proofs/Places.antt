-- `least_of` gives the least place.
use Rattle.std.proofs.Common.{◌≡◌, ℕ, ◌≤◌, inl, inr, ⊎_elim, List, [], ◌∷◌, Option, Some, None, min, refl, sym, ap, subst, ◌∙◌, arith}
use Rattle.std.proofs.lemmas.Bool.{cases_lt}
use Rattle.std.proofs.lemmas.Option.{none-some, same_Some}
use Rattle.std.specs.Prelude.{fold}
use Rattle.std.specs.List.{AllByRecursion, Contains}
use Rattle.vkg_lists.specs.Places.{lesser, least_of, IsLeastPlace}
use Rattle.vkg_lists.proofs.Members.{Contains-none, Contains-here, Contains-there, Contains-cons_cases, recursion_from_each}

pub lesser-none : (a : Option ℕ) → lesser a None ≡ a
lesser-none None = refl
lesser-none (Some a) = refl

pub lesser-both_none : (a b : Option ℕ) → lesser a b ≡ None → (a ≡ None) × (b ≡ None)
lesser-both_none None b e = (refl, e)
lesser-both_none (Some a) None e = cc
lesser-both_none (Some a) (Some b) e = cc

pub lesser-assoc : (a b c : Option ℕ) → lesser (lesser a b) c ≡ lesser a (lesser b c)
lesser-assoc None b c = refl
lesser-assoc (Some a) None c = refl
lesser-assoc (Some a) (Some b) None = refl
lesser-assoc (Some a) (Some b) (Some c) = ap (λ (n : ℕ). Some n) (omega arith)

module _ {A : Type 0} (place : A → Option ℕ) where
  pub least_of-from : (best : Option ℕ) (xs : List A) → fold (λ b x. lesser b (place x)) best xs ≡ lesser best (least_of place xs)
  least_of-from best [] = sym (lesser-none best)
  least_of-from best (x ∷ xs) = least_of-from (lesser best (place x)) xs ∙ lesser-assoc best (place x) (least_of place xs) ∙ ap (lesser best) (sym (least_of-from (place x) xs))

  pub least_of-cons : (x : A) (xs : List A) → least_of place (x ∷ xs) ≡ lesser (place x) (least_of place xs)
  least_of-cons x xs = least_of-from (place x) xs

  -- where no item has a place, and only there, there is no least one
  pub least_of-none : (xs : List A) → least_of place xs ≡ None → (x : A) → Contains xs x → place x ≡ None
  least_of-none [] e x c = absurd (Contains-none x c)
  least_of-none (y ∷ xs) e x c =
      let both = lesser-both_none (place y) (least_of place xs) (sym (least_of-cons y xs) ∙ e) in
      ⊎_elim (λ i. subst (λ z. place z ≡ None) i both.0) (λ d. least_of-none xs both.1 x d) (Contains-cons_cases y xs x c)

  pub least_of-each : (xs : List A) → least_of place xs ≡ None → AllByRecursion (λ x. place x ≡ None) xs
  least_of-each xs e = recursion_from_each (λ x. place x ≡ None) xs (least_of-none xs e)

  -- a place that was found before is not lost
  pub least_of-kept : (a : ℕ) (xs : List A) → fold (λ b x. lesser b (place x)) (Some a) xs ≡ None → ⊥
  least_of-kept a xs e = none-some a (sym (lesser-both_none (Some a) (least_of place xs) (sym (least_of-from (Some a) xs) ∙ e)).0)

  least_by : (y : A) (xs : List A) (p rest : Option ℕ) → place y ≡ p → least_of place xs ≡ rest → ((b : ℕ) → rest ≡ Some b → IsLeastPlace place xs b) → (at : ℕ) → lesser p rest ≡ Some at → IsLeastPlace place (y ∷ xs) at
  least_by y xs None rest is none later at e = let l = later at e in record {
    item = l.item;
    among = Contains-there y xs l.item l.among;
    here = l.here;
    least = λ x b c h. ⊎_elim (λ i. absurd (none-some b (sym is ∙ ap place i ∙ h))) (λ d. l.least x b d h) (Contains-cons_cases y xs x c);
  }
  least_by y xs (Some a) None is none later at e = record {
    item = y;
    among = Contains-here y xs;
    here = is ∙ e;
    least = λ x b c h. ⊎_elim (λ i. below b (sym e ∙ sym is ∙ ap place i ∙ h)) (λ d. absurd (none-some b (sym (least_of-none xs none x d) ∙ h))) (Contains-cons_cases y xs x c);
  }
    where
      below : (b : ℕ) → ◌≡◌ {A = Option ℕ} (Some at) (Some b) → at ≤ b
      below b k = let same : at ≡ b = cc in omega (arith, same)
  least_by y xs (Some a) (Some b) is rest later at e = let l = later b refl in let is_min : min a b ≡ at = cc in elim (cases_lt b a) [
    | inl high ↦ let same : b ≡ at = omega (arith, is_min, high) in record {
      item = l.item;
      among = Contains-there y xs l.item l.among;
      here = l.here ∙ ap (λ (n : ℕ). Some n) same;
      least = λ x c m h. ⊎_elim (λ i. let k = same_Some a c (sym is ∙ ap place i ∙ h) in omega (arith, k, high, same)) (λ d. let k = l.least x c d h in omega (arith, k, same)) (Contains-cons_cases y xs x m);
    }
    | inr low ↦ let same : a ≡ at = omega (arith, is_min, low) in record {
      item = y;
      among = Contains-here y xs;
      here = is ∙ ap (λ (n : ℕ). Some n) same;
      least = λ x c m h. ⊎_elim (λ i. let k = same_Some a c (sym is ∙ ap place i ∙ h) in omega (arith, k, same)) (λ d. let k = l.least x c d h in omega (arith, k, low, same)) (Contains-cons_cases y xs x m);
    }
  ]

  -- the least place is one that an item has, and none has a lesser one
  pub least_of-some : (xs : List A) (at : ℕ) → least_of place xs ≡ Some at → IsLeastPlace place xs at
  least_of-some [] at e = cc
  least_of-some (y ∷ xs) at e = least_by y xs (place y) (least_of place xs) refl refl (λ b. least_of-some xs b) at (sym (least_of-cons y xs) ∙ e)
