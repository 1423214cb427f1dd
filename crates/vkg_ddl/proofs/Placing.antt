-- The place of the first element that passes a test, and one that is tried first.
use Rattle.std.proofs.Common.{◌≡◌, ◌∙◌, ℕ, Bool, true, false, ◌&&◌, List, Option, Some, None, refl, sym, ap, subst}
use Rattle.std.specs.Prelude.{nat_eq, position, slice_get, is_some}
use Rattle.std.specs.List.{list_any}
use Rattle.std.proofs.lemmas.Bool.{eqb-true}
use Rattle.std.proofs.lemmas.List.Folds.{list_any_none}
use Rattle.std.proofs.lemmas.Option.{none-some}
use Rattle.vkg_lists.specs.Options.{both_pass}
use Rattle.vkg_lists.proofs.Bools.{and_absorbs}
use Rattle.vkg_lists.proofs.Positions.{any_at, first_found, place_some}

module _ {A : Type 0} (p : A → Bool) (xs : List A) where
  -- what stands at the first place passes
  at_place : (i : ℕ) → position p xs ≡ Some i → (x : A) × (slice_get xs i ≡ Some x) × (p x ≡ true)
  at_place i e =
      let f = first_found p xs (any_at p xs ∙ ap is_some e) in
      (f.0, ap (slice_get xs) (place_some p xs i e) ∙ f.1.at, f.1.passes)

  there : (i : ℕ) (x : A) (o : Option ℕ) → position p xs ≡ o → slice_get xs i ≡ Some x → both_pass nat_eq (Some i) o ≡ true → p x ≡ true
  there i x None e at t = cc
  there i x (Some j) e at t =
      let f = at_place i (e ∙ ap (λ (k : ℕ). Some k) (sym (eqb-true i j t))) in
      let same : ◌≡◌ {A = Option A} (Some f.0) (Some x) = sym f.1 ∙ at in
      let is : f.0 ≡ x = cc in
      subst (λ y. p y ≡ true) is f.2

  -- only an element that passes stands at the first place
  pub tried : (i : ℕ) (x : A) → slice_get xs i ≡ Some x → (p x && both_pass nat_eq (Some i) (position p xs)) ≡ both_pass nat_eq (Some i) (position p xs)
  tried i x at = and_absorbs (p x) (both_pass nat_eq (Some i) (position p xs)) (there i x (position p xs) refl at)

  pub untried : (i : ℕ) (x : A) → slice_get xs i ≡ Some x → p x ≡ false → false ≡ both_pass nat_eq (Some i) (position p xs)
  untried i x at f = ap (λ b. b && both_pass nat_eq (Some i) (position p xs)) (sym f) ∙ tried i x at

  not_past : (i : ℕ) (o : Option ℕ) → position p xs ≡ o → slice_get xs i ≡ None → (b : Bool) → both_pass nat_eq (Some i) o ≡ b → false ≡ b
  not_past i o e none false t = refl
  not_past i None e none true t = t
  not_past i (Some j) e none true t =
      let f = at_place i (e ∙ ap (λ (k : ℕ). Some k) (sym (eqb-true i j t))) in
      absurd (none-some f.0 (sym none ∙ f.1))

  -- nothing stands at a place past the end
  pub past : (i : ℕ) → slice_get xs i ≡ None → false ≡ both_pass nat_eq (Some i) (position p xs)
  past i none = not_past i (position p xs) refl none _ refl

-- nothing is in the place of what has none
pub none_of : {A : Type 0} (place : A → Option ℕ) (xs : List A) → false ≡ list_any (λ x. both_pass nat_eq None (place x)) xs
none_of place xs = sym (list_any_none (λ x. both_pass nat_eq None (place x)) xs (λ k d l. refl))
