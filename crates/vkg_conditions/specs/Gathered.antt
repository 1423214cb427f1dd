-- Truths of three values gathered by an operation with a unit: what may be left out, spread or met again.
use Rattle.std.proofs.Common.{◌≡◌, ◌∙◌, Bool, true, false, ◌||◌, List, [], ◌∷◌, ◌++◌, map, refl, sym, ap}
use Rattle.std.specs.Prelude.{Option, Some, None, fold}
use Rattle.std.specs.List.{list_any}
use Rattle.vkg_values.specs.Logic.{and3, or3}

abbrev pub Truth : Type 0
Truth = Option Bool

-- a conjunction, or a disjunction, with its unit and what decides it
pub record IsGathering (op : Truth → Truth → Truth) (unit zero : Truth) : Type 0 where
  pub assoc : (p q r : Truth) → op (op p q) r ≡ op p (op q r)
  pub swap : (p q : Truth) → op p q ≡ op q p
  pub twice : (p : Truth) → op p p ≡ p
  pub first_unit : (p : Truth) → op unit p ≡ p
  pub first_zero : (p : Truth) → op zero p ≡ zero

and-assoc : (p q r : Truth) → and3 (and3 p q) r ≡ and3 p (and3 q r)
and-assoc (Some false) q r = refl
and-assoc (Some true) q r = refl
and-assoc None (Some false) r = refl
and-assoc None (Some true) r = refl
and-assoc None None (Some false) = refl
and-assoc None None (Some true) = refl
and-assoc None None None = refl

and-swap : (p q : Truth) → and3 p q ≡ and3 q p
and-swap (Some false) (Some false) = refl
and-swap (Some false) (Some true) = refl
and-swap (Some false) None = refl
and-swap (Some true) (Some false) = refl
and-swap (Some true) (Some true) = refl
and-swap (Some true) None = refl
and-swap None (Some false) = refl
and-swap None (Some true) = refl
and-swap None None = refl

and-twice : (p : Truth) → and3 p p ≡ p
and-twice (Some false) = refl
and-twice (Some true) = refl
and-twice None = refl

or-assoc : (p q r : Truth) → or3 (or3 p q) r ≡ or3 p (or3 q r)
or-assoc (Some true) q r = refl
or-assoc (Some false) q r = refl
or-assoc None (Some true) r = refl
or-assoc None (Some false) r = refl
or-assoc None None (Some true) = refl
or-assoc None None (Some false) = refl
or-assoc None None None = refl

or-swap : (p q : Truth) → or3 p q ≡ or3 q p
or-swap (Some true) (Some true) = refl
or-swap (Some true) (Some false) = refl
or-swap (Some true) None = refl
or-swap (Some false) (Some true) = refl
or-swap (Some false) (Some false) = refl
or-swap (Some false) None = refl
or-swap None (Some true) = refl
or-swap None (Some false) = refl
or-swap None None = refl

or-twice : (p : Truth) → or3 p p ≡ p
or-twice (Some true) = refl
or-twice (Some false) = refl
or-twice None = refl

pub and_gathers : IsGathering and3 (Some true) (Some false)
and_gathers = record { assoc = and-assoc; swap = and-swap; twice = and-twice; first_unit = λ p. refl; first_zero = λ p. refl }

pub or_gathers : IsGathering or3 (Some false) (Some true)
or_gathers = record { assoc = or-assoc; swap = or-swap; twice = or-twice; first_unit = λ p. refl; first_zero = λ p. refl }

module _ (op : Truth → Truth → Truth) (unit zero : Truth) (is : IsGathering op unit zero) where
  from-first : (p : Truth) (ts : List Truth) → fold op p ts ≡ op p (fold op unit ts)
  from-first p [] = sym (is.swap p unit ∙ is.first_unit p)
  from-first p (t ∷ ts) =
      from-first (op p t) ts ∙ is.assoc p t (fold op unit ts)
      ∙ ap (op p) (sym (from-first t ts) ∙ ap (λ x. fold op x ts) (sym (is.first_unit t)))

  pub gathered-more : (t : Truth) (ts : List Truth) → fold op unit (t ∷ ts) ≡ op t (fold op unit ts)
  gathered-more t ts = from-first (op unit t) ts ∙ ap (λ x. op x (fold op unit ts)) (is.first_unit t)

  pub gathered-append : (ts us : List Truth) → fold op unit (ts ++ us) ≡ op (fold op unit ts) (fold op unit us)
  gathered-append [] us = sym (is.first_unit (fold op unit us))
  gathered-append (t ∷ ts) us =
      gathered-more t (ts ++ us) ∙ ap (op t) (gathered-append ts us) ∙ sym (is.assoc t (fold op unit ts) (fold op unit us))
      ∙ ap (λ x. op x (fold op unit us)) (sym (gathered-more t ts))

  module _ {A : Type 0} (truth : A → Truth) where
    abbrev pub gathered : List A → Truth
    gathered xs = fold op unit (map truth xs)

    more : (x : A) (xs : List A) → gathered (x ∷ xs) ≡ op (truth x) (gathered xs)
    more x xs = gathered-more (truth x) (map truth xs)

    -- one member decides
    decided-at : (x : A) (xs : List A) (test : A → Bool) (b : Bool) → test x ≡ b → (test x ≡ true → truth x ≡ zero) → (list_any test xs ≡ true → gathered xs ≡ zero) → (b || list_any test xs) ≡ true
        → op (truth x) (gathered xs) ≡ zero
    decided-at x xs test true k h rec e = ap (λ p. op p (gathered xs)) (h k) ∙ is.first_zero (gathered xs)
    decided-at x xs test false k h rec e = ap (op (truth x)) (rec e) ∙ is.swap (truth x) zero ∙ is.first_zero (truth x)

    pub decided : (test : A → Bool) → ((x : A) → test x ≡ true → truth x ≡ zero) → (xs : List A) → list_any test xs ≡ true → gathered xs ≡ zero
    decided test h [] e = cc
    decided test h (x ∷ xs) e = more x xs ∙ decided-at x xs test (test x) refl (h x) (decided test h xs) e

    -- a member in a list absorbs itself
    absorbed-at : (eq : A → A → Bool) → ((x y : A) → eq x y ≡ true → x ≡ y) → (x y : A) (ys : List A) (b : Bool) → eq x y ≡ b
        → (list_any (eq x) ys ≡ true → op (gathered ys) (truth x) ≡ gathered ys) → (b || list_any (eq x) ys) ≡ true → op (op (truth y) (gathered ys)) (truth x) ≡ op (truth y) (gathered ys)
    absorbed-at eq h x y ys true k rec e =
        ap (λ z. op (op (truth y) (gathered ys)) (truth z)) (h x y k)
        ∙ is.swap (op (truth y) (gathered ys)) (truth y) ∙ sym (is.assoc (truth y) (truth y) (gathered ys)) ∙ ap (λ p. op p (gathered ys)) (is.twice (truth y))
    absorbed-at eq h x y ys false k rec e = is.assoc (truth y) (gathered ys) (truth x) ∙ ap (op (truth y)) (rec e)

    pub absorbed : (eq : A → A → Bool) → ((x y : A) → eq x y ≡ true → x ≡ y) → (x : A) (xs : List A) → list_any (eq x) xs ≡ true → op (gathered xs) (truth x) ≡ gathered xs
    absorbed eq h x [] e = cc
    absorbed eq h x (y ∷ ys) e = ap (λ p. op p (truth x)) (more y ys) ∙ absorbed-at eq h x y ys (eq x y) refl (absorbed eq h x ys) e ∙ sym (more y ys)
