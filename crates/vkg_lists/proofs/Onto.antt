-- A list before another that may be lacking, and values that may be lacking put together.
use Rattle.std.proofs.Common.{◌≡◌, ◌∙◌, true, ◌&&◌, List, [], ◌∷◌, ◌++◌, Option, Some, None, refl, sym, ap, append_assoc, append-nil}
use Rattle.std.specs.Prelude.{is_some, option_map, IfSome}
use Rattle.std.specs.Option.{option_or}
use Rattle.std.proofs.lemmas.Option.{same_Some}
use Rattle.vkg_lists.specs.Options.{joined, with_first}
use Rattle.vkg_lists.proofs.Bools.{and_parts}

abbrev pub onto : {A : Type 0} → List A → Option (List A) → Option (List A)
onto xs None = None
onto xs (Some ys) = Some (xs ++ ys)

pub onto_none : {A : Type 0} (o : Option (List A)) → onto [] o ≡ o
onto_none None = refl
onto_none (Some ys) = refl

pub onto_first : {A : Type 0} (xs : List A) (x : A) (o : Option (List A)) → onto xs (with_first (Some x) o) ≡ onto (xs ++ x ∷ []) o
onto_first xs x None = refl
onto_first xs x (Some ys) = rw append_assoc

pub onto_joined : {A : Type 0} (xs ys : List A) (o : Option (List A)) → onto xs (joined (Some ys) o) ≡ onto (xs ++ ys) o
onto_joined xs ys None = refl
onto_joined xs ys (Some zs) = rw append_assoc

pub joined_assoc : {A : Type 0} (o p q : Option (List A)) → joined (joined o p) q ≡ joined o (joined p q)
joined_assoc None p q = refl
joined_assoc (Some xs) None q = refl
joined_assoc (Some xs) (Some ys) None = refl
joined_assoc (Some xs) (Some ys) (Some zs) = ap Some (append_assoc xs ys zs)

pub joined_nil : {A : Type 0} (o : Option (List A)) → joined o (Some []) ≡ o
joined_nil None = refl
joined_nil (Some xs) = ap Some (append-nil xs)

pub nil_joined : {A : Type 0} (o : Option (List A)) → joined (Some []) o ≡ o
nil_joined None = refl
nil_joined (Some xs) = refl

-- where they are together, both are there
pub first_given : {A : Type 0} (o : Option A) (p : Option (List A)) (xs : List A) → with_first o p ≡ Some xs → (x : A) × (o ≡ Some x) × ((ys : List A) × (p ≡ Some ys) × (x ∷ ys ≡ xs))
first_given (Some x) (Some ys) xs e = (x, refl, (ys, refl, same_Some (x ∷ ys) xs e))
first_given (Some x) None xs e = cc
first_given None p xs e = cc

pub both_given : {A : Type 0} (o p : Option (List A)) (zs : List A) → joined o p ≡ Some zs → (xs : List A) × (o ≡ Some xs) × ((ys : List A) × (p ≡ Some ys) × (xs ++ ys ≡ zs))
both_given (Some xs) (Some ys) zs e = (xs, refl, (ys, refl, same_Some (xs ++ ys) zs e))
both_given (Some xs) None zs e = cc
both_given None p zs e = cc

pub is_some-first : {A : Type 0} (o : Option A) (p : Option (List A)) → is_some (with_first o p) ≡ (is_some o && is_some p)
is_some-first None p = refl
is_some-first (Some x) None = refl
is_some-first (Some x) (Some xs) = refl

pub first_some : {A : Type 0} (o : Option A) (p : Option (List A)) → is_some (with_first o p) ≡ true → (is_some o ≡ true) × (is_some p ≡ true)
first_some o p e = and_parts (is_some o) (is_some p) (sym (is_some-first o p) ∙ e)

pub both_some : {A : Type 0} (o p : Option (List A)) → is_some (joined o p) ≡ true → (is_some o ≡ true) × (is_some p ≡ true)
both_some (Some xs) (Some ys) e = (refl, refl)
both_some (Some xs) None e = cc
both_some None p e = cc

-- what holds of both, and of two lists together
pub joined_each : {A : Type 0} (P : List A → Type 0) → ((xs ys : List A) → P xs → P ys → P (xs ++ ys)) → (o p : Option (List A)) → IfSome o P → IfSome p P → IfSome (joined o p) P
joined_each P f None p h k = tt
joined_each P f (Some xs) None h k = tt
joined_each P f (Some xs) (Some ys) h k = f xs ys h k

-- ---- a value through a function, and one of two

pub map_given : {A B : Type 0} (f : A → B) (o : Option A) (y : B) → option_map f o ≡ Some y → (x : A) × (o ≡ Some x) × (f x ≡ y)
map_given f (Some x) y e = (x, refl, same_Some (f x) y e)
map_given f None y e = cc

pub map_lacking : {A B : Type 0} (f : A → B) (o : Option A) → option_map f o ≡ None → o ≡ None
map_lacking f None e = refl
map_lacking f (Some x) e = cc

pub or_none : {A : Type 0} (o : Option A) → option_or o None ≡ o
or_none None = refl
or_none (Some x) = refl

pub ruleset onto_rules = (onto_none, onto_first, onto_joined)
