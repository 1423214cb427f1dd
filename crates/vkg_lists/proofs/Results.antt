-- `Ok` and `Err` are told apart, and so are `Some` and `None`; results whose value is a list.
use Rattle.std.proofs.Common.{◌≡◌, Bool, true, false, cond, List, [], ◌∷◌, ◌++◌, Option, Some, None, Result, Ok, Err, refl, sym, ap, append_assoc}
use Rattle.std.specs.Prelude.{is_some, option_and_then}
use Rattle.std.specs.Bool.{then_some}
use Rattle.std.proofs.lemmas.Option.{same_Some}
use Rattle.vkg_lists.specs.Results.{followed_by, in_front, unless}

pub ok_same : {A E : Type 0} (a b : A) → ◌≡◌ {A = Result A E} (Ok a) (Ok b) → a ≡ b
ok_same a b e = cc e

pub ok_err : {A E : Type 0} (a : A) (f : E) → ◌≡◌ {A = Result A E} (Ok a) (Err f) → ⊥
ok_err a f e = cc e

pub err_same : {A E : Type 0} (f g : E) → ◌≡◌ {A = Result A E} (Err f) (Err g) → f ≡ g
err_same f g e = cc e

pub some_of : {A : Type 0} (o : Option A) → is_some o ≡ true → (x : A) × (o ≡ Some x)
some_of None e = cc
some_of (Some x) e = (x, refl)

pub some_then : {A B : Type 0} (f : A → Option B) (o : Option A) → is_some (option_and_then f o) ≡ true → (a : A) × (o ≡ Some a) × (is_some (f a) ≡ true)
some_then f None e = cc
some_then f (Some a) e = (a, refl, e)

pub some_if : {A : Type 0} (b : Bool) (o : Option A) → is_some (cond b o None) ≡ true → (b ≡ true) × (is_some o ≡ true)
some_if true o e = (refl, e)
some_if false o e = cc

pub none_if : {A : Type 0} (b : Bool) (x : A) (o : Option A) → cond b (Some x) o ≡ None → (b ≡ false) × (o ≡ None)
none_if true x o e = cc
none_if false x o e = (refl, e)

-- a value where a test holds
pub then_given : {A : Type 0} (b : Bool) (x y : A) → then_some b x ≡ Some y → (b ≡ true) × (x ≡ y)
then_given true x y e = (refl, same_Some x y e)
then_given false x y e = cc

pub then_test : {A : Type 0} (b : Bool) (x : A) → is_some (then_some b x) ≡ true → b ≡ true
then_test true x e = refl
then_test false x e = cc

pub followed_none : {A F : Type 0} (r : Result (List A) F) → followed_by [] r ≡ r
followed_none (Ok xs) = refl
followed_none (Err fault) = refl

pub followed_first : {A F : Type 0} (xs : List A) (x : A) (r : Result (List A) F) → followed_by xs (in_front x r) ≡ followed_by (xs ++ x ∷ []) r
followed_first xs x (Ok ys) = ap Ok (sym (append_assoc xs (x ∷ []) ys))
followed_first xs x (Err fault) = refl

pub front_given : {A F : Type 0} (x : A) (r : Result (List A) F) (xs : List A) → in_front x r ≡ Ok xs → (ys : List A) × (r ≡ Ok ys) × (x ∷ ys ≡ xs)
front_given x (Ok ys) xs e = (ys, refl, ok_same (x ∷ ys) xs e)
front_given x (Err fault) xs e = cc

pub unless_given : {A F : Type 0} (fault : Option F) (r : Result A F) (x : A) → unless fault r ≡ Ok x → (fault ≡ None) × (r ≡ Ok x)
unless_given None r x e = (refl, e)
unless_given (Some fault) r x e = cc
