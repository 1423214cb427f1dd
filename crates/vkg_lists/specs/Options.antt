-- Values that may be lacking, put together where all are there.
use Rattle.std.specs.Prelude.{Bool, false, List, ◌∷◌, ◌++◌, Option, Some, None}

-- a first element with the rest, where both are there
abbrev pub with_first : {A : Type 0} → Option A → Option (List A) → Option (List A)
with_first (Some x) (Some xs) = Some (x ∷ xs)
with_first x xs = None

-- a list and one after it, where both are there
abbrev pub joined : {A : Type 0} → Option (List A) → Option (List A) → Option (List A)
joined (Some xs) (Some ys) = Some (xs ++ ys)
joined xs ys = None

-- both are there, and the test holds of them
abbrev pub both_pass : {A B : Type 0} → (A → B → Bool) → Option A → Option B → Bool
both_pass test (Some x) (Some y) = test x y
both_pass test x y = false
