-- Lists in ascending order.
use Rattle.std.specs.Prelude.{ℕ, List, [], ◌∷◌, if◌then◌else◌}
use Rattle.std.specs.Ordering.{is_lt}
use Rattle.std.specs.Str.{bytes_eq}
use Rattle.std.specs.declared.cmp.Ordering.{Ordering}
use Rattle.vkg_lists.specs.Sets.{distinct}
use Rattle.vkg_lists.specs.Texts.{bytes_cmp}

-- an element put into its place: behind all that are below it
abbrev pub put_in : {A : Type 0} → (A → A → Ordering) → A → List A → List A
put_in cmp x [] = x ∷ []
put_in cmp x (y ∷ ys) = if is_lt (cmp y x) then y ∷ put_in cmp x ys else x ∷ y ∷ ys

-- the same elements in ascending order
abbrev pub ascending_by : {A : Type 0} → (A → A → Ordering) → List A → List A
ascending_by cmp [] = []
ascending_by cmp (x ∷ xs) = put_in cmp x (ascending_by cmp xs)

-- the same texts, ascending by their bytes
abbrev pub ascending : List (List ℕ) → List (List ℕ)
ascending texts = ascending_by bytes_cmp texts

-- the same texts, each once, ascending by their bytes
abbrev pub ascending_once : List (List ℕ) → List (List ℕ)
ascending_once texts = ascending (distinct bytes_eq texts)
