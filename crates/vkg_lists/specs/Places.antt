-- Places, and the least of them.
use Rattle.std.specs.Prelude.{◌≡◌, ℕ, ◌≤◌, List, fold, Option, Some, None, min}
-- the place, if the test fails there
pub use Rattle.std.specs.Bool.{then_some as place_if}
use Rattle.std.specs.List.{Contains}
use Rattle.std.specs.Option.{option_or}

-- the lesser of two places, where there are any
abbrev pub lesser : Option ℕ → Option ℕ → Option ℕ
lesser None b = b
lesser (Some a) None = Some a
lesser (Some a) (Some b) = Some (min a b)

-- the first place that was noted
abbrev pub earlier : Option ℕ → ℕ → Option ℕ
earlier first at = option_or first (Some at)

-- the least place of all items
abbrev pub least_of : {A : Type 0} → (A → Option ℕ) → List A → Option ℕ
least_of place xs = fold (λ best x. lesser best (place x)) None xs

-- some item has this place, and none a lesser one
pub record IsLeastPlace {A : Type 0} (place : A → Option ℕ) (xs : List A) (at : ℕ) : Type 0 where
  pub item : A
  pub among : Contains xs item
  pub here : place item ≡ Some at
  pub least : (x : A) (b : ℕ) → Contains xs x → place x ≡ Some b → at ≤ b
