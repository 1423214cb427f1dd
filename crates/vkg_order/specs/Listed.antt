-- The lines of an answer, in the asked order.
use Rattle.std.specs.Prelude.{ℕ, ◌+◌, ◌≤◌, ⊤, Bool, List, map, take, drop, Option, Some, None, if◌then◌else◌}
use Rattle.std.specs.Str.{bytes_eq}
use Rattle.vkg_lists.specs.Ascending.{ascending_by}
use Rattle.vkg_lists.specs.Sets.{distinct}
use Rattle.vkg_order.specs.declared.modifiers.Modifiers.{Modifiers}
use Rattle.vkg_order.specs.declared.modifiers.Slice.{Slice}
use Rattle.vkg_order.specs.Entries.{Entry, entry_cmp}

-- SPARQL 1.1 Query, 18.5, OrderBy: the lines in the order of the entries
abbrev pub ordered : Modifiers → List Entry → List (List ℕ)
ordered m entries = map (λ e. e.line) (ascending_by (entry_cmp m.directions) entries)

-- SPARQL 1.1 Query, 18.5, Distinct; own: each line stands at its first place
abbrev pub once : Bool → List (List ℕ) → List (List ℕ)
once is_asked lines = if is_asked then distinct bytes_eq lines else lines

abbrev pub at_most : {A : Type 0} → Option ℕ → List A → List A
at_most None xs = xs
at_most (Some n) xs = take n xs

-- SPARQL 1.1 Query, 15.4, 15.5 and 18.5, Slice
abbrev pub sliced : {A : Type 0} → Slice → List A → List A
sliced slice xs = at_most slice.limit (drop slice.offset xs)

-- SPARQL 1.1 Query, 18.2.5: the order, then DISTINCT, then the slice
unfoldable pub listed : Modifiers → List Entry → List (List ℕ)
listed m entries = sliced m.slice (once m.distinct (ordered m entries))

-- so many entries at most can have lines in the slice, where there is a limit
abbrev pub IsWithin : Slice → ℕ → Type 0
IsWithin slice count = within slice.offset count slice.limit
  where
    within : ℕ → ℕ → Option ℕ → Type 0
    within offset count None = ⊤
    within offset count (Some n) = count ≤ offset + n
