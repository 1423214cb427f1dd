-- What a keeper is seen as, and what it may leave out.
use Rattle.std.specs.Prelude.{◌≡◌, ℕ, ◌+◌, ⊤, Bool, true, false, List, [], ◌∷◌, ◌++◌, map, length, Option, Some, None, nat_le, nat_lt, if◌then◌else◌}
use Rattle.std.specs.Ordering.{is_lt, ordering_then}
use Rattle.std.specs.declared.cmp.Ordering.{Ordering}
use Rattle.std.specs.List.{AllByRecursion, IsDistinct, position}
use Rattle.std.specs.Str.{bytes_eq}
use Rattle.vkg_lists.specs.Lists.{without_last}
use Rattle.vkg_lists.specs.Texts.{bytes_cmp}
use Rattle.vkg_order.specs.declared.modifiers.Direction.{Direction}
use Rattle.vkg_order.specs.declared.modifiers.Modifiers.{Modifiers}
use Rattle.vkg_order.specs.declared.modifiers.Slice.{Slice}
use Rattle.vkg_order.specs.Entries.{Entry, entry_cmp, keys_cmp}
use Rattle.vkg_order.specs.Listed.{IsWithin, listed}

pub record Kept : Type 0 where
  -- what the query asks
  pub modifiers : Modifiers
  -- the entries that are held
  pub held : List Entry

-- whatever is offered later, the one list of entries gives the lines that the other gives
abbrev pub StandFor : Modifiers → List Entry → List Entry → Type 0
StandFor m held offered = (more : List Entry) → listed m (held ++ more) ≡ listed m (offered ++ more)

-- ---- how the entries are held

-- no element is below one that stands before it
abbrev pub Rises : {A : Type 0} → (A → A → Ordering) → List A → Type 0
Rises cmp [] = ⊤
Rises cmp (x ∷ xs) = AllByRecursion (λ y. is_lt (cmp y x) ≡ false) xs × Rises cmp xs

-- one entry more than these can have a line in the slice
abbrev pub has_room : Slice → ℕ → Bool
has_room slice count = below slice.offset count slice.limit
  where
    below : ℕ → ℕ → Option ℕ → Bool
    below offset count None = true
    below offset count (Some n) = nat_lt count (offset + n)

-- so many entries can have lines in the slice
abbrev pub is_within : Slice → ℕ → Bool
is_within slice count = upto slice.offset count slice.limit
  where
    upto : ℕ → ℕ → Option ℕ → Bool
    upto offset count None = true
    upto offset count (Some n) = nat_le count (offset + n)

-- the entries stand in the asked order, and if each line is asked once, there is one entry of each line
pub record IsReady (m : Modifiers) (held : List Entry) : Type 0 where
  pub rises : Rises (entry_cmp m.directions) held
  pub once : m.distinct ≡ true → IsDistinct bytes_eq (map (λ e. e.line) held)

-- a keeper holds no more than can have lines; it holds them in order once there is no room for one more
pub record IsSound (m : Modifiers) (held : List Entry) (is_sorted : Bool) : Type 0 where
  pub within : IsWithin m.slice (length held)
  pub room : is_sorted ≡ false → has_room m.slice (length held) ≡ true
  pub ready : is_sorted ≡ true → IsReady m held

-- the entries of one line together, the least first
abbrev pub line_first_cmp : List Direction → Entry → Entry → Ordering
line_first_cmp directions e f = ordering_then (bytes_cmp e.line f.line) (keys_cmp directions e.keys f.keys)

abbrev pub have_one_line : Entry → Entry → Bool
have_one_line e f = bytes_eq e.line f.line

-- behind the first entry the place of the next that has its line
abbrev pub repeat_place : List Entry → Option ℕ
repeat_place [] = None
repeat_place (e ∷ es) = position (λ f. bytes_eq f.line e.line) es

-- without the first entry of a line
abbrev pub without_line : List ℕ → List Entry → List Entry
without_line line [] = []
without_line line (e ∷ es) = if bytes_eq e.line line then es else e ∷ without_line line es

-- behind an entry none has its line, if each line is asked once
abbrev pub once_behind : Bool → List ℕ → List Entry → List Entry
once_behind true line behind = without_line line behind
once_behind false line behind = behind

-- without the last, if the slice can't reach it
abbrev pub within_slice : Slice → List Entry → List Entry
within_slice slice held = if is_within slice (length held) then held else without_last held
