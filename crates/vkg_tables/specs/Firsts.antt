-- The first row that a check finds, as each key or foreign key is looked at by itself.
use Rattle.std.specs.Prelude.{ℕ, ◌+◌, Bool, List, [], ◌∷◌, ◌++◌, Option, Some, None, length, if◌then◌else◌, nat_lt}
use Rattle.vkg_schema.specs.Rows.{Row}
use Rattle.vkg_tables.specs.Checks.{is_orphan, repeats}

-- the number, from 1, of the first element that passes the test, which also sees what stands before it
abbrev pub first_after : {A : Type 0} → (List A → A → Bool) → List A → List A → Option ℕ
first_after p before [] = None
first_after p before (x ∷ xs) = if p before x then Some (length before + 1) else first_after p (before ++ x ∷ []) xs

abbrev pub first_repeat : List ℕ → List Row → Option ℕ
first_repeat key rows = first_after (repeats key) [] rows

abbrev pub first_orphan : List (ℕ × ℕ) → List Row → List Row → Option ℕ
first_orphan pairs targets rows = first_after (λ before row. is_orphan pairs targets row) [] rows

-- of two places, a row and a number, the one of the lesser row; of one row, the former
abbrev pub earlier : Option (ℕ × ℕ) → Option (ℕ × ℕ) → Option (ℕ × ℕ)
earlier None b = b
earlier (Some a) None = Some a
earlier (Some a) (Some b) = if nat_lt b.0 a.0 then Some b else Some a
