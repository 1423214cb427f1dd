-- The columns that a mapping names.
use Rattle.std.specs.Prelude.{ℕ, Bool, false, List, [], ◌∷◌, ◌++◌, position, Option, Some, None, if◌then◌else◌, ◌==◌, ◌≡◌}
use Rattle.std.specs.Borrow.{Bor}
use Rattle.std.specs.Str.{bytes_eq, str_eq_ignore_ascii_case}
use Rattle.vkg_terms.specs.Name.{doubled, quoted}
use Rattle.vkg_schema.specs.declared.table.Column.{Column}

-- R2RML, 5, SQL identifier, and SQL-92, 5.2: what begins with a quote is a delimited identifier and means the name that is
-- written so; own: another text that is not empty means a name whatever its case
abbrev pub means : List ℕ → List ℕ → Bool
means [] name = false
means (b ∷ bs) name = if b == 34 then bytes_eq bs (quoted name) else str_eq_ignore_ascii_case (b ∷ bs) name

-- the place of the column that a text names
abbrev pub column_of : List Column → List ℕ → Option ℕ
column_of columns text = position (λ c. means text c.name) columns

-- what stands behind a byte, doubled where it is a quote, if the text begins with it
abbrev pub IsBehind : List ℕ → ℕ → Option (Bor (List ℕ)) → Type 0
IsBehind text b None = (more : List ℕ) → bytes_eq text (doubled b ++ more) ≡ false
IsBehind text b (Some rest) = (more : List ℕ) → bytes_eq text (doubled b ++ more) ≡ bytes_eq rest.now more
