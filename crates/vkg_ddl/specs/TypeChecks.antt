-- Types that are unknown or take no such numbers: for each check the least place at which it fails.
use Rattle.std.specs.Prelude.{unwrap_or, ℕ, ◌+◌, ◌-◌, ◌*◌, Bool, true, false, not, ◌&&◌, List, [], ◌∷◌, codes, fold, Option, Some, None, if◌then◌else◌, nat_le, min, is_none}
use Rattle.std.specs.List.{list_any}
use Rattle.std.specs.Str.{str_eq_ignore_ascii_case}
use Rattle.vkg_ddl.specs.declared.name.Name.{Name}
use Rattle.vkg_ddl.specs.declared.written.WrittenColumn.{WrittenColumn}
use Rattle.vkg_ddl.specs.declared.written.WrittenTable.{WrittenTable}
use Rattle.vkg_cells.specs.declared.cell.SqlType.{SqlType}
use Rattle.vkg_cells.specs.declared.cell.SqlType.TheVariants as kind
use Rattle.vkg_lists.specs.Places.{least_of, place_if}

-- the kind that a word names
unfoldable pub kind_named : List ℕ → Option SqlType
kind_named word =
    if list_any (str_eq_ignore_ascii_case word) (codes "char" ∷ codes "character" ∷ codes "varchar" ∷ codes "text" ∷ []) then Some kind.Text
    else if list_any (str_eq_ignore_ascii_case word) (codes "smallint" ∷ codes "integer" ∷ codes "int" ∷ codes "bigint" ∷ []) then Some kind.Int
    else if list_any (str_eq_ignore_ascii_case word) (codes "numeric" ∷ codes "decimal" ∷ []) then Some kind.Dec
    else if str_eq_ignore_ascii_case word (codes "boolean") then Some kind.Bool
    else if str_eq_ignore_ascii_case word (codes "date") then Some kind.Date
    else if str_eq_ignore_ascii_case word (codes "timestamp") then Some kind.Stamp
    else if list_any (str_eq_ignore_ascii_case word) (codes "binary" ∷ codes "varbinary" ∷ codes "blob" ∷ []) then Some kind.Bin
    else if str_eq_ignore_ascii_case word (codes "time") then Some kind.Time
    else None

-- the kind of a column whose type is known
abbrev pub column_kind : WrittenColumn → SqlType
column_kind c = unwrap_or (kind_named c.kind.text) kind.Text

abbrev pub unknown_type : WrittenColumn → Option ℕ
unknown_type c = place_if (is_none (kind_named c.kind.text)) c.kind.at

-- a type's word that names no kind
abbrev pub type_unknown : List WrittenTable → Option ℕ
type_unknown tables = least_of (λ t. least_of unknown_type t.columns) tables

-- the value of a number, or 2 ^ 32 where it is more
abbrev pub capped : List ℕ → ℕ
capped digits = fold (λ n d. min (10 * n + (d - 48)) 4294967296) 0 digits

abbrev pub takes_one : SqlType → ℕ → Bool
takes_one kind.Text n = nat_le 1 n && nat_le n 2147483647
takes_one kind.Bin n = nat_le 1 n && nat_le n 2147483647
takes_one kind.Dec n = nat_le 1 n && nat_le n 38
takes_one kind.Stamp n = nat_le n 9
takes_one kind.Time n = nat_le n 9
takes_one s n = false

abbrev pub takes_two : SqlType → ℕ → ℕ → Bool
takes_two kind.Dec p s = nat_le 1 p && nat_le p 38 && nat_le s p
takes_two k p s = false

-- the kind takes these numbers in brackets
abbrev pub takes : SqlType → List Name → Bool
takes k [] = true
takes k (p ∷ []) = takes_one k (capped p.text)
takes k (p ∷ s ∷ []) = takes_two k (capped p.text) (capped s.text)
takes k (p ∷ s ∷ o ∷ os) = false

abbrev pub takes_some : Option SqlType → List Name → Bool
takes_some None numbers = true
takes_some (Some k) numbers = takes k numbers

abbrev pub wrong_numbers : WrittenColumn → Option ℕ
wrong_numbers c = place_if (not (takes_some (kind_named c.kind.text) c.numbers)) c.kind.at

-- a number in brackets that the type does not take: its word
abbrev pub precision_wrong : List WrittenTable → Option ℕ
precision_wrong tables = least_of (λ t. least_of wrong_numbers t.columns) tables
