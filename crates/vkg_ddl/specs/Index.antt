-- The index of columns: their places, by their names in small letters.
use Rattle.std.specs.Prelude.{◌≡◌, ℕ, Bool, List, filter_map, Option, Some, None, if◌then◌else◌, Vec, String}
use Rattle.std.specs.List.{enumerate_from}
use Rattle.std.specs.Str.{bytes_eq, str_to_ascii_lowercase}
use Rattle.std.specs.HashMap.{HashMap}
use Rattle.vkg_hash.specs.Groups.{group}
use Rattle.vkg_ddl.specs.declared.written.WrittenColumn.{WrittenColumn}

-- the name of the column says this, in small letters
abbrev pub is_named : List ℕ → WrittenColumn → Bool
is_named text c = bytes_eq text (str_to_ascii_lowercase c.name.text)

abbrev pub place_if_named : List ℕ → (ℕ × WrittenColumn) → Option ℕ
place_if_named text c = if is_named text c.1 then Some c.0 else None

-- the places of the columns whose names say this
abbrev pub places_named : List ℕ → List (ℕ × WrittenColumn) → List ℕ
places_named text numbered = filter_map (place_if_named text) numbered

abbrev pub IsIndexOf : {Y S Z : Type 0} → List WrittenColumn → HashMap (String Y) (Vec ℕ Z) S → Type 0
IsIndexOf columns index = (text : List ℕ) → group index text ≡ places_named text (enumerate_from 0 columns)
