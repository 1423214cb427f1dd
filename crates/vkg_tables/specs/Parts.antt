-- The texts by which the cells of a key are found.
use Rattle.std.specs.Prelude.{◌≢◌, ℕ, ◌+◌, Bool, false, not, List, [], ◌∷◌, Option, Some, None, map, flat_map, string_bytes, String, Vec}
use Rattle.std.specs.Cmp.Lexicographic.{pointwise}
use Rattle.std.specs.Str.{bytes_eq}
use Rattle.std.specs.List.{AllByRecursion, list_any}
use Rattle.std.specs.Option.{option_map, option_to_list}
use Rattle.vkg_lists.specs.Options.{with_first}
use Rattle.vkg_cells.specs.declared.cell.Cell.{Cell}
use Rattle.vkg_cells.specs.Form.{lexical_form}
use Rattle.vkg_cells.specs.Order.{family_of}
use Rattle.vkg_schema.specs.Rows.{Row, cell_at}

-- the family's digit, and the lexical form
unfoldable pub part : Cell → Option (List ℕ)
part c = option_map (λ text. (48 + family_of c) ∷ text) (lexical_form c)

-- the parts of the columns of a row, none where one is NULL
abbrev pub parts : List ℕ → Row → Option (List (List ℕ))
parts [] row = Some []
parts (c ∷ cs) row = with_first (part (cell_at row c)) (parts cs row)

-- the parts of each row that has them
abbrev pub all_parts : List ℕ → List Row → List (List (List ℕ))
all_parts columns rows = flat_map (λ r. option_to_list (parts columns r)) rows

abbrev pub IsNoTerm : Cell → Type 0
IsNoTerm c = family_of c ≢ 8

abbrev pub HasNoTerm : Row → Type 0
HasNoTerm row = AllByRecursion IsNoTerm row

abbrev pub texts_eq : List (List ℕ) → List (List ℕ) → Bool
texts_eq = pointwise bytes_eq

-- the texts of each list of strings
abbrev pub texts_of : {Y Z : Type 0} → List (Vec (String Y) Z) → List (List (List ℕ))
texts_of vs = map (λ v. map string_bytes v.items) vs

-- the parts are there, and are none of these
abbrev pub is_missing : Option (List (List ℕ)) → List (List (List ℕ)) → Bool
is_missing None known = false
is_missing (Some found) known = not (list_any (texts_eq found) known)
