-- What holds of all cells of a kind.
use Rattle.std.specs.Prelude.{◌≡◌, ◌↔◌, ℕ, List, ⊤, Bool, true, Option, Some, Ok, IsSome, IfSome}
use Rattle.vkg_cells.specs.declared.cell.SqlType.{SqlType}
use Rattle.vkg_cells.specs.declared.cell.Cell.{Cell}
use Rattle.vkg_cells.specs.declared.cell.Cell.TheVariants as cell
use Rattle.vkg_cells.specs.Field.{cell_of_field}
use Rattle.vkg_cells.specs.Form.{IsOfKind, lexical_form}
use Rattle.vkg_cells.specs.Order.{family_of, same}
use Rattle.vkg_cells.specs.Number.{number_cmp}
use Rattle.std.specs.declared.cmp.Ordering.{Ordering}
use Rattle.std.specs.declared.cmp.Ordering.TheVariants.{Equal}

-- a cell's lexical form is a field of its kind, and of that very cell
abbrev pub IsReadBack : SqlType → Cell → Type 0
IsReadBack k c = IfSome (lexical_form c) (λ form. cell_of_field k form ≡ Ok c)

-- no other cell of its kind has a cell's lexical form
abbrev pub HasOwnForm : Cell → Type 0
HasOwnForm c =
    (k : SqlType) (d : Cell) → IsOfKind k c → IsOfKind k d → IsSome (lexical_form c) → lexical_form c ≡ lexical_form d → c ≡ d

-- within a family, equality is that of the lexical forms
abbrev pub IsByForm : Cell → Cell → Option Bool → Type 0
IsByForm c d answer =
    family_of c ≡ family_of d → IsSome (lexical_form c) → ((answer ≡ Some true) ↔ (lexical_form c ≡ lexical_form d))

-- a number's cell has the value of its field
abbrev pub HasValueOf : List ℕ → Cell → Type 0
HasValueOf text (cell.Int form) = number_cmp text form ≡ Equal
HasValueOf text (cell.Dec form) = number_cmp text form ≡ Equal
HasValueOf text c = ⊤

-- cells of kinds are equal in the order exactly where they are the same
abbrev pub IsEqualWhereSame : Cell → Cell → Ordering → Type 0
IsEqualWhereSame c d answer = (k l : SqlType) → IsOfKind k c → IsOfKind l d → ((answer ≡ Equal) ↔ (same c d ≡ Some true))
