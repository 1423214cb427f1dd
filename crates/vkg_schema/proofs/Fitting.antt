-- What fits a column.
use Rattle.std.proofs.Common.{◌≡◌, ℕ, Bool, false, inl, inr, List, Ok, refl}
use Rattle.std.specs.Prelude.{IsUtf8}
use Rattle.vkg_cells.specs.declared.cell.SqlType.{SqlType}
use Rattle.vkg_cells.specs.declared.cell.SqlType.TheVariants as kind
use Rattle.vkg_cells.specs.declared.cell.Cell.TheVariants as cell
use Rattle.vkg_cells.specs.Field.{cell_of_field}
use Rattle.vkg_schema.specs.Meets.{FitsColumn}

pub null_fits : (name : List ℕ) (k : SqlType) → FitsColumn (record { name = name; kind = k; not_null = false }) cell.Null
null_fits name k = record { kind = inl refl; not_null = λ h. cc }

pub int_fits : (name text : List ℕ) (n : Bool) → IsUtf8 text → cell_of_field kind.Int text ≡ Ok (cell.Int text) → FitsColumn (record { name = name; kind = kind.Int; not_null = n }) (cell.Int text)
int_fits name text n u e = record { kind = inr (text, u, e); not_null = λ _ is. cc }

pub text_fits : (name text : List ℕ) → IsUtf8 text → FitsColumn (record { name = name; kind = kind.Text; not_null = false }) (cell.Text text)
text_fits name text u = record { kind = inr (text, u, refl); not_null = λ _ is. cc }
