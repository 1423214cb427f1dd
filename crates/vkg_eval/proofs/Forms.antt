-- What a cell's lexical form tells of a cell of a kind.
use Rattle.std.proofs.Common.{◌≡◌, refl, true, false}
use Rattle.std.specs.Prelude.{codes, is_none, option_map}
use Rattle.std.specs.Str.{bytes_eq}
use Rattle.vkg_cells.specs.declared.cell.Cell.{Cell}
use Rattle.vkg_cells.specs.declared.cell.Cell.TheVariants as cell
use Rattle.vkg_cells.specs.declared.cell.SqlType.TheVariants as kind
use Rattle.vkg_cells.specs.Form.{lexical_form}
use Rattle.vkg_cells.specs.Order.{same}
use Rattle.vkg_schema.specs.Rows.{is_null}
use Rattle.vkg_expr.specs.Steps.{Fits}
use Rattle.vkg_expr.specs.Value.{text_of, truth_of}

-- NULL is the one cell whose equality with a truth is unknown
pub none_same : (c : Cell) → is_none (same c (cell.Bool true)) ≡ is_null c
none_same cell.Null = refl
none_same (cell.Text t) = refl
none_same (cell.Int t) = refl
none_same (cell.Dec t) = refl
none_same (cell.Bool t) = refl
none_same (cell.Date t) = refl
none_same (cell.Stamp t) = refl
none_same (cell.Bin t) = refl
none_same (cell.Time t) = refl
none_same (cell.Term t) = refl

pub text_form : (c : Cell) → Fits kind.Text c → lexical_form c ≡ text_of c
text_form cell.Null h = refl
text_form (cell.Text t) h = refl
text_form (cell.Int t) h = cc
text_form (cell.Dec t) h = cc
text_form (cell.Bool t) h = cc
text_form (cell.Date t) h = cc
text_form (cell.Stamp t) h = cc
text_form (cell.Bin t) h = cc
text_form (cell.Time t) h = cc
text_form (cell.Term t) h = cc

pub truth_form : (c : Cell) → Fits kind.Bool c → option_map (λ form. bytes_eq form (codes "true")) (lexical_form c) ≡ truth_of c
truth_form cell.Null h = refl
truth_form (cell.Text t) h = cc
truth_form (cell.Int t) h = cc
truth_form (cell.Dec t) h = cc
truth_form (cell.Bool true) h = refl
truth_form (cell.Bool false) h = refl
truth_form (cell.Date t) h = cc
truth_form (cell.Stamp t) h = cc
truth_form (cell.Bin t) h = cc
truth_form (cell.Time t) h = cc
truth_form (cell.Term t) h = cc
