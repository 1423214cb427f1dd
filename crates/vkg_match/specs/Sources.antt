-- The texts and cells that make a given text.
use Rattle.std.specs.Prelude.{ℕ, Bool, ◌&&◌, List, [], ◌∷◌, Option, Some, None, Result, Ok, Err, if◌then◌else◌}
use Rattle.std.specs.Str.{bytes_eq, is_utf8}
use Rattle.hex.specs.Hex.{decode_of}
use Rattle.hex.specs.declared.error.FromHexError.{FromHexError}
use Rattle.percent_encoding.specs.Percent.{percent_decode}
use Rattle.vkg_terms.specs.Label.{blank_label}
use Rattle.vkg_terms.specs.Safe.{safe}
use Rattle.vkg_cells.specs.declared.cell.SqlType.{SqlType}
use Rattle.vkg_cells.specs.declared.cell.Cell.{Cell}
use Rattle.vkg_cells.specs.declared.cell.FieldFault.{FieldFault}
use Rattle.vkg_cells.specs.Field.{cell_of_field}
use Rattle.vkg_cells.specs.Form.{lexical_form}
use Rattle.vkg_cells.specs.Order.{same_form}

-- the text, where it is one and the test holds
abbrev pub text_if : List ℕ → Bool → Option (List ℕ)
text_if text holds = if is_utf8 text && holds then Some text else None

-- R2RML, 7.3: the text whose IRI-safe form this is, if there is one
abbrev pub source_of : List ℕ → Option (List ℕ)
source_of form = text_if (percent_decode form) (bytes_eq (safe (percent_decode form)) form)

abbrev pub octets_labelled : List ℕ → Result (List ℕ) FromHexError → Option (List ℕ)
octets_labelled label (Ok text) = text_if text (bytes_eq (blank_label text) label)
octets_labelled label (Err e) = None

-- R2RML, 11.2: the text whose blank node has this label, if there is one
abbrev pub labelled_of : List ℕ → Option (List ℕ)
labelled_of [] = None
labelled_of (b ∷ digits) = octets_labelled (b ∷ digits) (decode_of digits)

abbrev pub cell_if : List ℕ → Result Cell FieldFault → Option Cell
cell_if form (Ok c) = if same_form (lexical_form c) (Some form) then Some c else None
cell_if form (Err e) = None

-- R2RML, 10.2: the cell of a kind whose natural lexical form this is, if there is one
abbrev pub cell_with : SqlType → List ℕ → Option Cell
cell_with k form = cell_if form (cell_of_field k form)
