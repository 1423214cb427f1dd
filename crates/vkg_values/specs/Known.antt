-- The literals that have a known value, and their values.
use Rattle.std.specs.Prelude.{ℕ, Bool, true, false, not, ◌&&◌, List, [], ◌∷◌, Option, Some, None, option_map, codes, nat_lt, if◌then◌else◌, ◌==◌}
use Rattle.std.specs.List.{list_any}
use Rattle.std.specs.Str.{bytes_eq}
use Rattle.std.specs.Bool.{then_some}
use Rattle.vkg_terms.specs.declared.term.Term.{Term}
use Rattle.vkg_terms.specs.declared.term.Term.TheVariants.{Iri, Blank, Lit}
use Rattle.vkg_terms.specs.declared.term.Annotation.{Annotation}
use Rattle.vkg_terms.specs.declared.term.Annotation.TheVariants.{Plain, Lang, Typed}
use Rattle.vkg_terms.specs.Vocabulary.{xsd}
use Rattle.vkg_cells.specs.declared.cell.Cell.{Cell}
use Rattle.vkg_cells.specs.declared.cell.Cell.TheVariants as cell
use Rattle.vkg_cells.specs.Field.{is_one_text}
use Rattle.vkg_cells.specs.Moment.{is_date, stamp_form}
use Rattle.vkg_cells.specs.Number.{canonical, is_decimal, is_integer, width}

-- a number of so many digits is known, where there may be a widest one
abbrev pub is_within : Option ℕ → ℕ → Bool
is_within None digits = true
is_within (Some most) digits = not (nat_lt most digits)

abbrev pub truth_of : List ℕ → Option Cell
truth_of text = if is_one_text (codes "true" ∷ codes "1" ∷ []) text then Some (cell.Bool true) else then_some (is_one_text (codes "false" ∷ codes "0" ∷ []) text) (cell.Bool false)

-- a date and a time to 23:59:59 with a `T` (84) between them, without a zone, and with at most nine digits after a point
abbrev pub moment_of : List ℕ → Option Cell
moment_of text = if list_any (λ b. b == 84) text then option_map cell.Stamp (stamp_form text) else None

-- own: the forms of xsd:integer, decimal and boolean, and those of xsd:date and dateTime without a zone
abbrev pub typed_value : Option ℕ → List ℕ → List ℕ → Option Cell
typed_value most datatype text =
    if bytes_eq datatype (xsd (codes "integer")) then then_some (is_integer text && is_within most (width text)) (cell.Int (canonical text))
    else if bytes_eq datatype (xsd (codes "decimal")) then then_some (is_decimal text && is_within most (width text)) (cell.Dec (canonical text))
    else if bytes_eq datatype (xsd (codes "boolean")) then truth_of text
    else if bytes_eq datatype (xsd (codes "date")) then then_some (is_date text) (cell.Date text)
    else if bytes_eq datatype (xsd (codes "dateTime")) then moment_of text
    else None

abbrev pub literal_value : Option ℕ → List ℕ → Annotation → Option Cell
literal_value most text Plain = Some (cell.Text text)
literal_value most text (Lang tag) = None
literal_value most text (Typed datatype) = typed_value most datatype text

-- the known value of a term: that of a plain literal is its text
abbrev pub known : Option ℕ → Term → Option Cell
known most (Lit text annotation) = literal_value most text annotation
known most (Iri iri) = None
known most (Blank label) = None

-- a limit of this project: in a plan a number of more than 38 digits has no known value
abbrev pub widest : Option ℕ
widest = Some 38
