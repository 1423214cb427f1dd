-- The operators on terms, in this project's profile of SPARQL 1.1 Query, 17; none is an error.
use Rattle.std.specs.Prelude.{ℕ, Bool, true, false, not, ◌&&◌, List, [], ◌∷◌, Option, Some, None, option_map, codes, nat_eq, if◌then◌else◌}
use Rattle.std.specs.List.{ends_with, starts_with}
use Rattle.std.specs.Str.{bytes_eq}
use Rattle.std.specs.declared.cmp.Ordering.{Ordering}
use Rattle.std.specs.Ordering.{is_eq, is_ge, is_gt, is_le, is_lt}
use Rattle.vkg_terms.specs.declared.term.Term.{Term}
use Rattle.vkg_terms.specs.declared.term.Term.TheVariants.{Iri, Blank, Lit}
use Rattle.vkg_terms.specs.declared.term.Annotation.{Annotation}
use Rattle.vkg_terms.specs.declared.term.Annotation.TheVariants.{Plain, Lang, Typed}
use Rattle.vkg_terms.specs.Same.{term_eq}
use Rattle.vkg_terms.specs.Vocabulary.{xsd, xsd_string, rdf_lang_string}
use Rattle.vkg_cells.specs.declared.cell.Cell.{Cell}
use Rattle.vkg_cells.specs.declared.cell.Cell.TheVariants as cell
use Rattle.vkg_cells.specs.Field.{is_one_text}
use Rattle.vkg_cells.specs.Order.{order}
use Rattle.vkg_cells.specs.WellTyped.{is_well_typed}
use Rattle.vkg_values.specs.declared.operator.Compare.{Compare}
use Rattle.vkg_values.specs.declared.operator.Compare.TheVariants as asks
use Rattle.vkg_values.specs.declared.operator.Take.{Take}
use Rattle.vkg_values.specs.declared.operator.Take.TheVariants as takes
use Rattle.vkg_values.specs.declared.operator.Test.{Test}
use Rattle.vkg_values.specs.declared.operator.Test.TheVariants as tests
use Rattle.vkg_values.specs.Known.{known}
use Rattle.vkg_values.specs.Logic.{not3}
use Rattle.vkg_values.specs.Strings.{has_part, length_of, on_strings}

-- the values that have an order among them: two texts, numbers, truths, dates or moments
abbrev pub is_one_sort : Cell → Cell → Bool
is_one_sort (cell.Text a) (cell.Text b) = true
is_one_sort (cell.Int a) (cell.Int b) = true
is_one_sort (cell.Int a) (cell.Dec b) = true
is_one_sort (cell.Dec a) (cell.Int b) = true
is_one_sort (cell.Dec a) (cell.Dec b) = true
is_one_sort (cell.Bool a) (cell.Bool b) = true
is_one_sort (cell.Date a) (cell.Date b) = true
is_one_sort (cell.Stamp a) (cell.Stamp b) = true
is_one_sort a b = false

-- numbers by value, texts by code points, false before true, dates and moments by time
abbrev pub compared_values : Option Cell → Option Cell → Option Ordering
compared_values (Some c) (Some d) = if is_one_sort c d then Some (order c d) else None
compared_values c d = None

abbrev pub compared : Option ℕ → Term → Term → Option Ordering
compared most a b = compared_values (known most a) (known most b)

abbrev pub is_literal : Term → Bool
is_literal (Lit text annotation) = true
is_literal t = false

-- SPARQL 1.1 Query, 17.4.1.7, RDFterm-equal: one term is equal to itself, and two literals that are not one term are an error
abbrev pub term_equal : Term → Term → Option Bool
term_equal a b = if term_eq a b then Some true else if is_literal a && is_literal b then None else Some false

abbrev pub equal_where : Term → Term → Option Ordering → Option Bool
equal_where a b (Some o) = Some (is_eq o)
equal_where a b None = term_equal a b

-- SPARQL 1.1 Query, 17.3, `=`: by value where both are known and of one sort
abbrev pub equal : Option ℕ → Term → Term → Option Bool
equal most a b = equal_where a b (compared most a b)

-- SPARQL 1.1 Query, 17.3, and 17.4.3.6 to 17.4.3.8, STRSTARTS, STRENDS and CONTAINS
abbrev pub compare_value : Option ℕ → Compare → Term → Term → Option Bool
compare_value most asks.Equal a b = equal most a b
compare_value most asks.NotEqual a b = not3 (equal most a b)
compare_value most asks.Less a b = option_map is_lt (compared most a b)
compare_value most asks.Greater a b = option_map is_gt (compared most a b)
compare_value most asks.LessOrEqual a b = option_map is_le (compared most a b)
compare_value most asks.GreaterOrEqual a b = option_map is_ge (compared most a b)
compare_value most asks.Starts a b = on_strings (starts_with nat_eq) a b
compare_value most asks.Ends a b = on_strings (ends_with nat_eq) a b
compare_value most asks.Contains a b = on_strings has_part a b

abbrev pub is_some_text : List ℕ → Bool
is_some_text [] = false
is_some_text (b ∷ bs) = true

-- a number is written without needless zeros, so zero is `0`
abbrev pub truth_of_value : Cell → Option Bool
truth_of_value (cell.Bool b) = Some b
truth_of_value (cell.Int form) = Some (not (bytes_eq form (codes "0")))
truth_of_value (cell.Dec form) = Some (not (bytes_eq form (codes "0")))
truth_of_value (cell.Text text) = Some (is_some_text text)
truth_of_value c = None

-- the datatypes whose ill-typed forms are false
abbrev pub has_truth : List ℕ → Bool
has_truth datatype = is_one_text (xsd (codes "boolean") ∷ xsd (codes "integer") ∷ xsd (codes "decimal") ∷ []) datatype

abbrev pub truth_of_unknown : Term → Option Bool
truth_of_unknown (Lit text (Lang tag)) = Some (is_some_text text)
truth_of_unknown (Lit text (Typed datatype)) = if has_truth datatype && not (is_well_typed datatype text) then Some false else None
truth_of_unknown t = None

abbrev pub truth_where : Term → Option Cell → Option Bool
truth_where t (Some c) = truth_of_value c
truth_where t None = truth_of_unknown t

-- SPARQL 1.1 Query, 17.2.2, effective boolean value
abbrev pub ebv : Option ℕ → Term → Option Bool
ebv most t = truth_where t (known most t)

abbrev pub is_number : Option Cell → Bool
is_number (Some (cell.Int form)) = true
is_number (Some (cell.Dec form)) = true
is_number c = false

abbrev pub is_iri : Term → Bool
is_iri (Iri iri) = true
is_iri t = false

abbrev pub is_blank : Term → Bool
is_blank (Blank label) = true
is_blank t = false

-- SPARQL 1.1 Query, 17.4.2.1 to 17.4.2.4
abbrev pub test_value : Option ℕ → Test → Term → Bool
test_value most tests.IsIri t = is_iri t
test_value most tests.IsBlank t = is_blank t
test_value most tests.IsLiteral t = is_literal t
test_value most tests.IsNumeric t = is_number (known most t)

abbrev pub str_of : Term → Option Term
str_of (Iri iri) = Some (Lit iri Plain)
str_of (Lit text annotation) = Some (Lit text Plain)
str_of (Blank label) = None

abbrev pub tag_of : Annotation → List ℕ
tag_of (Lang tag) = tag
tag_of a = []

abbrev pub datatype_of : Annotation → List ℕ
datatype_of Plain = xsd_string
datatype_of (Lang tag) = rdf_lang_string
datatype_of (Typed datatype) = datatype

-- SPARQL 1.1 Query, 17.4.2.5 to 17.4.2.7 and 17.4.3.2
abbrev pub take_value : Take → Term → Option Term
take_value takes.Str t = str_of t
take_value takes.Lang (Lit text annotation) = Some (Lit (tag_of annotation) Plain)
take_value takes.Lang t = None
take_value takes.Datatype (Lit text annotation) = Some (Iri (datatype_of annotation))
take_value takes.Datatype t = None
take_value takes.Length t = length_of t

-- a test of two terms, of which either may be an error: an error in either is one
abbrev pub on_two : (Term → Term → Option Bool) → Option Term → Option Term → Option Bool
on_two f (Some a) (Some b) = f a b
on_two f a b = None
