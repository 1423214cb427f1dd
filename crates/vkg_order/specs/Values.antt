-- The order of the values of a key.
use Rattle.std.specs.Prelude.{◌≡◌, ℕ, List, ◌++◌, Option, Some, None}
use Rattle.std.specs.declared.cmp.Ordering.{Ordering}
use Rattle.std.specs.Ordering.{nat_cmp, ordering_then}
use Rattle.vkg_terms.specs.declared.term.Term.{Term}
use Rattle.vkg_terms.specs.declared.term.Term.TheVariants.{Iri, Blank, Lit}
use Rattle.vkg_terms.specs.declared.term.Annotation.{Annotation}
use Rattle.vkg_terms.specs.NQuads.{annotation_text, quoted}
use Rattle.vkg_cells.specs.declared.cell.Cell.{Cell}
use Rattle.vkg_cells.specs.declared.cell.Cell.TheVariants as cell
use Rattle.vkg_cells.specs.Order.{order}
use Rattle.vkg_values.specs.Known.{literal_value, widest}
use Rattle.vkg_values.specs.Operators.{compared}

-- the value of a key, if it has one: a term
abbrev pub bound : Cell → Option Term
bound (cell.Term t) = Some t
bound c = None

-- RDF 1.1 N-Quads, 4, literal: its text
abbrev pub literal_text : List ℕ → Annotation → List ℕ
literal_text text annotation = quoted text ++ annotation_text annotation

-- own, of two literals that SPARQL 1.1 Query, 15.1, leaves without an order: first numbers, then plain literals, truths, moments
-- and dates, and last all of which no value is known. Within a class the value decides, and of the last the text.
abbrev pub known_key : List ℕ → Annotation → Option Cell → ℕ × Cell
known_key text annotation (Some (cell.Int form)) = (3, cell.Dec text)
known_key text annotation (Some (cell.Dec form)) = (3, cell.Dec text)
known_key text annotation (Some (cell.Text value)) = (4, cell.Text value)
known_key text annotation (Some (cell.Bool truth)) = (5, cell.Bool truth)
known_key text annotation (Some (cell.Stamp form)) = (6, cell.Stamp form)
known_key text annotation (Some (cell.Date form)) = (7, cell.Date form)
known_key text annotation value = (8, cell.Text (literal_text text annotation))

-- SPARQL 1.1 Query, 15.1: no value, which an error is too, blank nodes, IRIs, literals; own: blank nodes by their labels
abbrev pub sort_key : Option Term → ℕ × Cell
sort_key None = (0, cell.Null)
sort_key (Some (Blank label)) = (1, cell.Text label)
sort_key (Some (Iri iri)) = (2, cell.Text iri)
sort_key (Some (Lit text annotation)) = known_key text annotation (literal_value widest text annotation)

-- by the class, and within a class by the cell: numbers by value, texts by code points, false before true, dates and moments by time
abbrev pub key_cmp : ℕ × Cell → ℕ × Cell → Ordering
key_cmp k l = ordering_then (nat_cmp k.0 l.0) (order k.1 l.1)

-- SPARQL 1.1 Query, 15.1: the order of the values of a key
unfoldable pub value_cmp : Option Term → Option Term → Ordering
value_cmp a b = key_cmp (sort_key a) (sort_key b)

-- SPARQL 1.1 Query, 15.1 with 17.3: where `<` has an answer for two terms, the order is that of `<`
abbrev pub IsByOperator : Type 0
IsByOperator = (s t : Term) (o : Ordering) → compared widest s t ≡ Some o → value_cmp (Some s) (Some t) ≡ o
