-- The value of an expression on a row; unknown and error are NULL.
use Rattle.std.specs.Prelude.{ℕ, Bool, true, false, List, [], ◌∷◌, map, fold, find, not, Option, Some, None, option_and_then, option_map, unwrap_or}
use Rattle.std.specs.Option.{option_map_or}
use Rattle.vkg_lists.specs.Options.{joined}
use Rattle.vkg_terms.specs.declared.term.Term.{Term}
use Rattle.vkg_terms.specs.declared.term.Term.TheVariants.{Iri, Blank, Lit}
use Rattle.vkg_terms.specs.Iri.{made_absolute}
use Rattle.vkg_terms.specs.Label.{blank_label}
use Rattle.vkg_terms.specs.Safe.{safe}
use Rattle.vkg_cells.specs.declared.cell.Cell.{Cell}
use Rattle.vkg_cells.specs.declared.cell.Cell.TheVariants as cell
use Rattle.vkg_cells.specs.Form.{lexical_form}
use Rattle.vkg_cells.specs.Order.{same}
use Rattle.vkg_values.specs.Known.{widest}
use Rattle.vkg_values.specs.Logic.{not3, and3, or3}
use Rattle.vkg_values.specs.Operators.{ebv, test_value, take_value, compare_value, on_two}
use Rattle.vkg_schema.specs.Rows.{Row, cell_at, is_known_true, is_null}
use Rattle.vkg_expr.specs.declared.expr.Operator.{Operator}
use Rattle.vkg_expr.specs.declared.expr.Operator.TheVariants.{Test, Take, Compare}
use Rattle.vkg_expr.specs.Expr.{Expr, Exprs, Col, Const, MakeIri, IriOf, MakeBlank, MakeLit, Lex, IriSafe, Concat, Same, IsNull, Not, And, Or, Coalesce, Sparql, Ebv, Nil, More}

-- a cell as a truth, a text or a term, and back
abbrev pub truth_of : Cell → Option Bool
truth_of (cell.Bool b) = Some b
truth_of c = None

abbrev pub text_of : Cell → Option (List ℕ)
text_of (cell.Text text) = Some text
text_of c = None

abbrev pub term_of : Cell → Option Term
term_of (cell.Term term) = Some term
term_of c = None

abbrev pub truth_cell : Option Bool → Cell
truth_cell o = option_map_or cell.Bool o cell.Null

abbrev pub text_cell : Option (List ℕ) → Cell
text_cell o = option_map_or cell.Text o cell.Null

abbrev pub term_cell : Option Term → Cell
term_cell o = option_map_or cell.Term o cell.Null

-- the texts after each other, where all are there
abbrev pub concat_of : List Cell → Option (List ℕ)
concat_of [] = Some []
concat_of (c ∷ cs) = joined (text_of c) (concat_of cs)

-- SQL-92, 6.9, COALESCE: the first cell that is not NULL
abbrev pub coalesced : List Cell → Cell
coalesced cs = unwrap_or (find (λ c. not (is_null c)) cs) cell.Null

abbrev pub operator_value : Operator → List Cell → Cell
operator_value (Test op) (c ∷ []) = truth_cell (option_map (test_value widest op) (term_of c))
operator_value (Take op) (c ∷ []) = term_cell (option_and_then (take_value op) (term_of c))
operator_value (Compare op) (c ∷ d ∷ []) = truth_cell (on_two (compare_value widest op) (term_of c) (term_of d))
operator_value op cs = cell.Null

-- Kleene's logic: false where one is false, else unknown where one is unknown; and so with true
abbrev pub all_of : List Cell → Option Bool
all_of cs = fold and3 (Some true) (map truth_of cs)

abbrev pub any_of : List Cell → Option Bool
any_of cs = fold or3 (Some false) (map truth_of cs)

abbrev mutual
  pub value_of : Expr → Row → Cell
  value_of (Col at) row = cell_at row at
  value_of (Const c k) row = c
  value_of (MakeIri e) row = term_cell (option_map Iri (text_of (value_of e row)))
  value_of (IriOf base e) row = text_cell (option_map (made_absolute base) (text_of (value_of e row)))
  value_of (MakeBlank e) row = term_cell (option_map (λ s. Blank (blank_label s)) (text_of (value_of e row)))
  value_of (MakeLit e annotation) row = term_cell (option_map (λ s. Lit s annotation) (text_of (value_of e row)))
  value_of (Lex e) row = text_cell (lexical_form (value_of e row))
  value_of (IriSafe e) row = text_cell (option_map safe (text_of (value_of e row)))
  value_of (Concat es) row = text_cell (concat_of (values_of es row))
  value_of (Same a b) row = truth_cell (same (value_of a row) (value_of b row))
  value_of (IsNull e) row = cell.Bool (is_null (value_of e row))
  value_of (Not e) row = truth_cell (not3 (truth_of (value_of e row)))
  value_of (And es) row = truth_cell (all_of (values_of es row))
  value_of (Or es) row = truth_cell (any_of (values_of es row))
  value_of (Coalesce es) row = coalesced (values_of es row)
  value_of (Sparql op es) row = operator_value op (values_of es row)
  value_of (Ebv e) row = truth_cell (option_and_then (ebv widest) (term_of (value_of e row)))

  pub values_of : Exprs → Row → List Cell
  values_of Nil row = []
  values_of (More e es) row = value_of e row ∷ values_of es row

-- a condition keeps a row where it is true
abbrev pub holds : Expr → Row → Bool
holds c row = is_known_true (truth_of (value_of c row))
