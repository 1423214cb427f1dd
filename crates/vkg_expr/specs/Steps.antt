-- The outermost step of an expression, on the values of its parts.
use Rattle.std.specs.Prelude.{◌≡◌, All, IsTrue, List, length, option_and_then, option_map}
use Rattle.vkg_terms.specs.declared.term.Term.TheVariants.{Iri, Blank, Lit}
use Rattle.vkg_terms.specs.Iri.{made_absolute}
use Rattle.vkg_terms.specs.Label.{blank_label}
use Rattle.vkg_terms.specs.Safe.{safe}
use Rattle.vkg_cells.specs.declared.cell.Cell.{Cell}
use Rattle.vkg_cells.specs.declared.cell.Cell.TheVariants as cell
use Rattle.vkg_cells.specs.declared.cell.SqlType.{SqlType}
use Rattle.vkg_cells.specs.declared.cell.SqlType.TheVariants as kind
use Rattle.vkg_cells.specs.Form.{lexical_form}
use Rattle.vkg_values.specs.Known.{widest}
use Rattle.vkg_values.specs.Logic.{not3}
use Rattle.vkg_values.specs.Operators.{ebv}
use Rattle.vkg_schema.specs.Rows.{is_null}
use Rattle.vkg_expr.specs.Expr.{Expr, MakeIri, IriOf, MakeBlank, MakeLit, Lex, IriSafe, Concat, IsNull, Not, And, Or, Coalesce, Sparql, Ebv}
use Rattle.vkg_expr.specs.Typing.{arity, fits}
use Rattle.vkg_expr.specs.Value.{all_of, any_of, coalesced, concat_of, operator_value, term_cell, term_of, text_cell, text_of, truth_cell, truth_of}

-- of an expression of one part, on the part's value
abbrev pub of_one : Expr → Cell → Cell
of_one (MakeIri e) c = term_cell (option_map Iri (text_of c))
of_one (IriOf base e) c = text_cell (option_map (made_absolute base) (text_of c))
of_one (MakeBlank e) c = term_cell (option_map (λ s. Blank (blank_label s)) (text_of c))
of_one (MakeLit e annotation) c = term_cell (option_map (λ s. Lit s annotation) (text_of c))
of_one (Lex e) c = text_cell (lexical_form c)
of_one (IriSafe e) c = text_cell (option_map safe (text_of c))
of_one (IsNull e) c = cell.Bool (is_null c)
of_one (Not e) c = truth_cell (not3 (truth_of c))
of_one (Ebv e) c = truth_cell (option_and_then (ebv widest) (term_of c))
of_one e c = cell.Null

-- of an expression of a list of parts, on their values
abbrev pub of_each : Expr → List Cell → Cell
of_each (Concat es) cs = text_cell (concat_of cs)
of_each (And es) cs = truth_cell (all_of cs)
of_each (Or es) cs = truth_cell (any_of cs)
of_each (Coalesce es) cs = coalesced cs
of_each (Sparql op es) cs = operator_value op cs
of_each e cs = cell.Null

-- a cell, or each of some, is NULL or of the kind
abbrev pub Fits : SqlType → Cell → Type 0
Fits k c = IsTrue (fits k c)

abbrev pub AllFit : SqlType → List Cell → Type 0
AllFit k cs = All (Fits k) cs

-- what the step of an expression of one part asks of the part's value
abbrev pub TakesOne : Expr → Cell → Type 0
TakesOne (MakeIri e) c = Fits kind.Text c
TakesOne (IriOf base e) c = Fits kind.Text c
TakesOne (MakeBlank e) c = Fits kind.Text c
TakesOne (MakeLit e annotation) c = Fits kind.Text c
TakesOne (Lex e) c = Unit {0}
TakesOne (IriSafe e) c = Fits kind.Text c
TakesOne (IsNull e) c = Unit {0}
TakesOne (Not e) c = Fits kind.Bool c
TakesOne (Ebv e) c = Fits kind.Term c
TakesOne e c = ⊥

-- what that of an expression of a list of parts asks of their values
abbrev pub TakesEach : Expr → List Cell → Type 0
TakesEach (Concat es) cs = AllFit kind.Text cs
TakesEach (And es) cs = AllFit kind.Bool cs
TakesEach (Or es) cs = AllFit kind.Bool cs
TakesEach (Coalesce es) cs = Unit {0}
TakesEach (Sparql op es) cs = (length cs ≡ arity op) × AllFit kind.Term cs
TakesEach e cs = ⊥
