-- Worked rows of the rule.
use Rattle.std.specs.Prelude.{◌≡◌, ℕ, List, [], ◌∷◌, codes, refl, true, false, Some, None}
use Rattle.std.specs.Char.{encode_utf8}
use Rattle.std.specs.Str.{chars, is_utf8}
use Rattle.hex.specs.Hex.{encode_with, decode_pairs}
use Rattle.percent_encoding.specs.Percent.{percent_decode}
use Rattle.vkg_terms.specs.declared.term.Term.TheVariants.{Iri}
use Rattle.vkg_cells.specs.declared.cell.Cell.TheVariants as cell
use Rattle.vkg_cells.specs.declared.cell.SqlType.TheVariants as kind
use Rattle.vkg_expr.specs.declared.term_expr.Sort.TheVariants.{OfIri}
use Rattle.vkg_expr.specs.declared.term_expr.Piece.TheVariants.{Chars, Hole}
use Rattle.vkg_expr.specs.declared.term_expr.TermExpr.TheVariants.{Made}
use Rattle.vkg_expr.specs.Expr.{Expr, And, Col, Const, IsNull, Not, Same, exprs}
use Rattle.vkg_expr.specs.Logic.{truth_const}
use Rattle.vkg_expr.specs.TermExprs.{term_const, term_expr}
use Rattle.vkg_match.specs.Cut.{cut_character, cut_piece}
use Rattle.vkg_match.specs.Verdict.{segment, segment_at}
use Rattle.vkg_plan.specs.Kinds.{Tables}
use Rattle.vkg_plan.specs.Plan.{Project, Scan, Select, Unit as UnitPlan}
use Rattle.vkg_rules.specs.declared.rewrite.Fell.TheVariants as fell
use Rattle.vkg_equalities.specs.TermEquality.{decided_in, term_equality}

unfoldable pub opened : Unit {0}
unfolding chars encode_utf8 is_utf8 percent_decode decode_pairs encode_with cut_character cut_piece segment segment_at decided_in
opened = tt

abbrev employees : Tables
employees = record { name = codes "emp"; columns = record { name = codes "id"; kind = kind.Int; not_null = true } ∷ []; keys = []; references = [] } ∷ []

abbrev employee : Expr
employee = term_expr (Made OfIri (Chars (codes "http://e/") ∷ Hole 0 kind.Int ∷ []))

abbrev iri : List ℕ → Expr
iri text = term_const (Iri text)

-- the equality of two IRIs is that of a column and a cell
seven : term_equality employees (Select (Same employee (iri (codes "http://e/7"))) (Scan 0)) ≡ Some (Select (Same (Col 0) (Const (cell.Int (codes "7")) kind.Int)) (Scan 0), fell.Equalities)
unfolding opened
seven = refl

-- an INTEGER's form has no leading zero
zero_seven : term_equality employees (Select (Same employee (iri (codes "http://e/07"))) (Scan 0)) ≡ Some (Select (truth_const false) (Scan 0), fell.Equalities)
unfolding opened
zero_seven = refl

-- one conjunct of two
beside_a_test : term_equality employees (Select (And (exprs (Not (IsNull (Col 0)) ∷ Same employee employee ∷ []))) (Scan 0)) ≡ Some (Select (And (exprs (Not (IsNull (Col 0)) ∷ Same (Col 0) (Col 0) ∷ []))) (Scan 0), fell.Equalities)
unfolding opened
beside_a_test = refl

-- a cell that no field is read as: the column is none of a table
no_table : term_equality employees (Select (Same employee (iri (codes "http://e/07"))) (Project (Const (cell.Int (codes "07")) kind.Int ∷ []) UnitPlan)) ≡ None
unfolding opened
no_table = refl
