-- Each expression is one with itself, so that `same_expr` tells equal ones from all others.
use Rattle.std.proofs.Common.{◌≡◌, ◌∙◌, true, [], ◌∷◌, refl, sym, ap}
use Rattle.std.specs.Str.{bytes_eq}
use Rattle.vkg_lists.specs.Sets.{IsEqualityTest}
use Rattle.vkg_lists.proofs.Bools.{and_parts, and_true}
use Rattle.vkg_lists.proofs.Counts.{eq_itself}
use Rattle.vkg_lists.proofs.Tests.{nat_test}
use Rattle.vkg_lists.proofs.Texts.{bytes_test}
use Rattle.vkg_terms.proofs.SameLemmas.{annotation_itself}
use Rattle.vkg_terms.specs.Same.{annotation_eq}
use Rattle.vkg_cells.specs.declared.cell.Cell.{Cell}
use Rattle.vkg_values.specs.declared.operator.Compare.{Compare}
use Rattle.vkg_values.specs.declared.operator.Compare.TheVariants as compare
use Rattle.vkg_values.specs.declared.operator.Take.{Take}
use Rattle.vkg_values.specs.declared.operator.Take.TheVariants as take
use Rattle.vkg_values.specs.declared.operator.Test.{Test}
use Rattle.vkg_values.specs.declared.operator.Test.TheVariants as test
use Rattle.vkg_expr.specs.declared.expr.Operator.{Operator}
use Rattle.vkg_expr.specs.declared.expr.Operator.TheVariants as operator
use Rattle.vkg_expr.specs.Expr.{Expr, Exprs, Col, Const, MakeIri, IriOf, MakeBlank, MakeLit, Lex, IriSafe, Concat, Same, IsNull, Not, And, Or, Coalesce, Sparql, Ebv}
use Rattle.vkg_expr.specs.Expr as expr
use Rattle.vkg_expr.proofs.ValueFits.{kinds_apart}
use Rattle.vkg_expr.specs.Typing.{same_kind}
use Rattle.vkg_plan.proofs.CellLemmas.{rows_apart}
use Rattle.vkg_plan.specs.Rows.{one_cell}
use Rattle.vkg_same.specs.SameExprLaw.{same_expr-is}
use Rattle.vkg_same.specs.SameExpr.{same_compare, same_expr, same_exprs, same_operator, same_take, same_test}

same_test-itself : (a : Test) → same_test a a ≡ true
same_test-itself test.IsIri = refl
same_test-itself test.IsBlank = refl
same_test-itself test.IsLiteral = refl
same_test-itself test.IsNumeric = refl

same_take-itself : (a : Take) → same_take a a ≡ true
same_take-itself take.Str = refl
same_take-itself take.Lang = refl
same_take-itself take.Datatype = refl
same_take-itself take.Length = refl

same_compare-itself : (a : Compare) → same_compare a a ≡ true
same_compare-itself compare.Equal = refl
same_compare-itself compare.NotEqual = refl
same_compare-itself compare.Less = refl
same_compare-itself compare.Greater = refl
same_compare-itself compare.LessOrEqual = refl
same_compare-itself compare.GreaterOrEqual = refl
same_compare-itself compare.Starts = refl
same_compare-itself compare.Ends = refl
same_compare-itself compare.Contains = refl

same_operator-itself : (a : Operator) → same_operator a a ≡ true
same_operator-itself (operator.Test a) = same_test-itself a
same_operator-itself (operator.Take a) = same_take-itself a
same_operator-itself (operator.Compare a) = same_compare-itself a

one_cell-itself : (c : Cell) → one_cell c c ≡ true
one_cell-itself c = (and_parts (one_cell c c) true (eq_itself rows_apart (c ∷ []))).0

mutual
  pub same_expr-itself : (e : Expr) → same_expr e e ≡ true
  same_expr-itself (Col at) = eq_itself nat_test at
  same_expr-itself (Const c k) = and_true (one_cell c c) (same_kind k k) (one_cell-itself c) (eq_itself kinds_apart k)
  same_expr-itself (MakeIri e) = same_expr-itself e
  same_expr-itself (MakeBlank e) = same_expr-itself e
  same_expr-itself (Lex e) = same_expr-itself e
  same_expr-itself (IriSafe e) = same_expr-itself e
  same_expr-itself (IsNull e) = same_expr-itself e
  same_expr-itself (Not e) = same_expr-itself e
  same_expr-itself (Ebv e) = same_expr-itself e
  same_expr-itself (Concat es) = same_exprs-itself es
  same_expr-itself (And es) = same_exprs-itself es
  same_expr-itself (Or es) = same_exprs-itself es
  same_expr-itself (Coalesce es) = same_exprs-itself es
  same_expr-itself (IriOf base e) = and_true (bytes_eq base base) (same_expr e e) (eq_itself bytes_test base) (same_expr-itself e)
  same_expr-itself (MakeLit e a) = and_true (same_expr e e) (annotation_eq a a) (same_expr-itself e) (annotation_itself a)
  same_expr-itself (Same a b) = and_true (same_expr a a) (same_expr b b) (same_expr-itself a) (same_expr-itself b)
  same_expr-itself (Sparql op es) = and_true (same_operator op op) (same_exprs es es) (same_operator-itself op) (same_exprs-itself es)

  pub same_exprs-itself : (es : Exprs) → same_exprs es es ≡ true
  same_exprs-itself expr.Nil = refl
  same_exprs-itself (expr.More e es) = and_true (same_expr e e) (same_exprs es es) (same_expr-itself e) (same_exprs-itself es)

-- the test tells equal expressions from all others
pub exprs_apart : IsEqualityTest same_expr
exprs_apart = record { decides = λ e f. (same_expr-is e f, λ h. ap (same_expr e) (sym h) ∙ same_expr-itself e) }
