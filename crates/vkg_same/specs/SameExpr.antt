-- Two expressions that are one, part by part.
use Rattle.std.specs.Prelude.{Bool, true, false, ◌&&◌, ◌==◌}
use Rattle.std.specs.Str.{bytes_eq}
use Rattle.vkg_terms.specs.Same.{annotation_eq}
use Rattle.vkg_values.specs.declared.operator.Compare.{Compare}
use Rattle.vkg_values.specs.declared.operator.Compare.TheVariants as compare
use Rattle.vkg_values.specs.declared.operator.Take.{Take}
use Rattle.vkg_values.specs.declared.operator.Take.TheVariants as take
use Rattle.vkg_values.specs.declared.operator.Test.{Test}
use Rattle.vkg_values.specs.declared.operator.Test.TheVariants as test
use Rattle.vkg_expr.specs.declared.expr.Operator.{Operator}
use Rattle.vkg_expr.specs.declared.expr.Operator.TheVariants as operator
use Rattle.vkg_expr.specs.Expr.{Expr, Exprs, Col, Const, MakeIri, IriOf, MakeBlank, MakeLit, Lex, IriSafe, Concat, Same, IsNull, Not, And, Or, Coalesce, Sparql, Ebv, exprs}
use Rattle.vkg_expr.specs.Expr as expr
use Rattle.vkg_expr.specs.Typing.{same_kind}
use Rattle.vkg_plan.specs.Rows.{one_cell}

abbrev pub same_test : Test → Test → Bool
same_test test.IsIri test.IsIri = true
same_test test.IsBlank test.IsBlank = true
same_test test.IsLiteral test.IsLiteral = true
same_test test.IsNumeric test.IsNumeric = true
same_test a b = false

abbrev pub same_take : Take → Take → Bool
same_take take.Str take.Str = true
same_take take.Lang take.Lang = true
same_take take.Datatype take.Datatype = true
same_take take.Length take.Length = true
same_take a b = false

abbrev pub same_compare : Compare → Compare → Bool
same_compare compare.Equal compare.Equal = true
same_compare compare.NotEqual compare.NotEqual = true
same_compare compare.Less compare.Less = true
same_compare compare.Greater compare.Greater = true
same_compare compare.LessOrEqual compare.LessOrEqual = true
same_compare compare.GreaterOrEqual compare.GreaterOrEqual = true
same_compare compare.Starts compare.Starts = true
same_compare compare.Ends compare.Ends = true
same_compare compare.Contains compare.Contains = true
same_compare a b = false

abbrev pub same_operator : Operator → Operator → Bool
same_operator (operator.Test a) (operator.Test b) = same_test a b
same_operator (operator.Take a) (operator.Take b) = same_take a b
same_operator (operator.Compare a) (operator.Compare b) = same_compare a b
same_operator a b = false

abbrev mutual
  pub same_expr : Expr → Expr → Bool
  same_expr (Col at) (Col at') = at == at'
  same_expr (Const c k) (Const c' k') = one_cell c c' && same_kind k k'
  same_expr (MakeIri e) (MakeIri f) = same_expr e f
  same_expr (IriOf base e) (IriOf base' f) = bytes_eq base base' && same_expr e f
  same_expr (MakeBlank e) (MakeBlank f) = same_expr e f
  same_expr (MakeLit e a) (MakeLit f b) = same_expr e f && annotation_eq a b
  same_expr (Lex e) (Lex f) = same_expr e f
  same_expr (IriSafe e) (IriSafe f) = same_expr e f
  same_expr (Concat es) (Concat fs) = same_exprs es fs
  same_expr (Same a b) (Same c d) = same_expr a c && same_expr b d
  same_expr (IsNull e) (IsNull f) = same_expr e f
  same_expr (Not e) (Not f) = same_expr e f
  same_expr (And es) (And fs) = same_exprs es fs
  same_expr (Or es) (Or fs) = same_exprs es fs
  same_expr (Coalesce es) (Coalesce fs) = same_exprs es fs
  same_expr (Sparql op es) (Sparql op' fs) = same_operator op op' && same_exprs es fs
  same_expr (Ebv e) (Ebv f) = same_expr e f
  same_expr e f = false

  pub same_exprs : Exprs → Exprs → Bool
  same_exprs expr.Nil expr.Nil = true
  same_exprs (expr.More e es) (expr.More f fs) = same_expr e f && same_exprs es fs
  same_exprs es fs = false
