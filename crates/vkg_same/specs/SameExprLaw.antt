-- Expressions that are one by `same_expr` are equal.
use Rattle.std.proofs.Common.{◌≡◌, true, [], ◌∷◌, refl, ap}
use Rattle.vkg_lists.proofs.Bools.{and_parts, and_true}
use Rattle.vkg_lists.proofs.Counts.{eq_same}
use Rattle.vkg_lists.proofs.Tests.{nat_test}
use Rattle.vkg_lists.proofs.Texts.{bytes_test}
use Rattle.vkg_terms.proofs.SameLemmas.{same_annotation}
use Rattle.vkg_cells.specs.declared.cell.Cell.{Cell}
use Rattle.vkg_values.specs.declared.operator.Compare.{Compare}
use Rattle.vkg_values.specs.declared.operator.Compare.TheVariants as compare
use Rattle.vkg_values.specs.declared.operator.Take.{Take}
use Rattle.vkg_values.specs.declared.operator.Take.TheVariants as take
use Rattle.vkg_values.specs.declared.operator.Test.{Test}
use Rattle.vkg_values.specs.declared.operator.Test.TheVariants as test
use Rattle.vkg_expr.specs.declared.expr.Operator.{Operator}
use Rattle.vkg_expr.specs.declared.expr.Operator.TheVariants as operator
use Rattle.vkg_expr.specs.Expr.{Expr, Exprs, Col, Const, MakeIri, IriOf, MakeBlank, MakeLit, Lex, IriSafe, Concat, Same, IsNull, Not, And, Or, Coalesce, Sparql, Ebv}
use Rattle.vkg_expr.specs.Expr as expr
use Rattle.vkg_expr.proofs.ValueFits.{kinds_apart}
use Rattle.vkg_plan.proofs.CellLemmas.{rows_apart}
use Rattle.vkg_plan.specs.Rows.{one_cell}
use Rattle.vkg_same.specs.SameExpr.{same_compare, same_expr, same_exprs, same_operator, same_take, same_test}

same_test-is : (a b : Test) → same_test a b ≡ true → a ≡ b
same_test-is test.IsIri test.IsIri e = refl
same_test-is test.IsBlank test.IsBlank e = refl
same_test-is test.IsLiteral test.IsLiteral e = refl
same_test-is test.IsNumeric test.IsNumeric e = refl
same_test-is _ _ e = cc

same_take-is : (a b : Take) → same_take a b ≡ true → a ≡ b
same_take-is take.Str take.Str e = refl
same_take-is take.Lang take.Lang e = refl
same_take-is take.Datatype take.Datatype e = refl
same_take-is take.Length take.Length e = refl
same_take-is _ _ e = cc

same_compare-is : (a b : Compare) → same_compare a b ≡ true → a ≡ b
same_compare-is compare.Equal compare.Equal e = refl
same_compare-is compare.NotEqual compare.NotEqual e = refl
same_compare-is compare.Less compare.Less e = refl
same_compare-is compare.Greater compare.Greater e = refl
same_compare-is compare.LessOrEqual compare.LessOrEqual e = refl
same_compare-is compare.GreaterOrEqual compare.GreaterOrEqual e = refl
same_compare-is compare.Starts compare.Starts e = refl
same_compare-is compare.Ends compare.Ends e = refl
same_compare-is compare.Contains compare.Contains e = refl
same_compare-is _ _ e = cc

same_operator-is : (a b : Operator) → same_operator a b ≡ true → a ≡ b
same_operator-is (operator.Test a) (operator.Test b) e = ap operator.Test (same_test-is a b e)
same_operator-is (operator.Take a) (operator.Take b) e = ap operator.Take (same_take-is a b e)
same_operator-is (operator.Compare a) (operator.Compare b) e = ap operator.Compare (same_compare-is a b e)
same_operator-is _ _ e = cc

one_cell-is : (c d : Cell) → one_cell c d ≡ true → c ≡ d
one_cell-is c d e = one_head c d (eq_same rows_apart (c ∷ []) (d ∷ []) (and_true (one_cell c d) true e refl))
  where
    one_head : (c d : Cell) → c ∷ [] ≡ d ∷ [] → c ≡ d
    one_head c d k = cc

mutual
  pub same_expr-is : (e f : Expr) → same_expr e f ≡ true → e ≡ f
  same_expr-is (Col at) (Col at') h = ap Col (eq_same nat_test at at' h)
  same_expr-is (Const c k) (Const c' k') h = let b = and_parts _ _ h in let l = one_cell-is c c' b.0 in let r = eq_same kinds_apart k k' b.1 in λ i. Const (l i) (r i)
  same_expr-is (MakeIri e) (MakeIri f) h = ap MakeIri (same_expr-is e f h)
  same_expr-is (MakeBlank e) (MakeBlank f) h = ap MakeBlank (same_expr-is e f h)
  same_expr-is (Lex e) (Lex f) h = ap Lex (same_expr-is e f h)
  same_expr-is (IriSafe e) (IriSafe f) h = ap IriSafe (same_expr-is e f h)
  same_expr-is (IsNull e) (IsNull f) h = ap IsNull (same_expr-is e f h)
  same_expr-is (Not e) (Not f) h = ap Not (same_expr-is e f h)
  same_expr-is (Ebv e) (Ebv f) h = ap Ebv (same_expr-is e f h)
  same_expr-is (Concat es) (Concat fs) h = ap Concat (same_exprs-is es fs h)
  same_expr-is (And es) (And fs) h = ap And (same_exprs-is es fs h)
  same_expr-is (Or es) (Or fs) h = ap Or (same_exprs-is es fs h)
  same_expr-is (Coalesce es) (Coalesce fs) h = ap Coalesce (same_exprs-is es fs h)
  same_expr-is (IriOf base e) (IriOf base' f) h = let b = and_parts _ _ h in let l = eq_same bytes_test base base' b.0 in let r = same_expr-is e f b.1 in λ i. IriOf (l i) (r i)
  same_expr-is (MakeLit e a) (MakeLit f b) h = let p = and_parts _ _ h in let l = same_expr-is e f p.0 in let r = same_annotation a b p.1 in λ i. MakeLit (l i) (r i)
  same_expr-is (Same a b) (Same c d) h = let p = and_parts _ _ h in let l = same_expr-is a c p.0 in let r = same_expr-is b d p.1 in λ i. Same (l i) (r i)
  same_expr-is (Sparql op es) (Sparql op' fs) h = let b = and_parts _ _ h in let l = same_operator-is op op' b.0 in let r = same_exprs-is es fs b.1 in λ i. Sparql (l i) (r i)
  same_expr-is _ _ h = cc

  pub same_exprs-is : (es fs : Exprs) → same_exprs es fs ≡ true → es ≡ fs
  same_exprs-is expr.Nil expr.Nil h = refl
  same_exprs-is (expr.More e es) (expr.More f fs) h = let b = and_parts _ _ h in let l = same_expr-is e f b.0 in let r = same_exprs-is es fs b.1 in λ i. expr.More (l i) (r i)
  same_exprs-is _ _ h = cc
