-- A weight that falls from an expression to its parts.
use Rattle.std.proofs.Common.{arith, ℕ, zero, suc, ◌+◌, ◌<◌, ◌≤◌, List, [], ◌∷◌, get_or, length, map}
use Rattle.vkg_expr.specs.declared.expr.Expr.{Expr as ExprValue}
use Rattle.vkg_expr.specs.Expr.{Expr, Exprs, Col, Const, MakeIri, IriOf, MakeBlank, MakeLit, Lex, IriSafe, Concat, Same, IsNull, Not, And, Or, Coalesce, Sparql, Ebv, Nil, More, exprs}
use Rattle.vkg_expr.specs.Seen.{expr_seen}

abbrev mutual
  pub weight : Expr → ℕ
  weight (Col at) = 1
  weight (Const c k) = 1
  weight (MakeIri e) = suc (weight e)
  weight (IriOf base e) = suc (weight e)
  weight (MakeBlank e) = suc (weight e)
  weight (MakeLit e k) = suc (weight e)
  weight (Lex e) = suc (weight e)
  weight (IriSafe e) = suc (weight e)
  weight (Concat es) = suc (weights es)
  weight (Same a b) = suc (weight a + weight b)
  weight (IsNull e) = suc (weight e)
  weight (Not e) = suc (weight e)
  weight (And es) = suc (weights es)
  weight (Or es) = suc (weights es)
  weight (Coalesce es) = suc (weights es)
  weight (Sparql op es) = suc (weights es)
  weight (Ebv e) = suc (weight e)

  pub weights : Exprs → ℕ
  weights Nil = 0
  weights (More e es) = weight e + weights es

abbrev pub weight_of : ExprValue → ℕ
weight_of x = weight (expr_seen x)

abbrev pub weight_of_each : List ExprValue → ℕ
weight_of_each xs = weights (exprs (map expr_seen xs))

pub item-weighs : (xs : List ExprValue) (d : ExprValue) (i : ℕ) → i < length xs → weight_of (get_or xs i d) ≤ weight_of_each xs
item-weighs [] d i b = absurd (omega arith)
item-weighs (x ∷ xs) d zero b = omega arith
item-weighs (x ∷ xs) d (suc i) b = let h = item-weighs xs d i (omega arith) in omega arith
