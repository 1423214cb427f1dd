-- What the program's type stands for.
use Rattle.vkg_expr.specs.declared.expr.Expr.{Expr as ExprValue}
use Rattle.vkg_expr.specs.declared.expr.Expr.TheOpen.{Expr-F}
use Rattle.vkg_expr.specs.declared.expr.Expr.TheFolds.{fold-Expr}
use Rattle.vkg_expr.specs.Expr.{Expr, Col, Const, MakeIri, IriOf, MakeBlank, MakeLit, Lex, IriSafe, Concat, Same, IsNull, Not, And, Or, Coalesce, Sparql, Ebv, exprs}

abbrev pub expr_step : Expr-F Expr → Expr
expr_step (Expr-F.Col at) = Col at
expr_step (Expr-F.Const c k) = Const c k
expr_step (Expr-F.MakeIri e) = MakeIri e
expr_step (Expr-F.IriOf base e) = IriOf base e
expr_step (Expr-F.MakeBlank e) = MakeBlank e
expr_step (Expr-F.MakeLit e a) = MakeLit e a
expr_step (Expr-F.Lex e) = Lex e
expr_step (Expr-F.IriSafe e) = IriSafe e
expr_step (Expr-F.Concat es) = Concat (exprs es)
expr_step (Expr-F.Same a b) = Same a b
expr_step (Expr-F.IsNull e) = IsNull e
expr_step (Expr-F.Not e) = Not e
expr_step (Expr-F.And es) = And (exprs es)
expr_step (Expr-F.Or es) = Or (exprs es)
expr_step (Expr-F.Coalesce es) = Coalesce (exprs es)
expr_step (Expr-F.Sparql op es) = Sparql op (exprs es)
expr_step (Expr-F.Ebv e) = Ebv e

abbrev pub expr_seen : ExprValue → Expr
expr_seen = fold-Expr Expr expr_step
