-- A filter's expression as an expression over a row of terms.
use Rattle.std.specs.Prelude.{ℕ, Bool, true, false, List, [], ◌∷◌, Option, Some, None, codes}
use Rattle.vkg_terms.specs.declared.term.Annotation.TheVariants.{Typed}
use Rattle.vkg_terms.specs.Vocabulary.{xsd}
use Rattle.vkg_sparql.specs.Query.{Condition, Variable, Constant, Bound, Test, Take, Compare, SameTerm, Not, And, Or}
use Rattle.vkg_expr.specs.declared.expr.Operator.TheVariants as op
use Rattle.vkg_expr.specs.Expr.{Expr, Same, IsNull, Sparql, Ebv, MakeLit, Lex, exprs}
use Rattle.vkg_expr.specs.Expr as expr
use Rattle.vkg_expr.specs.TermExprs.{term_const}

-- whether an expression gives a truth; else it gives a term
abbrev pub gives_truth : Condition → Bool
gives_truth (Variable v) = false
gives_truth (Constant t) = false
gives_truth (Take f a) = false
gives_truth c = true

-- a term of a truth, and a truth of a term
abbrev pub to_term : Bool → Expr → Expr
to_term true e = MakeLit (Lex e) (Typed (xsd (codes "boolean")))
to_term false e = e

abbrev pub to_truth : Bool → Expr → Expr
to_truth true e = e
to_truth false e = Ebv e

-- over the expression of each variable
abbrev pub expr_of : (ℕ → Expr) → Condition → Expr
expr_of at (Variable v) = at v
expr_of at (Constant t) = term_const t
expr_of at (Bound v) = expr.Not (IsNull (at v))
expr_of at (Test f a) = Sparql (op.Test f) (exprs (to_term (gives_truth a) (expr_of at a) ∷ []))
expr_of at (Take f a) = Sparql (op.Take f) (exprs (to_term (gives_truth a) (expr_of at a) ∷ []))
expr_of at (Compare f a b) = Sparql (op.Compare f) (exprs (to_term (gives_truth a) (expr_of at a) ∷ to_term (gives_truth b) (expr_of at b) ∷ []))
expr_of at (SameTerm a b) = Same (to_term (gives_truth a) (expr_of at a)) (to_term (gives_truth b) (expr_of at b))
expr_of at (Not a) = expr.Not (to_truth (gives_truth a) (expr_of at a))
expr_of at (And a b) = expr.And (exprs (to_truth (gives_truth a) (expr_of at a) ∷ to_truth (gives_truth b) (expr_of at b) ∷ []))
expr_of at (Or a b) = expr.Or (exprs (to_truth (gives_truth a) (expr_of at a) ∷ to_truth (gives_truth b) (expr_of at b) ∷ []))

-- a filter's condition
abbrev pub truth_expr : (ℕ → Expr) → Condition → Expr
truth_expr at c = to_truth (gives_truth c) (expr_of at c)

-- an expression's value, as a term
abbrev pub value_expr : (ℕ → Expr) → Condition → Expr
value_expr at c = to_term (gives_truth c) (expr_of at c)

-- SPARQL 1.1, 18.2.2.6: an OPTIONAL without a filter has no condition
abbrev pub condition_of : (ℕ → Expr) → Option Condition → List Expr
condition_of at None = []
condition_of at (Some c) = truth_expr at c ∷ []
