-- Expressions of SPARQL's operators that are NULL where columns behind the first n are.
use Rattle.std.specs.Prelude.{ℕ, Bool, false, ◌||◌}
use Rattle.vkg_expr.specs.Expr.{Expr, Exprs, Not, Sparql, Ebv, Nil, More}
use Rattle.vkg_moves.specs.Columns.{is_null_behind}

-- it is NULL on each row that has NULLs behind its first n cells. SPARQL 1.1 Query, 17.2: an operator over something unbound is an error, and so are
-- the effective boolean value of it and its negation; an error is NULL
abbrev mutual
  pub is_unknown_behind : ℕ → Expr → Bool
  is_unknown_behind n (Sparql op es) = one_unknown_behind n es
  is_unknown_behind n (Ebv e) = is_unknown_behind n e
  is_unknown_behind n (Not e) = is_unknown_behind n e
  is_unknown_behind n e = is_null_behind n e

  pub one_unknown_behind : ℕ → Exprs → Bool
  one_unknown_behind n Nil = false
  one_unknown_behind n (More e es) = is_unknown_behind n e || one_unknown_behind n es
