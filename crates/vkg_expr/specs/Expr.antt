-- Expressions over a row, as their definitions see them.
use Rattle.std.specs.Prelude.{ℕ, List, [], ◌∷◌}
use Rattle.vkg_terms.specs.declared.term.Annotation.{Annotation}
use Rattle.vkg_cells.specs.declared.cell.Cell.{Cell}
use Rattle.vkg_cells.specs.declared.cell.SqlType.{SqlType}
use Rattle.vkg_expr.specs.declared.expr.Operator.{Operator}

mutual
  pub data Expr : Type 0 where
    Col : (at : ℕ) → Expr
    Const : (c : Cell) (k : SqlType) → Expr
    MakeIri : (e : Expr) → Expr
    IriOf : (base : List ℕ) (e : Expr) → Expr
    MakeBlank : (e : Expr) → Expr
    MakeLit : (e : Expr) (annotation : Annotation) → Expr
    Lex : (e : Expr) → Expr
    IriSafe : (e : Expr) → Expr
    Concat : (es : Exprs) → Expr
    Same : (a b : Expr) → Expr
    IsNull : (e : Expr) → Expr
    Not : (e : Expr) → Expr
    And : (es : Exprs) → Expr
    Or : (es : Exprs) → Expr
    Coalesce : (es : Exprs) → Expr
    Sparql : (op : Operator) (es : Exprs) → Expr
    Ebv : (e : Expr) → Expr

  -- a list of them
  pub data Exprs : Type 0 where
    Nil : Exprs
    More : (e : Expr) (es : Exprs) → Exprs

abbrev pub exprs : List Expr → Exprs
exprs [] = Nil
exprs (e ∷ es) = More e (exprs es)

abbrev pub each : Exprs → List Expr
each Nil = []
each (More e es) = e ∷ each es
