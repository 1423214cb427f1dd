-- What is true of each column that an expression names, and expressions in the place of columns.
use Rattle.std.specs.Prelude.{ℕ, zero, suc, ◌<◌, List, [], ◌∷◌, ◌≡◌, slice_get, unwrap_or}
use Rattle.vkg_cells.specs.declared.cell.Cell.TheVariants as cell
use Rattle.vkg_cells.specs.declared.cell.SqlType.{SqlType}
use Rattle.vkg_cells.specs.declared.cell.SqlType.TheVariants as kind
use Rattle.vkg_schema.specs.Rows.{Row, cell_at}
use Rattle.vkg_expr.specs.Expr.{Expr, Exprs, Col, Const, MakeIri, IriOf, MakeBlank, MakeLit, Lex, IriSafe, Concat, Same, IsNull, Not, And, Or, Coalesce, Sparql, Ebv, Nil, More}
use Rattle.vkg_expr.specs.Typing.{kind_of}
use Rattle.vkg_expr.specs.Value.{value_of}

-- P is true of each column that the expression names
abbrev mutual
  pub OnColumns : (ℕ → Type 0) → Expr → Type 0
  OnColumns P (Col at) = P at
  OnColumns P (Const c k) = Unit {0}
  OnColumns P (MakeIri e) = OnColumns P e
  OnColumns P (IriOf base e) = OnColumns P e
  OnColumns P (MakeBlank e) = OnColumns P e
  OnColumns P (MakeLit e k) = OnColumns P e
  OnColumns P (Lex e) = OnColumns P e
  OnColumns P (IriSafe e) = OnColumns P e
  OnColumns P (Concat es) = OnEach P es
  OnColumns P (Same a b) = OnColumns P a × OnColumns P b
  OnColumns P (IsNull e) = OnColumns P e
  OnColumns P (Not e) = OnColumns P e
  OnColumns P (And es) = OnEach P es
  OnColumns P (Or es) = OnEach P es
  OnColumns P (Coalesce es) = OnEach P es
  OnColumns P (Sparql op es) = OnEach P es
  OnColumns P (Ebv e) = OnColumns P e

  pub OnEach : (ℕ → Type 0) → Exprs → Type 0
  OnEach P Nil = Unit {0}
  OnEach P (More e es) = OnColumns P e × OnEach P es

-- each column is one of the first n
abbrev pub IsWithin : ℕ → Expr → Type 0
IsWithin n = OnColumns (λ at. at < n)

-- what is put in for a column has on one row the column's value on the other
abbrev pub Gives : (ℕ → Expr) → Row → Row → ℕ → Type 0
Gives by row other at = value_of (by at) row ≡ cell_at other at

-- and over one list of kinds the column's kind over the other
abbrev pub KeepsKind : (ℕ → Expr) → List SqlType → List SqlType → ℕ → Type 0
KeepsKind by ks ls at = kind_of (by at) ls ≡ slice_get ks at

-- the expression at a place of a list, and NULL past its end
abbrev pub at_place : List Expr → ℕ → Expr
at_place es at = unwrap_or (slice_get es at) (Const cell.Null kind.Text)

-- n columns from one on
abbrev pub columns_from : ℕ → ℕ → List Expr
columns_from at zero = []
columns_from at (suc n) = Col at ∷ columns_from (suc at) n
