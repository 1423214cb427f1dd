-- The columns of an expression, expressions with columns put in or moved, and strict ones.
use Rattle.std.specs.Prelude.{ℕ, ◌+◌, Bool, true, false, ◌&&◌, ◌||◌, not, List, [], ◌∷◌, ◌++◌}
use Rattle.vkg_schema.specs.Rows.{is_null}
use Rattle.vkg_expr.specs.Expr.{Expr, Exprs, Col, Const, MakeIri, IriOf, MakeBlank, MakeLit, Lex, IriSafe, Concat, Same, IsNull, Not, And, Or, Coalesce, Sparql, Ebv, Nil, More}

-- an expression put in the place of each column
abbrev mutual
  pub put : (ℕ → Expr) → Expr → Expr
  put f (Col at) = f at
  put f (Const c k) = Const c k
  put f (MakeIri e) = MakeIri (put f e)
  put f (IriOf base e) = IriOf base (put f e)
  put f (MakeBlank e) = MakeBlank (put f e)
  put f (MakeLit e k) = MakeLit (put f e) k
  put f (Lex e) = Lex (put f e)
  put f (IriSafe e) = IriSafe (put f e)
  put f (Concat es) = Concat (put_each f es)
  put f (Same a b) = Same (put f a) (put f b)
  put f (IsNull e) = IsNull (put f e)
  put f (Not e) = Not (put f e)
  put f (And es) = And (put_each f es)
  put f (Or es) = Or (put_each f es)
  put f (Coalesce es) = Coalesce (put_each f es)
  put f (Sparql op es) = Sparql op (put_each f es)
  put f (Ebv e) = Ebv (put f e)

  pub put_each : (ℕ → Expr) → Exprs → Exprs
  put_each f Nil = Nil
  put_each f (More e es) = More (put f e) (put_each f es)

-- each column moved to the right
abbrev pub moved : ℕ → Expr → Expr
moved n = put (λ at. Col (at + n))

-- the columns, in the order of the text
abbrev mutual
  pub columns : Expr → List ℕ
  columns (Col at) = at ∷ []
  columns (Const c k) = []
  columns (MakeIri e) = columns e
  columns (IriOf base e) = columns e
  columns (MakeBlank e) = columns e
  columns (MakeLit e k) = columns e
  columns (Lex e) = columns e
  columns (IriSafe e) = columns e
  columns (Concat es) = columns_each es
  columns (Same a b) = columns a ++ columns b
  columns (IsNull e) = columns e
  columns (Not e) = columns e
  columns (And es) = columns_each es
  columns (Or es) = columns_each es
  columns (Coalesce es) = columns_each es
  columns (Sparql op es) = columns_each es
  columns (Ebv e) = columns e

  pub columns_each : Exprs → List ℕ
  columns_each Nil = []
  columns_each (More e es) = columns e ++ columns_each es

-- made of forms alone whose value is NULL where that of a part is: columns, constants that are not NULL, and what makes texts and terms of them
abbrev mutual
  pub is_strict : Expr → Bool
  is_strict (Col at) = true
  is_strict (Const c k) = not (is_null c)
  is_strict (MakeIri e) = is_strict e
  is_strict (IriOf base e) = is_strict e
  is_strict (MakeBlank e) = is_strict e
  is_strict (MakeLit e k) = is_strict e
  is_strict (Lex e) = is_strict e
  is_strict (IriSafe e) = is_strict e
  is_strict (Concat es) = are_strict es
  is_strict e = false

  pub are_strict : Exprs → Bool
  are_strict Nil = true
  are_strict (More e es) = is_strict e && are_strict es

-- it names a column
abbrev mutual
  pub names_column : Expr → Bool
  names_column (Col at) = true
  names_column (Const c k) = false
  names_column (MakeIri e) = names_column e
  names_column (IriOf base e) = names_column e
  names_column (MakeBlank e) = names_column e
  names_column (MakeLit e k) = names_column e
  names_column (Lex e) = names_column e
  names_column (IriSafe e) = names_column e
  names_column (Concat es) = any_names_column es
  names_column (Same a b) = names_column a || names_column b
  names_column (IsNull e) = names_column e
  names_column (Not e) = names_column e
  names_column (And es) = any_names_column es
  names_column (Or es) = any_names_column es
  names_column (Coalesce es) = any_names_column es
  names_column (Sparql op es) = any_names_column es
  names_column (Ebv e) = names_column e

  pub any_names_column : Exprs → Bool
  any_names_column Nil = false
  any_names_column (More e es) = names_column e || any_names_column es

-- strict, and it names a column
abbrev pub nulls_on_null : Expr → Bool
nulls_on_null e = is_strict e && names_column e
