-- The kind of an expression over columns of some kinds; none where it is ill typed.
use Rattle.std.specs.Prelude.{ℕ, Bool, true, false, ◌&&◌, not, List, [], ◌∷◌, length, slice_get, Option, Some, None, option_map, ◌==◌}
use Rattle.std.specs.Bool.{then_some}
use Rattle.std.specs.List.{list_all}
use Rattle.vkg_lists.specs.Options.{with_first}
use Rattle.vkg_cells.specs.declared.cell.Cell.{Cell}
use Rattle.vkg_cells.specs.declared.cell.Cell.TheVariants as cell
use Rattle.vkg_cells.specs.declared.cell.SqlType.{SqlType}
use Rattle.vkg_cells.specs.declared.cell.SqlType.TheVariants as kind
use Rattle.vkg_cells.specs.Order.{family}
use Rattle.vkg_expr.specs.declared.expr.Operator.{Operator}
use Rattle.vkg_expr.specs.declared.expr.Operator.TheVariants.{Test, Take, Compare}
use Rattle.vkg_expr.specs.Expr.{Expr, Exprs, Col, Const, MakeIri, IriOf, MakeBlank, MakeLit, Lex, IriSafe, Concat, Same, IsNull, Not, And, Or, Coalesce, Sparql, Ebv, Nil, More, each}

-- the kinds, numbered
abbrev pub kind_number : SqlType → ℕ
kind_number kind.Text = 0
kind_number kind.Int = 1
kind_number kind.Dec = 2
kind_number kind.Bool = 3
kind_number kind.Date = 4
kind_number kind.Stamp = 5
kind_number kind.Bin = 6
kind_number kind.Time = 7
kind_number kind.Term = 8

abbrev pub same_kind : SqlType → SqlType → Bool
same_kind k l = kind_number k == kind_number l

abbrev pub same_family : SqlType → SqlType → Bool
same_family k l = family k == family l

-- NULL, or a cell of the kind
abbrev pub fits : SqlType → Cell → Bool
fits k cell.Null = true
fits kind.Text (cell.Text text) = true
fits kind.Int (cell.Int text) = true
fits kind.Dec (cell.Dec text) = true
fits kind.Bool (cell.Bool b) = true
fits kind.Date (cell.Date text) = true
fits kind.Stamp (cell.Stamp text) = true
fits kind.Bin (cell.Bin text) = true
fits kind.Time (cell.Time text) = true
fits kind.Term (cell.Term term) = true
fits k c = false

-- a kind, where the parts are as they should be

-- there is a kind and it is this one
abbrev pub is_one : SqlType → Option SqlType → Bool
is_one k None = false
is_one k (Some l) = same_kind k l

-- there are kinds and each is this one
abbrev pub are_all : SqlType → Option (List SqlType) → Bool
are_all k None = false
are_all k (Some ks) = list_all (same_kind k) ks

-- a lexical form is that of any kind but a term
abbrev pub lexical_kind : Option SqlType → Option SqlType
lexical_kind None = None
lexical_kind (Some k) = then_some (not (same_kind kind.Term k)) kind.Text

-- SQL-92, 8.2: the two values are comparable
abbrev pub equality_kind : Option SqlType → Option SqlType → Option SqlType
equality_kind (Some k) (Some l) = then_some (same_family k l) kind.Bool
equality_kind k l = None

-- one or more of one kind
abbrev pub common : Option (List SqlType) → Option SqlType
common (Some (k ∷ ks)) = then_some (list_all (same_kind k) ks) k
common ks = None

-- how many terms an operator takes, and what it gives
abbrev pub arity : Operator → ℕ
arity (Test op) = 1
arity (Take op) = 1
arity (Compare op) = 2

abbrev pub result_kind : Operator → SqlType
result_kind (Test op) = kind.Bool
result_kind (Take op) = kind.Term
result_kind (Compare op) = kind.Bool

abbrev pub is_column : Expr → Bool
is_column (Col at) = true
is_column e = false

abbrev pub no_column : Exprs → Bool
no_column Nil = true
no_column (More e es) = not (is_column e) && no_column es

abbrev mutual
  pub kind_of : Expr → List SqlType → Option SqlType
  kind_of (Col at) ks = slice_get ks at
  kind_of (Const c k) ks = then_some (fits k c) k
  kind_of (MakeIri e) ks = then_some (is_one kind.Text (kind_of e ks)) kind.Term
  kind_of (IriOf base e) ks = then_some (is_one kind.Text (kind_of e ks)) kind.Text
  kind_of (MakeBlank e) ks = then_some (is_one kind.Text (kind_of e ks)) kind.Term
  kind_of (MakeLit e annotation) ks = then_some (is_one kind.Text (kind_of e ks)) kind.Term
  kind_of (Lex e) ks = lexical_kind (kind_of e ks)
  kind_of (IriSafe e) ks = then_some (is_one kind.Text (kind_of e ks)) kind.Text
  kind_of (Concat es) ks = then_some (no_column es && are_all kind.Text (kinds_of es ks)) kind.Text
  kind_of (Same a b) ks = equality_kind (kind_of a ks) (kind_of b ks)
  kind_of (IsNull e) ks = option_map (λ k. kind.Bool) (kind_of e ks)
  kind_of (Not e) ks = then_some (is_one kind.Bool (kind_of e ks)) kind.Bool
  kind_of (And es) ks = then_some (are_all kind.Bool (kinds_of es ks)) kind.Bool
  kind_of (Or es) ks = then_some (are_all kind.Bool (kinds_of es ks)) kind.Bool
  kind_of (Coalesce es) ks = common (kinds_of es ks)
  kind_of (Sparql op es) ks = then_some ((length (each es) == arity op) && are_all kind.Term (kinds_of es ks)) (result_kind op)
  kind_of (Ebv e) ks = then_some (is_one kind.Term (kind_of e ks)) kind.Bool

  pub kinds_of : Exprs → List SqlType → Option (List SqlType)
  kinds_of Nil ks = Some []
  kinds_of (More e es) ks = with_first (kind_of e ks) (kinds_of es ks)
