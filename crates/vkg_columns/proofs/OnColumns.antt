-- What is true of each column that an expression names.
use Rattle.std.proofs.Common.{◌≡◌, ℕ, ◌<◌, ◌&&◌, List, length}
use Rattle.std.specs.Prelude.{Some}
use Rattle.std.proofs.lemmas.Option.{slice_get_within}
use Rattle.vkg_lists.proofs.Bools.{and_parts}
use Rattle.vkg_lists.proofs.Onto.{first_given, map_given}
use Rattle.vkg_lists.proofs.Results.{then_given}
use Rattle.vkg_cells.specs.declared.cell.SqlType.{SqlType}
use Rattle.vkg_cells.specs.declared.cell.SqlType.TheVariants as kind
use Rattle.vkg_expr.specs.Expr.{Expr, Exprs, Col, Const, MakeIri, IriOf, MakeBlank, MakeLit, Lex, IriSafe, Concat, Same, IsNull, Not, And, Or, Coalesce, Sparql, Ebv, Nil, More}
use Rattle.vkg_expr.specs.Typing.{are_all, is_one, kind_of, kinds_of, no_column, result_kind}
use Rattle.vkg_expr.proofs.TypedParts.{all_is, equality_given, lexical_given, one_is}
use Rattle.vkg_expr.proofs.ValueFits.{common_given}
use Rattle.vkg_columns.specs.Columns.{OnColumns, OnEach, IsWithin}

mutual
  pub on-weaker : (P Q : ℕ → Type 0) → ((at : ℕ) → P at → Q at) → (e : Expr) → OnColumns P e → OnColumns Q e
  on-weaker P Q f (Col at) h = f at h
  on-weaker P Q f (Const c k) h = tt
  on-weaker P Q f (MakeIri e) h = on-weaker P Q f e h
  on-weaker P Q f (IriOf base e) h = on-weaker P Q f e h
  on-weaker P Q f (MakeBlank e) h = on-weaker P Q f e h
  on-weaker P Q f (MakeLit e l) h = on-weaker P Q f e h
  on-weaker P Q f (Lex e) h = on-weaker P Q f e h
  on-weaker P Q f (IriSafe e) h = on-weaker P Q f e h
  on-weaker P Q f (IsNull e) h = on-weaker P Q f e h
  on-weaker P Q f (Not e) h = on-weaker P Q f e h
  on-weaker P Q f (Ebv e) h = on-weaker P Q f e h
  on-weaker P Q f (Same a b) h = (on-weaker P Q f a h.0, on-weaker P Q f b h.1)
  on-weaker P Q f (Concat es) h = on_each-weaker P Q f es h
  on-weaker P Q f (And es) h = on_each-weaker P Q f es h
  on-weaker P Q f (Or es) h = on_each-weaker P Q f es h
  on-weaker P Q f (Coalesce es) h = on_each-weaker P Q f es h
  on-weaker P Q f (Sparql op es) h = on_each-weaker P Q f es h

  pub on_each-weaker : (P Q : ℕ → Type 0) → ((at : ℕ) → P at → Q at) → (es : Exprs) → OnEach P es → OnEach Q es
  on_each-weaker P Q f Nil h = tt
  on_each-weaker P Q f (More e es) h = (on-weaker P Q f e h.0, on_each-weaker P Q f es h.1)

mutual
  pub on-all : (P : ℕ → Type 0) → ((at : ℕ) → P at) → (e : Expr) → OnColumns P e
  on-all P f (Col at) = f at
  on-all P f (Const c k) = tt
  on-all P f (MakeIri e) = on-all P f e
  on-all P f (IriOf base e) = on-all P f e
  on-all P f (MakeBlank e) = on-all P f e
  on-all P f (MakeLit e l) = on-all P f e
  on-all P f (Lex e) = on-all P f e
  on-all P f (IriSafe e) = on-all P f e
  on-all P f (IsNull e) = on-all P f e
  on-all P f (Not e) = on-all P f e
  on-all P f (Ebv e) = on-all P f e
  on-all P f (Same a b) = (on-all P f a, on-all P f b)
  on-all P f (Concat es) = on_each-all P f es
  on-all P f (And es) = on_each-all P f es
  on-all P f (Or es) = on_each-all P f es
  on-all P f (Coalesce es) = on_each-all P f es
  on-all P f (Sparql op es) = on_each-all P f es

  pub on_each-all : (P : ℕ → Type 0) → ((at : ℕ) → P at) → (es : Exprs) → OnEach P es
  on_each-all P f Nil = tt
  on_each-all P f (More e es) = (on-all P f e, on_each-all P f es)

-- the columns of a typed expression are in range
mutual
  pub columns-in_range : (e : Expr) (ks : List SqlType) (k : SqlType) → kind_of e ks ≡ Some k → IsWithin (length ks) e
  columns-in_range (Col at) ks k h = slice_get_within ks at k h
  columns-in_range (Const c l) ks k h = tt
  columns-in_range (MakeIri e) ks k h = columns-in_range e ks kind.Text (one_is kind.Text (kind_of e ks) (then_given (is_one kind.Text (kind_of e ks)) kind.Term k h).0)
  columns-in_range (IriOf base e) ks k h = columns-in_range e ks kind.Text (one_is kind.Text (kind_of e ks) (then_given (is_one kind.Text (kind_of e ks)) kind.Text k h).0)
  columns-in_range (MakeBlank e) ks k h = columns-in_range e ks kind.Text (one_is kind.Text (kind_of e ks) (then_given (is_one kind.Text (kind_of e ks)) kind.Term k h).0)
  columns-in_range (MakeLit e l) ks k h = columns-in_range e ks kind.Text (one_is kind.Text (kind_of e ks) (then_given (is_one kind.Text (kind_of e ks)) kind.Term k h).0)
  columns-in_range (Lex e) ks k h = let m = lexical_given (kind_of e ks) k h in columns-in_range e ks m.0 m.1
  columns-in_range (IriSafe e) ks k h = columns-in_range e ks kind.Text (one_is kind.Text (kind_of e ks) (then_given (is_one kind.Text (kind_of e ks)) kind.Text k h).0)
  columns-in_range (IsNull e) ks k h = let m = map_given (λ k. kind.Bool) (kind_of e ks) k h in columns-in_range e ks m.0 m.1
  columns-in_range (Not e) ks k h = columns-in_range e ks kind.Bool (one_is kind.Bool (kind_of e ks) (then_given (is_one kind.Bool (kind_of e ks)) kind.Bool k h).0)
  columns-in_range (Ebv e) ks k h = columns-in_range e ks kind.Term (one_is kind.Term (kind_of e ks) (then_given (is_one kind.Term (kind_of e ks)) kind.Bool k h).0)
  columns-in_range (Same a b) ks k h = let m = equality_given (kind_of a ks) (kind_of b ks) k h in (columns-in_range a ks m.0.0 m.0.1, columns-in_range b ks m.1.0 m.1.1)
  columns-in_range (Concat es) ks k h = let a = all_is kind.Text (kinds_of es ks) (and_parts _ _ (then_given (no_column es && are_all kind.Text (kinds_of es ks)) kind.Text k h).0).1 in each-in_range es ks a.0 a.1
  columns-in_range (And es) ks k h = let a = all_is kind.Bool (kinds_of es ks) (then_given (are_all kind.Bool (kinds_of es ks)) kind.Bool k h).0 in each-in_range es ks a.0 a.1
  columns-in_range (Or es) ks k h = let a = all_is kind.Bool (kinds_of es ks) (then_given (are_all kind.Bool (kinds_of es ks)) kind.Bool k h).0 in each-in_range es ks a.0 a.1
  columns-in_range (Coalesce es) ks k h = let m = common_given (kinds_of es ks) k h in each-in_range es ks m.0 m.1
  columns-in_range (Sparql op es) ks k h = let a = all_is kind.Term (kinds_of es ks) (and_parts _ _ (then_given _ (result_kind op) k h).0).1 in each-in_range es ks a.0 a.1

  pub each-in_range : (es : Exprs) (ks ls : List SqlType) → kinds_of es ks ≡ Some ls → OnEach (λ at. at < length ks) es
  each-in_range Nil ks ls h = tt
  each-in_range (More e es) ks ls h = let m = first_given (kind_of e ks) (kinds_of es ks) ls h in (columns-in_range e ks m.0 m.1, each-in_range es ks m.2.0 m.2.1)
