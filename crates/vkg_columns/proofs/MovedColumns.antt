-- Columns moved to the right, and expressions on rows with others beside them.
use Rattle.std.proofs.Common.{◌≡◌, ◌∙◌, ℕ, zero, suc, ◌+◌, ◌<◌, List, [], ◌∷◌, ◌++◌, length, refl, sym, ap, subst, arith}
use Rattle.std.specs.Prelude.{Some, slice_get}
use Rattle.vkg_lists.proofs.Heads.{slice_get-behind}
use Rattle.vkg_cells.specs.declared.cell.SqlType.{SqlType}
use Rattle.vkg_schema.specs.Rows.{Row, cell_at, is_known_true}
use Rattle.vkg_schema.proofs.RowCells.{cell_at-left, cell_at-right}
use Rattle.vkg_expr.specs.Expr.{Expr, Exprs, Col, Const, MakeIri, IriOf, MakeBlank, MakeLit, Lex, IriSafe, Concat, Same, IsNull, Not, And, Or, Coalesce, Sparql, Ebv, Nil, More}
use Rattle.vkg_expr.specs.Strict.{moved, put, put_each}
use Rattle.vkg_expr.specs.Typing.{kind_of}
use Rattle.vkg_expr.specs.Value.{holds, truth_of, value_of}
use Rattle.vkg_columns.specs.Columns.{IsWithin, KeepsKind, OnColumns, at_place, columns_from}
use Rattle.vkg_columns.proofs.OnColumns.{columns-in_range, on-all, on-weaker}
use Rattle.vkg_columns.proofs.PutIn.{put-kind, put-same, put-value}

-- ---- the left columns alone

mutual
  pub put-itself : (e : Expr) → put (λ at. Col at) e ≡ e
  put-itself (Col at) = refl
  put-itself (Const c k) = refl
  put-itself (MakeIri e) = ap MakeIri (put-itself e)
  put-itself (IriOf base e) = ap (λ x. IriOf base x) (put-itself e)
  put-itself (MakeBlank e) = ap MakeBlank (put-itself e)
  put-itself (MakeLit e l) = ap (λ x. MakeLit x l) (put-itself e)
  put-itself (Lex e) = ap Lex (put-itself e)
  put-itself (IriSafe e) = ap IriSafe (put-itself e)
  put-itself (IsNull e) = ap IsNull (put-itself e)
  put-itself (Not e) = ap Not (put-itself e)
  put-itself (Ebv e) = ap Ebv (put-itself e)
  put-itself (Same a b) = λ i. Same (put-itself a i) (put-itself b i)
  put-itself (Concat es) = ap Concat (put_each-itself es)
  put-itself (And es) = ap And (put_each-itself es)
  put-itself (Or es) = ap Or (put_each-itself es)
  put-itself (Coalesce es) = ap Coalesce (put_each-itself es)
  put-itself (Sparql op es) = ap (λ x. Sparql op x) (put_each-itself es)

  pub put_each-itself : (es : Exprs) → put_each (λ at. Col at) es ≡ es
  put_each-itself Nil = refl
  put_each-itself (More e es) = λ i. More (put-itself e i) (put_each-itself es i)

-- an expression whose columns have the same cells in two rows has one value on both
pub value-same : (row other : Row) (e : Expr) → OnColumns (λ at. cell_at row at ≡ cell_at other at) e → value_of e row ≡ value_of e other
value-same row other e h = ap (λ x. value_of x row) (sym (put-itself e)) ∙ put-value (λ at. Col at) row other e h

-- an expression over the left columns has the left row's value
pub left-value : (l r : Row) (n : ℕ) (e : Expr) → length l ≡ n → IsWithin n e → value_of e (l ++ r) ≡ value_of e l
left-value l r n e w h = value-same (l ++ r) l e (on-weaker _ (λ at. cell_at (l ++ r) at ≡ cell_at l at) (λ at b. cell_at-left l r at (subst (λ m. at < m) (sym w) b)) e h)

pub left-holds : (l r : Row) (n : ℕ) (c : Expr) → length l ≡ n → IsWithin n c → holds c (l ++ r) ≡ holds c l
left-holds l r n c w h = ap (λ v. is_known_true (truth_of v)) (left-value l r n c w h)

-- ---- moved behind n cells

pub moved-behind : (l r : Row) (n : ℕ) (e : Expr) → length l ≡ n → value_of (moved n e) (l ++ r) ≡ value_of e r
moved-behind l r n e w = put-value (λ at. Col (at + n)) (l ++ r) r e (on-all _ (λ at. cell_at-right l r (at + n) at (omega (arith, w))) e)

pub moved_behind-holds : (l r : Row) (n : ℕ) (c : Expr) → length l ≡ n → holds (moved n c) (l ++ r) ≡ holds c r
moved_behind-holds l r n c w = ap (λ v. is_known_true (truth_of v)) (moved-behind l r n c w)

-- moved is what columns from n on put in
column-at : (n w at : ℕ) → at < w → at_place (columns_from n w) at ≡ Col (at + n)
column-at n zero at h = absurd (omega arith)
column-at n (suc w) zero h = ap (λ m. Col m) (omega arith)
column-at n (suc w) (suc at) h = column-at (suc n) w at (omega arith) ∙ ap (λ m. Col m) (omega arith)

pub moved-put : (n w : ℕ) (e : Expr) → IsWithin w e → put (at_place (columns_from n w)) e ≡ moved n e
moved-put n w e h = put-same (at_place (columns_from n w)) (λ at. Col (at + n)) e (on-weaker _ (λ at. at_place (columns_from n w) at ≡ Col (at + n)) (column-at n w) e h)

-- ---- kinds

kind_at-left : (ks ls : List SqlType) (at : ℕ) → at < length ks → slice_get (ks ++ ls) at ≡ slice_get ks at
kind_at-left [] ls at h = absurd (omega arith)
kind_at-left (k ∷ ks) ls zero h = refl
kind_at-left (k ∷ ks) ls (suc at) h = kind_at-left ks ls at (omega arith)

pub moved-kind : (before ks after : List SqlType) (n : ℕ) (e : Expr) (k : SqlType) → length before ≡ n → kind_of e ks ≡ Some k → kind_of (moved n e) (before ++ (ks ++ after)) ≡ Some k
moved-kind before ks after n e k w h =
    put-kind (λ at. Col (at + n)) ks (before ++ (ks ++ after)) e k
    (on-weaker _ (KeepsKind (λ at. Col (at + n)) ks (before ++ (ks ++ after)))
    (λ at b. slice_get-behind before (ks ++ after) (at + n) at (omega (arith, w)) ∙ kind_at-left ks after at b) e (columns-in_range e ks k h)) h
