-- A list of expressions put in the place of columns: the value, the kind, and where a condition holds.
use Rattle.std.proofs.Common.{◌≡◌, ◌∙◌, ℕ, zero, suc, ◌<◌, List, [], ◌∷◌, length, map, refl, sym, subst, arith}
use Rattle.std.specs.Prelude.{Some, slice_get}
use Rattle.std.specs.List.{filter}
use Rattle.vkg_lists.proofs.Onto.{first_given}
use Rattle.vkg_lists.proofs.Walks.{filter-map}
use Rattle.vkg_cells.specs.declared.cell.SqlType.{SqlType}
use Rattle.vkg_schema.specs.Rows.{Row, cell_at}
use Rattle.vkg_expr.specs.Expr.{Expr, exprs}
use Rattle.vkg_expr.specs.Strict.{put}
use Rattle.vkg_expr.specs.Typing.{kind_of, kinds_of}
use Rattle.vkg_expr.specs.Value.{holds, value_of, values_of}
use Rattle.vkg_columns.proofs.OnColumns.{columns-in_range, on-all, on-weaker}
use Rattle.vkg_columns.proofs.PutIn.{put-holds, put-kind}
use Rattle.vkg_columns.specs.Columns.{KeepsKind, at_place}

place-value : (es : List Expr) (row : Row) (at : ℕ) → value_of (at_place es at) row ≡ cell_at (values_of (exprs es) row) at
place-value [] row at = refl
place-value (e ∷ es) row zero = refl
place-value (e ∷ es) row (suc at) = place-value es row at

-- a condition over the expressions' values
pub put_places-holds : (es : List Expr) (row : Row) (c : Expr) → holds (put (at_place es) c) row ≡ holds c (values_of (exprs es) row)
put_places-holds es row c = put-holds (at_place es) row (values_of (exprs es) row) c (on-all _ (place-value es row) c)

-- a condition above a projection, below it
pub filter-projected : (es : List Expr) (c : Expr) (rows : List Row) → filter (holds c) (map (values_of (exprs es)) rows) ≡ map (values_of (exprs es)) (filter (holds (put (at_place es) c)) rows)
filter-projected es c rows = filter-map (holds c) (values_of (exprs es)) rows ∙ (λ i. map (values_of (exprs es)) (filter (λ row. sym (put_places-holds es row c) i) rows))

-- a place of a typed list has the kind at that place
place-kind : (es : List Expr) (ks ls : List SqlType) → kinds_of (exprs es) ks ≡ Some ls → (at : ℕ) → at < length ls → kind_of (at_place es at) ks ≡ slice_get ls at
place-kind [] ks [] t at h = absurd (omega arith)
place-kind [] ks (l ∷ ls) t at h = cc
place-kind (e ∷ es) ks ls t at h =
    let m = first_given (kind_of e ks) (kinds_of (exprs es) ks) ls t in
    subst (λ z. at < length z → kind_of (at_place (e ∷ es) at) ks ≡ slice_get z at) m.2.2 (step m.0 m.1 m.2.0 (place-kind es ks m.2.0 m.2.1) at) h
  where
    step : (k : SqlType) → kind_of e ks ≡ Some k → (ms : List SqlType) → ((at : ℕ) → at < length ms → kind_of (at_place es at) ks ≡ slice_get ms at) → (at : ℕ) → at < suc (length ms) → kind_of (at_place (e ∷ es) at) ks ≡ slice_get (k ∷ ms) at
    step k i ms j zero h = i
    step k i ms j (suc at) h = j at (omega arith)

-- an expression over the columns of a projection is typed over those below it
pub put_places-kind : (es : List Expr) (ks ls : List SqlType) → kinds_of (exprs es) ks ≡ Some ls → (e : Expr) (k : SqlType) → kind_of e ls ≡ Some k → kind_of (put (at_place es) e) ks ≡ Some k
put_places-kind es ks ls t e k h = put-kind (at_place es) ls ks e k (on-weaker _ (KeepsKind (at_place es) ls ks) (place-kind es ks ls t) e (columns-in_range e ls k h)) h
