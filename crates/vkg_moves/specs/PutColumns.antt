-- A list of expressions put in the place of columns, and columns in their places: values and kinds.
use Rattle.std.proofs.Common.{◌≡◌, ◌∙◌, ℕ, zero, suc, ◌<◌, List, [], ◌∷◌, ◌++◌, append_assoc, length, length-append, map, refl, sym, ap, subst, arith}
use Rattle.std.specs.Prelude.{Some, slice_get}
use Rattle.vkg_lists.proofs.Heads.{slice_get-behind}
use Rattle.vkg_lists.proofs.Onto.{first_given}
use Rattle.vkg_lists.specs.Options.{with_first}
use Rattle.vkg_cells.specs.declared.cell.SqlType.{SqlType}
use Rattle.vkg_schema.proofs.RowCells.{cell_at-right}
use Rattle.vkg_schema.specs.Rows.{Row, cell_at}
use Rattle.vkg_expr.specs.Expr.{Expr, exprs}
use Rattle.vkg_expr.specs.Strict.{put}
use Rattle.vkg_expr.specs.Typing.{kind_of, kinds_of}
use Rattle.vkg_expr.specs.Value.{value_of, values_of}
use Rattle.vkg_columns.specs.Columns.{Gives, KeepsKind, at_place, columns_from}
use Rattle.vkg_columns.proofs.OnColumns.{each-in_range, on_each-all, on_each-weaker}
use Rattle.vkg_columns.proofs.PutIn.{put_each-exprs, put_each-kinds, put_each-values}
use Rattle.vkg_plan.specs.Kinds.{Kinds}
use Rattle.vkg_plan.specs.Laws.{HaveKinds}
use Rattle.vkg_shapes.specs.PartsLaw.{wide}

-- ---- expressions over those of a projection

place-value : (es : List Expr) (row : Row) (at : ℕ) → value_of (at_place es at) row ≡ cell_at (values_of (exprs es) row) at
place-value [] row at = refl
place-value (e ∷ es) row zero = refl
place-value (e ∷ es) row (suc at) = place-value es row at

merged-values : (es fs : List Expr) (row : Row) → values_of (exprs (map (put (at_place es)) fs)) row ≡ values_of (exprs fs) (values_of (exprs es) row)
merged-values es fs row =
    ap (λ gs. values_of gs row) (sym (put_each-exprs (at_place es) fs))
    ∙ put_each-values (at_place es) row (values_of (exprs es) row) (exprs fs) (on_each-all (Gives (at_place es) row (values_of (exprs es) row)) (place-value es row) (exprs fs))

-- two projections are one
pub merged-rows : (es fs : List Expr) (rows : List Row) → map (values_of (exprs fs)) (map (values_of (exprs es)) rows) ≡ map (values_of (exprs (map (put (at_place es)) fs))) rows
merged-rows es fs [] = refl
merged-rows es fs (row ∷ rows) = λ i. sym (merged-values es fs row) i ∷ merged-rows es fs rows i

place-kind : (es : List Expr) (ks ls : Kinds) → kinds_of (exprs es) ks ≡ Some ls → (at : ℕ) → at < length ls → kind_of (at_place es at) ks ≡ slice_get ls at
place-kind [] ks [] t at h = absurd (omega arith)
place-kind [] ks (l ∷ ls) t at h = cc
place-kind (e ∷ es) ks ls t at h =
    let m = first_given (kind_of e ks) (kinds_of (exprs es) ks) ls t in
    subst (λ z. at < length z → kind_of (at_place (e ∷ es) at) ks ≡ slice_get z at) m.2.2 (step m.0 m.1 m.2.0 (place-kind es ks m.2.0 m.2.1) at) h
  where
    step : (k : SqlType) → kind_of e ks ≡ Some k → (ms : Kinds) → ((at : ℕ) → at < length ms → kind_of (at_place es at) ks ≡ slice_get ms at) →
        (at : ℕ) → at < suc (length ms) → kind_of (at_place (e ∷ es) at) ks ≡ slice_get (k ∷ ms) at
    step k i ms j zero h = i
    step k i ms j (suc at) h = j at (omega arith)

pub merged-kinds : (es fs : List Expr) (ks ls ms : Kinds) → kinds_of (exprs es) ks ≡ Some ls → kinds_of (exprs fs) ls ≡ Some ms → kinds_of (exprs (map (put (at_place es)) fs)) ks ≡ Some ms
merged-kinds es fs ks ls ms t h =
    ap (λ gs. kinds_of gs ks) (sym (put_each-exprs (at_place es) fs))
    ∙ put_each-kinds (at_place es) ls ks (exprs fs) ms (on_each-weaker (λ at. at < length ls) (KeepsKind (at_place es) ls ks) (place-kind es ks ls t) (exprs fs) (each-in_range (exprs fs) ls ms h)) h

-- ---- all columns in place

columns-value : (l m : Row) (n : ℕ) → length l ≡ n → values_of (exprs (columns_from n (length m))) (l ++ m) ≡ m
columns-value l [] n h = refl
columns-value l (c ∷ m) n h =
    let first : cell_at (l ++ (c ∷ m)) n ≡ c = cell_at-right l (c ∷ m) n 0 (omega (arith, h)) in
    let moved = append_assoc l (c ∷ []) m in
    let len = length-append l (c ∷ []) in
    let rest = columns-value (l ++ (c ∷ [])) m (suc n) (omega (arith, len, h)) in
    λ i. first i ∷ (ap (λ z. values_of (exprs (columns_from (suc n) (length m))) z) (sym moved) ∙ rest) i

pub columns-rows : (ks : Kinds) (rows : List Row) → HaveKinds ks rows → map (values_of (exprs (columns_from 0 (length ks)))) rows ≡ rows
columns-rows ks [] h = refl
columns-rows ks (row ∷ rows) h =
    let here = ap (λ n. values_of (exprs (columns_from 0 n)) row) (wide ks row h.0) ∙ columns-value [] row 0 refl in
    λ i. here i ∷ columns-rows ks rows h.1 i

columns-kinds : (before ks : Kinds) (n : ℕ) → length before ≡ n → kinds_of (exprs (columns_from n (length ks))) (before ++ ks) ≡ Some ks
columns-kinds before [] n h = refl
columns-kinds before (k ∷ ks) n h =
    let first : slice_get (before ++ (k ∷ ks)) n ≡ Some k = slice_get-behind before (k ∷ ks) n 0 (omega (arith, h)) in
    let moved = append_assoc before (k ∷ []) ks in
    let len = length-append before (k ∷ []) in
    let rest = columns-kinds (before ++ (k ∷ [])) ks (suc n) (omega (arith, len, h)) in
    λ i. with_first (first i) ((ap (kinds_of (exprs (columns_from (suc n) (length ks)))) (sym moved) ∙ rest) i)

pub all-kinds : (ks : Kinds) → kinds_of (exprs (columns_from 0 (length ks))) ks ≡ Some ks
all-kinds ks = columns-kinds [] ks 0 refl
