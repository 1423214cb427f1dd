-- Reading rows: cells of terms, a variable's cell, the columns of a Project and of two rows joined.
use Rattle.std.proofs.Common.{◌≡◌, ℕ, zero, suc, ◌+◌, ◌<◌, ◌≤◌, ⊎_elim, Bool, true, false, List, [], ◌∷◌, ◌++◌, map, length, refl, sym, ap, ◌∙◌, arith, true≢false}
use Rattle.std.specs.Prelude.{Option, Some, None, ◌&&◌, ◌||◌, nat_eq, replicate, filter, if◌then◌else◌, slice_set, cond, not}
use Rattle.std.specs.Option.{option_or}
use Rattle.std.specs.List.{range_with_len, position_or_len}
use Rattle.std.proofs.lemmas.Bool.{eqb-true, cases_lt}
use Rattle.std.proofs.lemmas.List.Folds.{list_any-append}
use Rattle.std.proofs.lemmas.Map.Made.{is_member-filter}
use Rattle.std.proofs.lemmas.Option.{unwrap_or-slice_get}
use Rattle.vkg_lists.proofs.Tests.{nat_test}
use Rattle.vkg_lists.proofs.Counts.{eq_itself, eq_other}
use Rattle.vkg_lists.proofs.Texts.{IsEquivalence-test}
use Rattle.vkg_lists.proofs.Distinct.{any_of-distinct}
use Rattle.vkg_lists.proofs.Heads.{replicate_same}
use Rattle.vkg_lists.proofs.Onto.{or_none}
use Rattle.vkg_terms.specs.declared.term.Term.{Term}
use Rattle.vkg_cells.specs.declared.cell.Cell.{Cell}
use Rattle.vkg_cells.specs.declared.cell.Cell.TheVariants as cell
use Rattle.vkg_schema.specs.Rows.{Row, cell_at}
use Rattle.vkg_schema.proofs.RowCells.{cell_at-left, cell_at-right}
use Rattle.vkg_algebra.specs.Solutions.{merge, lookup}
use Rattle.vkg_algebra.specs.Visible.{each_once, has}
use Rattle.vkg_expr.specs.Expr.{Expr, Coalesce, exprs}
use Rattle.vkg_expr.specs.Value.{value_of, term_of, term_cell, coalesced}
use Rattle.vkg_expr.proofs.ReadBack.{term_back}
use Rattle.vkg_unfolded.specs.Unfolded.{merged, left_column, right_column, visible_column, null_term, columns_in}
use Rattle.vkg_unfolded.specs.declared.mode.Mode.{Mode}
use Rattle.vkg_unfolded.specs.StandsFor.{term_in, solution_of}
use Rattle.vkg_unfolded.specs.FineRows.{IsNarrow}
use Rattle.vkg_unfolded.proofs.AlgebraColumns.{has_place}
use Rattle.vkg_answers.proofs.Joins.{merge-map}

-- a cell that is NULL, or a term that is no number of too many digits
abbrev pub IsTermCell : Cell → Type 0
IsTermCell c = (c ≡ term_cell (term_of c)) × IsNarrow (term_of c)

pub is_term_cell : (c : Cell) (o : Option Term) → c ≡ term_cell o → IsNarrow o → IsTermCell c
is_term_cell c None e h = Prim.rw e (refl, tt)
is_term_cell c (Some t) e h = Prim.rw e (refl, h)

-- ---- cells of rows

pub cell_at-nulls : (n k : ℕ) → cell_at (replicate n cell.Null) k ≡ cell.Null
cell_at-nulls n k = unwrap_or-slice_get (replicate n cell.Null) k cell.Null ∙ replicate_same n k cell.Null

-- ---- places of variables

pub read_place : (g : ℕ → Cell) (vs : List ℕ) (rest : Row) (v : ℕ) → has vs v ≡ true → cell_at (map g vs ++ rest) (position_or_len (nat_eq v) vs) ≡ g v
read_place g [] rest v h = absurd (true≢false (sym h))
read_place g (w ∷ vs) rest v h = of (λ k. read_place g vs rest v k) (nat_eq v w) refl h
  where
    of : (has vs v ≡ true → cell_at (map g vs ++ rest) (position_or_len (nat_eq v) vs) ≡ g v) → (x : Bool) → nat_eq v w ≡ x → (x || has vs v) ≡ true → cell_at (g w ∷ (map g vs ++ rest)) (cond (not x) (1 + position_or_len (nat_eq v) vs) 0) ≡ g v
    of more true e k = Prim.rw (eqb-true v w e) refl
    of more false e k = ap (cell_at (g w ∷ (map g vs ++ rest))) (let next : 1 + position_or_len (nat_eq v) vs ≡ suc (position_or_len (nat_eq v) vs) = omega arith in next) ∙ more k

-- ---- has

pub has-filter : (p : ℕ → Bool) (vs : List ℕ) (v : ℕ) → has (filter p vs) v ≡ (has vs v && p v)
has-filter p vs v = is_member-filter (IsEquivalence-test nat_test) p v (λ w e. ap p (eqb-true v w e)) vs

pub has-each_once : (vs : List ℕ) (v : ℕ) → has (each_once vs) v ≡ has vs v
has-each_once vs v = any_of-distinct nat_test vs v

pub has_union : (vs ws : List ℕ) (v : ℕ) → has (each_once (vs ++ ws)) v ≡ (has vs v || has ws v)
has_union vs ws v = has-each_once (vs ++ ws) v ∙ list_any-append (nat_eq v) vs ws

-- ---- a variable's cell

abbrev pub read : List ℕ → Row → ℕ → Cell
read vs row v = value_of (visible_column vs v) row

pub read_there : (vs : List ℕ) (row : Row) (v : ℕ) → has vs v ≡ true → read vs row v ≡ cell_at row (position_or_len (nat_eq v) vs)
read_there vs row v h = Prim.rw h refl

pub read_none : (vs : List ℕ) (row : Row) (v : ℕ) → has vs v ≡ false → read vs row v ≡ cell.Null
read_none vs row v h = Prim.rw h refl

-- a row of terms
abbrev pub AreTermCells : Row → Type 0
AreTermCells row = (at : ℕ) → IsTermCell (cell_at row at)

pub read_typed : (vs : List ℕ) (row : Row) → AreTermCells row → (v : ℕ) → IsTermCell (read vs row v)
read_typed vs row h v = of (has vs v)
  where
    of : (b : Bool) → IsTermCell (value_of (if b then left_column vs v else null_term) row)
    of true = h (position_or_len (nat_eq v) vs)
    of false = (refl, tt)

-- the row of a Project of f of each variable, and then more
pub read_project : (f : ℕ → Expr) (es : List Expr) (vs : List ℕ) (row : Row) (v : ℕ) →
    read vs (map (λ e. value_of e row) (map f vs ++ es)) v ≡ (if has vs v then value_of (f v) row else cell.Null)
read_project f es vs row v = of (has vs v) refl
  where
    shape : (us : List ℕ) → map (λ e. value_of e row) (map f us ++ es) ≡ map (λ w. value_of (f w) row) us ++ map (λ e. value_of e row) es
    shape [] = refl
    shape (u ∷ us) = ap (λ cs. value_of (f u) row ∷ cs) (shape us)

    of : (b : Bool) → has vs v ≡ b → value_of (if b then left_column vs v else null_term) (map (λ e. value_of e row) (map f vs ++ es)) ≡ (if b then value_of (f v) row else cell.Null)
    of true e = ap (λ cs. cell_at cs (position_or_len (nat_eq v) vs)) (shape vs) ∙ read_place (λ w. value_of (f w) row) vs (map (λ e. value_of e row) es) v e
    of false e = refl

-- ---- two rows joined

pub read_left : (vs : List ℕ) (l r : Row) (v : ℕ) → length vs ≤ length l → has vs v ≡ true → value_of (left_column vs v) (l ++ r) ≡ read vs l v
read_left vs l r v m h = cell_at-left l r (position_or_len (nat_eq v) vs) (omega (arith, has_place vs v h)) ∙ sym (read_there vs l v h)

pub read_right : (mode : Mode) (vs ws : List ℕ) (l r : Row) (v : ℕ) → length l ≡ columns_in mode vs → has ws v ≡ true → value_of (right_column mode vs ws v) (l ++ r) ≡ read ws r v
read_right mode vs ws l r v m h = cell_at-right l r (columns_in mode vs + position_or_len (nat_eq v) ws) (position_or_len (nat_eq v) ws) (ap (λ k. k + position_or_len (nat_eq v) ws) (sym m)) ∙ sym (read_there ws r v h)

coalesced_terms : (c d : Cell) (o p : Option Term) → c ≡ term_cell o → d ≡ term_cell p → coalesced (c ∷ d ∷ []) ≡ term_cell (option_or o p)
coalesced_terms c d None None e f = Prim.rw (e, f) refl
coalesced_terms c d None (Some u) e f = Prim.rw (e, f) refl
coalesced_terms c d (Some t) p e f = Prim.rw e refl

-- what two term cells have as one
pub read_merged : (mode : Mode) (vs ws : List ℕ) (l r : Row) → length l ≡ columns_in mode vs → length vs ≤ length l → AreTermCells l → AreTermCells r → (v : ℕ) →
    value_of (merged mode vs ws v) (l ++ r) ≡ term_cell (option_or (term_in (visible_column vs) l v) (term_in (visible_column ws) r v))
read_merged mode vs ws l r m k p q v = of (has vs v) refl (has ws v) refl
  where
    here : Cell
    here = read vs l v

    there : Cell
    there = read ws r v

    of : (a : Bool) → has vs v ≡ a → (b : Bool) → has ws v ≡ b →
        value_of (if a then (if b then Coalesce (exprs (left_column vs v ∷ right_column mode vs ws v ∷ [])) else left_column vs v) else (if b then right_column mode vs ws v else null_term)) (l ++ r)
        ≡ term_cell (option_or (term_of here) (term_of there))
    of true e true f =
        coalesced_terms (value_of (left_column vs v) (l ++ r)) (value_of (right_column mode vs ws v) (l ++ r)) (term_of here) (term_of there)
        (read_left vs l r v k e ∙ (read_typed vs l p v).0) (read_right mode vs ws l r v m f ∙ (read_typed ws r q v).0)
    of true e false f =
        read_left vs l r v k e ∙ (read_typed vs l p v).0 ∙ ap term_cell (sym (or_none (term_of here)) ∙ ap (λ c. option_or (term_of here) (term_of c)) (sym (read_none ws r v f)))
    of false e true f =
        read_right mode vs ws l r v m f ∙ (read_typed ws r q v).0 ∙ ap (λ c. term_cell (option_or (term_of c) (term_of there))) (sym (read_none vs l v e))
    of false e false f = (λ i. term_cell (option_or (term_of (sym (read_none vs l v e) i)) (term_of (sym (read_none ws r v f) i))))

-- ---- the solution of a row

pub lookup-upto : (f : ℕ → Option Term) (n k v : ℕ) → v < n → lookup (map f (range_with_len k n)) v ≡ f (k + v)
lookup-upto f zero k v h = absurd (omega arith)
lookup-upto f (suc n) k zero h = let e : k + 0 ≡ k = omega arith in Prim.rw e refl
lookup-upto f (suc n) k (suc v) h = let e : k + suc v ≡ k + 1 + v = omega arith in Prim.rw e (lookup-upto f n (k + 1) v (omega arith))

pub lookup-past : (f : ℕ → Option Term) (n k v : ℕ) → n ≤ v → lookup (map f (range_with_len k n)) v ≡ None
lookup-past f zero k v h = refl
lookup-past f (suc n) k zero h = absurd (omega arith)
lookup-past f (suc n) k (suc v) h = lookup-past f n (k + 1) v (omega arith)

-- one place set
pub set_at : (o : Option Term) (f : ℕ → Option Term) (n k v w : ℕ) → w ≡ k + v → slice_set (map f (range_with_len k n)) v o ≡ map (λ u. if nat_eq w u then o else f u) (range_with_len k n)
set_at o f zero k v w e = refl
set_at o f (suc n) k zero w e = let g : w ≡ k = omega arith in λ i. here g i ∷ past f n (k + 1) w (omega arith) i
  where
    here : w ≡ k → o ≡ (if nat_eq w k then o else f k)
    here g = Prim.rw (ap (nat_eq w) (sym g) ∙ eq_itself nat_test w) refl

    past : (f : ℕ → Option Term) (n k w : ℕ) → w < k → map f (range_with_len k n) ≡ map (λ u. if nat_eq w u then o else f u) (range_with_len k n)
    past f zero k w h = refl
    past f (suc n) k w h = λ i. ap (λ b. if b then o else f k) (sym (eq_other nat_test w k (λ g. omega (arith, h, g)))) i ∷ past f n (k + 1) w (omega arith) i
set_at o f (suc n) k (suc v) w e = λ i. ap (λ b. if b then o else f k) (sym (eq_other nat_test w k (λ g. omega (arith, e, g)))) i ∷ set_at o f n (k + 1) v w (omega arith) i

-- every variable is below n
abbrev pub AreBelow : ℕ → List ℕ → Type 0
AreBelow n vs = (v : ℕ) → has vs v ≡ true → v < n

pub lookup-solution : (n : ℕ) (vs : List ℕ) (row : Row) (v : ℕ) → AreBelow n vs → lookup (solution_of n vs row) v ≡ term_in (visible_column vs) row v
lookup-solution n vs row v h = ⊎_elim
    (λ l. lookup-upto (term_in (visible_column vs) row) n 0 v l ∙ ap (term_in (visible_column vs) row) (omega arith))
    (λ g. lookup-past (term_in (visible_column vs) row) n 0 v g ∙ past (has vs v) refl g)
    (cases_lt v n)
  where
    past : (b : Bool) → has vs v ≡ b → n ≤ v → None ≡ term_in (visible_column vs) row v
    past true e g = absurd (omega (arith, h v e))
    past false e g = sym (ap term_of (read_none vs row v e))

-- a variable in the row of a Project of merged columns
pub term_merged : (mode : Mode) (vs ws : List ℕ) (l r : Row) → length l ≡ columns_in mode vs → length vs ≤ length l → AreTermCells l → AreTermCells r → (es : List Expr) → (v : ℕ) →
    term_in (visible_column (each_once (vs ++ ws))) (map (λ e. value_of e (l ++ r)) (map (merged mode vs ws) (each_once (vs ++ ws)) ++ es)) v
    ≡ option_or (term_in (visible_column vs) l v) (term_in (visible_column ws) r v)
term_merged mode vs ws l r m k p q es v = ap term_of (read_project (merged mode vs ws) es all (l ++ r) v) ∙ of (has all v) refl
  where
    all : List ℕ
    all = each_once (vs ++ ws)

    nothing : (a b : Bool) → has vs v ≡ a → has ws v ≡ b → (a || b) ≡ false → None ≡ option_or (term_in (visible_column vs) l v) (term_in (visible_column ws) r v)
    nothing true b e f h = absurd (true≢false h)
    nothing false true e f h = absurd (true≢false h)
    nothing false false e f h = (λ i. option_or (term_of (sym (read_none vs l v e) i)) (term_of (sym (read_none ws r v f) i)))

    of : (b : Bool) → has all v ≡ b → term_of (if b then value_of (merged mode vs ws v) (l ++ r) else cell.Null) ≡ option_or (term_in (visible_column vs) l v) (term_in (visible_column ws) r v)
    of true e = ap term_of (read_merged mode vs ws l r m k p q v) ∙ term_back (option_or (term_in (visible_column vs) l v) (term_in (visible_column ws) r v))
    of false e = nothing (has vs v) (has ws v) refl refl (sym (has_union vs ws v) ∙ e)

-- the row of a Project of merged columns is the merge
pub solution-merged : (n : ℕ) (mode : Mode) (vs ws : List ℕ) (l r : Row) → length l ≡ columns_in mode vs → length vs ≤ length l → AreTermCells l → AreTermCells r → (es : List Expr) →
    solution_of n (each_once (vs ++ ws)) (map (λ e. value_of e (l ++ r)) (map (merged mode vs ws) (each_once (vs ++ ws)) ++ es))
    ≡ merge (solution_of n vs l) (solution_of n ws r)
solution-merged n mode vs ws l r m k p q es =
    (λ i. map (λ v. term_merged mode vs ws l r m k p q es v i) (range_with_len 0 n)) ∙ sym (merge-map (term_in (visible_column vs) l) (term_in (visible_column ws) r) (range_with_len 0 n))

pub narrow_or : (o p : Option Term) → IsNarrow o → IsNarrow p → IsNarrow (option_or o p)
narrow_or None p h k = k
narrow_or (Some t) p h k = h

-- a merged cell is a term cell, with the merged solution's term
pub merged_typed : (mode : Mode) (vs ws : List ℕ) (l r : Row) → length l ≡ columns_in mode vs → length vs ≤ length l → AreTermCells l → AreTermCells r → (v : ℕ) → IsTermCell (value_of (merged mode vs ws v) (l ++ r))
merged_typed mode vs ws l r m k p q v =
    is_term_cell (value_of (merged mode vs ws v) (l ++ r)) (option_or (term_in (visible_column vs) l v) (term_in (visible_column ws) r v)) (read_merged mode vs ws l r m k p q v)
    (narrow_or (term_in (visible_column vs) l v) (term_in (visible_column ws) r v) (read_typed vs l p v).1 (read_typed ws r q v).1)

-- a row of NULLs has no terms
pub nulls_typed : (n : ℕ) → AreTermCells (replicate n cell.Null)
nulls_typed n at = is_term_cell (cell_at (replicate n cell.Null) at) None (cell_at-nulls n at) tt

pub nulls_none : (n : ℕ) (vs : List ℕ) (v : ℕ) → term_in (visible_column vs) (replicate n cell.Null) v ≡ None
nulls_none n vs v = of (has vs v)
  where
    of : (b : Bool) → term_of (value_of (if b then left_column vs v else null_term) (replicate n cell.Null)) ≡ None
    of true = ap term_of (cell_at-nulls n (position_or_len (nat_eq v) vs))
    of false = refl

-- rows cell by cell
pub cells-nil : AreTermCells []
cells-nil at = (refl, tt)

pub cells-cons : (c : Cell) (row : Row) → IsTermCell c → AreTermCells row → AreTermCells (c ∷ row)
cells-cons c row h k zero = h
cells-cons c row h k (suc at) = k at

pub cells-map : (f : ℕ → Expr) (vs : List ℕ) (es : List Expr) (row : Row) → ((v : ℕ) → IsTermCell (value_of (f v) row)) → AreTermCells (map (λ e. value_of e row) es) → AreTermCells (map (λ e. value_of e row) (map f vs ++ es))
cells-map f [] es row h k = k
cells-map f (v ∷ vs) es row h k = cells-cons (value_of (f v) row) (map (λ e. value_of e row) (map f vs ++ es)) (h v) (cells-map f vs es row h k)

pub length-project : (f : ℕ → Expr) (vs : List ℕ) (es : List Expr) (row : Row) → length (map (λ e. value_of e row) (map f vs ++ es)) ≡ length vs + length es
length-project f [] [] row = refl
length-project f [] (e ∷ es) row = omega (arith, length-project f [] es row)
length-project f (v ∷ vs) es row = omega (arith, length-project f vs es row)
