-- Expressions between columns: their values, and their kinds.
use Rattle.std.proofs.Common.{◌≡◌, ◌∙◌, ℕ, suc, ◌+◌, ◌<◌, List, [], ◌∷◌, ◌++◌, append-nil, append_assoc, length, length-append, map, refl, sym, ap, subst, arith}
use Rattle.std.specs.Prelude.{Some, slice_get}
use Rattle.vkg_lists.proofs.Heads.{slice_get-behind}
use Rattle.vkg_lists.proofs.Onto.{first_given}
use Rattle.vkg_lists.specs.Options.{joined, with_first}
use Rattle.vkg_cells.specs.declared.cell.SqlType.{SqlType}
use Rattle.vkg_schema.specs.Rows.{Row, cell_at}
use Rattle.vkg_schema.proofs.RowCells.{cell_at-right}
use Rattle.vkg_expr.specs.Expr.{Expr, exprs}
use Rattle.vkg_expr.specs.Strict.{moved}
use Rattle.vkg_expr.specs.Typing.{kind_of, kinds_of}
use Rattle.vkg_expr.specs.Value.{values_of}
use Rattle.vkg_columns.proofs.MovedColumns.{left-value, moved-behind, moved-kind}
use Rattle.vkg_columns.specs.Columns.{OnEach, columns_from}
use Rattle.vkg_shapes.specs.PartsLaw.{kinds_of-append, values_of-append}
use Rattle.vkg_lifts.specs.LiftProjects.{in_between}

-- each is over the first n columns
abbrev pub AreWithin : ℕ → List Expr → Type 0
AreWithin n es = OnEach (λ at. at < n) (exprs es)

-- ---- values

-- the columns of a part of a row
columns-values : (l m r : Row) (n : ℕ) → length l ≡ n → values_of (exprs (columns_from n (length m))) (l ++ (m ++ r)) ≡ m
columns-values l [] r n h = refl
columns-values l (c ∷ m) r n h =
    let first : cell_at (l ++ (c ∷ (m ++ r))) n ≡ c = cell_at-right l (c ∷ (m ++ r)) n 0 (omega (arith, h)) in
    let shifted = append_assoc l (c ∷ []) (m ++ r) in
    let len = length-append l (c ∷ []) in
    let rest = columns-values (l ++ (c ∷ [])) m r (suc n) (omega (arith, len, h)) in
    λ i. first i ∷ (ap (λ z. values_of (exprs (columns_from (suc n) (length m))) z) (sym shifted) ∙ rest) i

-- the first columns
first-values : (l r : Row) (n : ℕ) → length l ≡ n → values_of (exprs (columns_from 0 n)) (l ++ r) ≡ l
first-values l r n w = ap (λ i. values_of (exprs (columns_from 0 i)) (l ++ r)) (sym w) ∙ columns-values [] l r 0 refl

-- the last columns
last-values : (l r : Row) (n k : ℕ) → length l ≡ n → length r ≡ k → values_of (exprs (columns_from n k)) (l ++ r) ≡ r
last-values l r n k ln lr =
    ap (λ i. values_of (exprs (columns_from n i)) (l ++ r)) (sym lr)
    ∙ ap (λ z. values_of (exprs (columns_from n (length r))) (l ++ z)) (sym (append-nil r))
    ∙ columns-values l r [] n ln

-- expressions over the part of a row
moved-values : (l m r : Row) (n : ℕ) (es : List Expr) → length l ≡ n → AreWithin (length m) es → values_of (exprs (map (moved n) es)) (l ++ (m ++ r)) ≡ values_of (exprs es) m
moved-values l m r n [] w h = refl
moved-values l m r n (e ∷ es) w h = λ i. (moved-behind l (m ++ r) n e w ∙ left-value m r (length m) e refl h.0) i ∷ moved-values l m r n es w h.1 i

pub between-values : (l m r : Row) (n w k : ℕ) (es : List Expr) → length l ≡ n → length m ≡ w → length r ≡ k → AreWithin w es →
    values_of (exprs (in_between n w k es)) (l ++ (m ++ r)) ≡ l ++ (values_of (exprs es) m ++ r)
between-values l m r n w k es ln lm lr h =
    let row = l ++ (m ++ r) in
    let both = length-append l m in
    let last : values_of (exprs (columns_from (n + w) k)) row ≡ r
    = ap (values_of (exprs (columns_from (n + w) k))) (sym (append_assoc l m r)) ∙ last-values (l ++ m) r (n + w) k (omega (arith, both, ln, lm)) lr in
    values_of-append (columns_from 0 n) (map (moved n) es ++ columns_from (n + w) k) row
    ∙ ap (λ z. values_of (exprs (columns_from 0 n)) row ++ z) (values_of-append (map (moved n) es) (columns_from (n + w) k) row)
    ∙ (λ i. first-values l (m ++ r) n ln i ++ (moved-values l m r n es ln (subst (λ i. AreWithin i es) (sym lm) h) i ++ last i))

-- ---- kinds

columns-kinds : (ks ms ls : List SqlType) (n : ℕ) → length ks ≡ n → kinds_of (exprs (columns_from n (length ms))) (ks ++ (ms ++ ls)) ≡ Some ms
columns-kinds ks [] ls n h = refl
columns-kinds ks (m ∷ ms) ls n h =
    let first : slice_get (ks ++ (m ∷ (ms ++ ls))) n ≡ Some m = slice_get-behind ks (m ∷ (ms ++ ls)) n 0 (omega (arith, h)) in
    let shifted = append_assoc ks (m ∷ []) (ms ++ ls) in
    let len = length-append ks (m ∷ []) in
    let rest = columns-kinds (ks ++ (m ∷ [])) ms ls (suc n) (omega (arith, len, h)) in
    λ i. with_first (first i) ((ap (kinds_of (exprs (columns_from (suc n) (length ms)))) (sym shifted) ∙ rest) i)

first-kinds : (ks ls : List SqlType) (n : ℕ) → length ks ≡ n → kinds_of (exprs (columns_from 0 n)) (ks ++ ls) ≡ Some ks
first-kinds ks ls n w = ap (λ i. kinds_of (exprs (columns_from 0 i)) (ks ++ ls)) (sym w) ∙ columns-kinds [] ks ls 0 refl

last-kinds : (ks ls : List SqlType) (n k : ℕ) → length ks ≡ n → length ls ≡ k → kinds_of (exprs (columns_from n k)) (ks ++ ls) ≡ Some ls
last-kinds ks ls n k lk ll =
    ap (λ i. kinds_of (exprs (columns_from n i)) (ks ++ ls)) (sym ll)
    ∙ ap (λ z. kinds_of (exprs (columns_from n (length ls))) (ks ++ z)) (sym (append-nil ls))
    ∙ columns-kinds ks ls [] n lk

moved-kinds : (ks ms ls : List SqlType) (n : ℕ) (es : List Expr) (os : List SqlType) → length ks ≡ n → kinds_of (exprs es) ms ≡ Some os → kinds_of (exprs (map (moved n) es)) (ks ++ (ms ++ ls)) ≡ Some os
moved-kinds ks ms ls n [] os w h = h
moved-kinds ks ms ls n (e ∷ es) os w h =
    let g = first_given (kind_of e ms) (kinds_of (exprs es) ms) os h in
    (λ i. with_first (moved-kind ks ms ls n e g.0 w g.1 i) (moved-kinds ks ms ls n es g.2.0 w g.2.1 i)) ∙ ap Some g.2.2

pub between-kinds : (ks ms ls : List SqlType) (n w k : ℕ) (es : List Expr) (os : List SqlType) → length ks ≡ n → length ms ≡ w → length ls ≡ k → kinds_of (exprs es) ms ≡ Some os →
    kinds_of (exprs (in_between n w k es)) (ks ++ (ms ++ ls)) ≡ Some (ks ++ (os ++ ls))
between-kinds ks ms ls n w k es os lk lm ll h =
    let all = ks ++ (ms ++ ls) in
    let both = length-append ks ms in
    let last : kinds_of (exprs (columns_from (n + w) k)) all ≡ Some ls
    = ap (kinds_of (exprs (columns_from (n + w) k))) (sym (append_assoc ks ms ls)) ∙ last-kinds (ks ++ ms) ls (n + w) k (omega (arith, both, lk, lm)) ll in
    kinds_of-append (columns_from 0 n) (map (moved n) es ++ columns_from (n + w) k) all
    ∙ ap (joined (kinds_of (exprs (columns_from 0 n)) all)) (kinds_of-append (map (moved n) es) (columns_from (n + w) k) all)
    ∙ (λ i. joined (first-kinds ks (ms ++ ls) n lk i) (joined (moved-kinds ks ms ls n es os lk h i) (last i)))

-- as many kinds as expressions
pub kinds-long : (es : List Expr) (ks os : List SqlType) → kinds_of (exprs es) ks ≡ Some os → length os ≡ length es
kinds-long [] ks [] h = refl
kinds-long [] ks (o ∷ os) h = cc
kinds-long (e ∷ es) ks os h =
    let g = first_given (kind_of e ks) (kinds_of (exprs es) ks) os h in
    ap length (sym g.2.2) ∙ ap suc (kinds-long es ks g.2.0 g.2.1)
