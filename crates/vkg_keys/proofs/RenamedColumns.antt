-- The columns of members of which one is gone: place by place their values and their kinds over the columns of the others.
use Rattle.std.proofs.Common.{◌≡◌, ◌∙◌, ◌⊎◌, inl, inr, ℕ, zero, suc, ◌+◌, ◌-◌, ◌<◌, ◌≤◌, nat_le, List, [], ◌∷◌, ◌++◌, length, length-append, refl, sym, ap, arith}
use Rattle.std.specs.Prelude.{Some, slice_get, unwrap_or}
use Rattle.std.proofs.lemmas.Bool.{cases_Bool, leb-false, leb-true}
use Rattle.vkg_lists.proofs.Heads.{slice_get-behind}
use Rattle.vkg_lists.specs.Options.{with_first}
use Rattle.vkg_cells.specs.declared.cell.Cell.TheVariants as cell
use Rattle.vkg_cells.specs.declared.cell.SqlType.{SqlType}
use Rattle.vkg_cells.specs.declared.cell.SqlType.TheVariants as kind
use Rattle.vkg_schema.specs.Rows.{Row, cell_at}
use Rattle.vkg_schema.proofs.RowCells.{cell_at-left, cell_at-right}
use Rattle.vkg_columns.specs.Columns.{Gives, KeepsKind, at_place, columns_from}
use Rattle.vkg_expr.specs.Expr.{Expr, Col, Const, exprs}
use Rattle.vkg_expr.specs.Typing.{kind_of, kinds_of}
use Rattle.vkg_expr.specs.Value.{value_of, values_of}
use Rattle.vkg_keys.specs.Members.{renamed}

-- ---- places of lists

pub get-left : {A : Type 0} (xs ys : List A) (k : ℕ) → k < length xs → slice_get (xs ++ ys) k ≡ slice_get xs k
get-left [] ys k h = absurd (omega (arith, h))
get-left (x ∷ xs) ys zero h = refl
get-left (x ∷ xs) ys (suc k) h = get-left xs ys k (omega (arith, h))

place-left : (es fs : List Expr) (k : ℕ) → k < length es → at_place (es ++ fs) k ≡ at_place es k
place-left es fs k h = ap (λ o. unwrap_or o (Const cell.Null kind.Text)) (get-left es fs k h)

place-right : (es fs : List Expr) (n k : ℕ) → n ≡ k + length es → at_place (es ++ fs) n ≡ at_place fs k
place-right es fs n k e = ap (λ o. unwrap_or o (Const cell.Null kind.Text)) (slice_get-behind es fs n k e)

pub long-columns : (n w : ℕ) → length (columns_from n w) ≡ w
long-columns n zero = refl
long-columns n (suc w) = ap suc (long-columns (suc n) w)

pub place-columns : (n w k : ℕ) → k < w → at_place (columns_from n w) k ≡ Col (n + k)
place-columns n zero k h = absurd (omega (arith, h))
place-columns n (suc w) zero h = ap (λ m. Col m) (omega arith)
place-columns n (suc w) (suc k) h = place-columns (suc n) w k (omega (arith, h)) ∙ ap (λ m. Col m) (omega arith)

-- ---- the three parts of a list

-- a place is one of the first n, or of the w behind them, or behind both
pub stands : (n w k : ℕ) → (k < n) ⊎ (((y : ℕ) × (y < w) × (k ≡ n + y)) ⊎ ((y : ℕ) × (k ≡ (n + w) + y)))
stands n w k = elim (cases_Bool (nat_le n k)) [
  | inl t ↦ let h = leb-true n k t in inr (behind h)
  | inr f ↦ inl (leb-false n k f)
]
  where
    behind : n ≤ k → ((y : ℕ) × (y < w) × (k ≡ n + y)) ⊎ ((y : ℕ) × (k ≡ (n + w) + y))
    behind h = elim (cases_Bool (nat_le w (k - n))) [
      | inl t ↦ let m = leb-true w (k - n) t in inr ((k - n) - w, omega (arith, h, m))
      | inr f ↦ let m = leb-false w (k - n) f in inl (k - n, m, omega (arith, h))
    ]

module _ (n : ℕ) (own : List Expr) (z : ℕ) where
  renamed-before : (k : ℕ) → k < n → at_place (renamed n own z) k ≡ Col k
  renamed-before k h =
      let long = long-columns 0 n in
      place-left (columns_from 0 n) (own ++ columns_from n z) k (omega (arith, h, long)) ∙ place-columns 0 n k h ∙ ap (λ m. Col m) (omega arith)

  renamed-own : (y : ℕ) → y < length own → at_place (renamed n own z) (n + y) ≡ at_place own y
  renamed-own y h =
      let long = long-columns 0 n in
      place-right (columns_from 0 n) (own ++ columns_from n z) (n + y) y (omega (arith, long)) ∙ place-left own (columns_from n z) y h

  renamed-after : (w y : ℕ) → length own ≡ w → y < z → at_place (renamed n own z) ((n + w) + y) ≡ Col (n + y)
  renamed-after w y lo h =
      let long = long-columns 0 n in
      place-right (columns_from 0 n) (own ++ columns_from n z) ((n + w) + y) (w + y) (omega (arith, long))
      ∙ place-right own (columns_from n z) (w + y) y (omega (arith, lo))
      ∙ place-columns n z y h

pub renamed-long : (n : ℕ) (own : List Expr) (z : ℕ) → length (renamed n own z) ≡ n + (length own + z)
renamed-long n own z =
    let all = length-append (columns_from 0 n) (own ++ columns_from n z) in
    let rest = length-append own (columns_from n z) in
    let first = long-columns 0 n in
    let last = long-columns n z in
    omega (arith, all, rest, first, last)

-- ---- kinds

module _ (ks ms ls : List SqlType) (n z : ℕ) (own : List Expr) (lk : length ks ≡ n) (ll : length ls ≡ z) (lo : length own ≡ length ms) where
  three-long : length (ks ++ (ms ++ ls)) ≡ (n + length ms) + z
  three-long = let a = length-append ks (ms ++ ls) in let b = length-append ms ls in omega (arith, a, b, lk, ll)

  -- a column of the others has its kind, and one of the member that is gone has it where what is in its place has
  pub renamed-kind : (k : ℕ) → k < length (ks ++ (ms ++ ls)) → ((y : ℕ) → y < length ms → k ≡ n + y → KeepsKind (at_place own) ms (ks ++ ls) y) →
      KeepsKind (at_place (renamed n own z)) (ks ++ (ms ++ ls)) (ks ++ ls) k
  renamed-kind k h given = elim (stands n (length ms) k) [
    | inl b ↦ here-before b
    | inr m ↦ elim m [
      | inl y ↦ here-own y.0 y.1 y.2
      | inr y ↦ here-after y.0 y.1
    ]
  ]
    where
      here-before : k < n → KeepsKind (at_place (renamed n own z)) (ks ++ (ms ++ ls)) (ks ++ ls) k
      here-before b =
          ap (λ e. kind_of e (ks ++ ls)) (renamed-before n own z k b)
          ∙ get-left ks ls k (omega (arith, b, lk)) ∙ sym (get-left ks (ms ++ ls) k (omega (arith, b, lk)))

      here-own : (y : ℕ) → y < length ms → k ≡ n + y → KeepsKind (at_place (renamed n own z)) (ks ++ (ms ++ ls)) (ks ++ ls) k
      here-own y b e =
          ap (λ i. kind_of (at_place (renamed n own z) i) (ks ++ ls)) e
          ∙ ap (λ x. kind_of x (ks ++ ls)) (renamed-own n own z y (omega (arith, b, lo)))
          ∙ given y b e
          ∙ sym (slice_get-behind ks (ms ++ ls) k y (omega (arith, e, lk)) ∙ get-left ms ls y b)

      here-after : (y : ℕ) → k ≡ (n + length ms) + y → KeepsKind (at_place (renamed n own z)) (ks ++ (ms ++ ls)) (ks ++ ls) k
      here-after y e =
          let all = three-long in
          ap (λ i. kind_of (at_place (renamed n own z) i) (ks ++ ls)) e
          ∙ ap (λ x. kind_of x (ks ++ ls)) (renamed-after n own z (length ms) y lo (omega (arith, h, e, all)))
          ∙ slice_get-behind ks ls (n + y) y (omega (arith, lk))
          ∙ sym (slice_get-behind ks (ms ++ ls) k (length ms + y) (omega (arith, e, lk)) ∙ slice_get-behind ms ls (length ms + y) y (omega arith))

-- expressions that have these kinds place by place
pub kinds-by_place : (es : List Expr) (ks ls : List SqlType) → length es ≡ length ls → ((k : ℕ) → k < length ls → kind_of (at_place es k) ks ≡ slice_get ls k) → kinds_of (exprs es) ks ≡ Some ls
kinds-by_place [] ks [] w h = refl
kinds-by_place [] ks (l ∷ ls) w h = absurd (omega (arith, w))
kinds-by_place (e ∷ es) ks [] w h = absurd (omega (arith, w))
kinds-by_place (e ∷ es) ks (l ∷ ls) w h =
    let first : kind_of e ks ≡ Some l = h 0 (omega arith) in
    let rest : kinds_of (exprs es) ks ≡ Some ls = kinds-by_place es ks ls (omega (arith, w)) (λ k b. h (suc k) (omega (arith, b))) in
    λ i. with_first (first i) (rest i)

-- ---- values

module _ (l q r : Row) (n z : ℕ) (own : List Expr) (ll : length l ≡ n) (lr : length r ≡ z) (lo : length own ≡ length q) where
  row-long : length (l ++ (q ++ r)) ≡ (n + length q) + z
  row-long = let a = length-append l (q ++ r) in let b = length-append q r in omega (arith, a, b, ll, lr)

  -- a column of the others has its value, and one of the member that is gone has it where what is in its place has
  pub renamed-value : (k : ℕ) → k < length (l ++ (q ++ r)) → ((y : ℕ) → y < length q → k ≡ n + y → Gives (at_place own) (l ++ r) q y) → Gives (at_place (renamed n own z)) (l ++ r) (l ++ (q ++ r)) k
  renamed-value k h given = elim (stands n (length q) k) [
    | inl b ↦ here-before b
    | inr m ↦ elim m [
      | inl y ↦ here-own y.0 y.1 y.2
      | inr y ↦ here-after y.0 y.1
    ]
  ]
    where
      here-before : k < n → Gives (at_place (renamed n own z)) (l ++ r) (l ++ (q ++ r)) k
      here-before b =
          ap (λ e. value_of e (l ++ r)) (renamed-before n own z k b)
          ∙ cell_at-left l r k (omega (arith, b, ll)) ∙ sym (cell_at-left l (q ++ r) k (omega (arith, b, ll)))

      here-own : (y : ℕ) → y < length q → k ≡ n + y → Gives (at_place (renamed n own z)) (l ++ r) (l ++ (q ++ r)) k
      here-own y b e =
          ap (λ i. value_of (at_place (renamed n own z) i) (l ++ r)) e
          ∙ ap (λ x. value_of x (l ++ r)) (renamed-own n own z y (omega (arith, b, lo)))
          ∙ given y b e
          ∙ sym (cell_at-right l (q ++ r) k y (omega (arith, e, ll)) ∙ cell_at-left q r y b)

      here-after : (y : ℕ) → k ≡ (n + length q) + y → Gives (at_place (renamed n own z)) (l ++ r) (l ++ (q ++ r)) k
      here-after y e =
          let all = row-long in
          ap (λ i. value_of (at_place (renamed n own z) i) (l ++ r)) e
          ∙ ap (λ x. value_of x (l ++ r)) (renamed-after n own z (length q) y lo (omega (arith, h, e, all)))
          ∙ cell_at-right l r (n + y) y (omega (arith, ll))
          ∙ sym (cell_at-right l (q ++ r) k (length q + y) (omega (arith, e, ll)) ∙ cell_at-right q r (length q + y) y refl)

-- what is put in has the value that it has in the row of the values
pub place-value : (es : List Expr) (row : Row) (at : ℕ) → value_of (at_place es at) row ≡ cell_at (values_of (exprs es) row) at
place-value [] row at = refl
place-value (e ∷ es) row zero = refl
place-value (e ∷ es) row (suc at) = place-value es row at

-- expressions that have these values place by place
pub values-by_place : (es : List Expr) (row other : Row) → length es ≡ length other → ((k : ℕ) → k < length other → value_of (at_place es k) row ≡ cell_at other k) → values_of (exprs es) row ≡ other
values-by_place [] row [] w h = refl
values-by_place [] row (c ∷ other) w h = absurd (omega (arith, w))
values-by_place (e ∷ es) row [] w h = absurd (omega (arith, w))
values-by_place (e ∷ es) row (c ∷ other) w h =
    let first : value_of e row ≡ c = h 0 (omega arith) in
    let rest : values_of (exprs es) row ≡ other = values-by_place es row other (omega (arith, w)) (λ k b. h (suc k) (omega (arith, b))) in
    λ i. first i ∷ rest i
