-- Distinct lists of rows: of a table with a full key, of pairs, of a left join.
use Rattle.std.proofs.Common.{◌≡◌, ◌∙◌, ℕ, Bool, true, true≢false, not, List, [], ◌∷◌, ◌++◌, length, map, replicate, refl, sym, ap, arith}
use Rattle.std.specs.List.{AllByRecursion, Contains, IsDistinct, filter, flat_map}
use Rattle.std.proofs.lemmas.List.{append_cancel_left, append_cancel_right}
use Rattle.vkg_lists.proofs.Counts.{eq_other}
use Rattle.vkg_lists.proofs.Distinct.{IsDistinct-append, IsDistinct-cons, IsDistinct-filter, IsDistinct-flat_map, IsDistinct-map, IsDistinct-nil}
use Rattle.vkg_lists.proofs.Members.{Contains-from_filter, Contains-from_flat_map, Contains-from_map, Contains-here, Contains-there, each_from_recursion, each_of_all}
use Rattle.vkg_cells.specs.declared.cell.Cell.TheVariants as cell
use Rattle.vkg_schema.specs.declared.table.Key.{Key}
use Rattle.vkg_schema.specs.Meets.{KeyHolds}
use Rattle.vkg_schema.specs.Rows.{Row, agree, has_no_null}
use Rattle.vkg_plan.specs.Rows.{is_alone, left_pairs, one_row, pairs}
use Rattle.vkg_plan.proofs.CellLemmas.{rows_apart}
use Rattle.vkg_keys.specs.Keys.{AreWide, with_itself}
use Rattle.vkg_keys.proofs.Agreement.{agree-itself}

-- rows of a table are apart by a key without NULL
pub distinct_by_key : (key : Key) (rows : List Row) → KeyHolds key rows → ((r : Row) → Contains rows r → has_no_null key.columns r ≡ true) → IsDistinct one_row rows
distinct_by_key key [] k h = IsDistinct-nil one_row
distinct_by_key key (x ∷ rows) k h =
    IsDistinct-cons one_row x rows
    (λ y c. eq_other rows_apart x y (λ e. true≢false (sym (agree-itself key.columns x ∙ h x (Contains-here x rows)) ∙ (λ i. agree (with_itself key.columns) (e i) x) ∙ each_from_recursion _ rows k.0 y c)))
    (distinct_by_key key rows k.1 (λ r c. h r (Contains-there x rows r c)))

-- ---- pairs

pub split_same : (l m r s : Row) → length l ≡ length m → l ++ r ≡ m ++ s → l ≡ m
split_same [] [] r s n e = refl
split_same [] (c ∷ m) r s n e = absurd (omega (arith, n))
split_same (c ∷ l) [] r s n e = absurd (omega (arith, n))
split_same (c ∷ l) (d ∷ m) r s n e =
    let here : c ≡ d = cc e in
    let rest : l ++ r ≡ m ++ s = cc e in
    λ i. here i ∷ split_same l m r s (omega (arith, n)) rest i

module _ (n : ℕ) (ls rs : List Row) (wide : AreWide n ls) where
  pub one_left : (l m r s : Row) → Contains ls l → Contains ls m → l ++ r ≡ m ++ s → l ≡ m
  one_left l m r s c d e = split_same l m r s (wide l c ∙ sym (wide m d)) e

  -- the parts of a pair
  pub of_pair : (z : Row) → Contains (pairs ls rs) z → (l : Row) × Contains ls l × ((r : Row) × Contains rs r × (l ++ r ≡ z))
  of_pair z c =
      let a = Contains-from_flat_map (λ l. map (λ r. l ++ r) rs) ls z c in
      (a.0, a.1, Contains-from_map (λ r. a.0 ++ r) rs z a.2)

  pub distinct-pairs : IsDistinct one_row ls → IsDistinct one_row rs → IsDistinct one_row (pairs ls rs)
  distinct-pairs d e = IsDistinct-flat_map rows_apart rows_apart (λ l. map (λ r. l ++ r) rs) ls d
      (λ l c. IsDistinct-map rows_apart rows_apart (λ r. l ++ r) rs e (λ r s a b f. append_cancel_left l r s f))
      (λ l m z c k a b.
      let x = Contains-from_map (λ r. l ++ r) rs z a in
      let y = Contains-from_map (λ r. m ++ r) rs z b in
      one_left l m x.0 y.0 c k (x.2 ∙ sym y.2))

  -- a left row without a partner is no left row of a pair
  pub distinct-left_pairs : (pass : Row → Bool) (k : ℕ) → IsDistinct one_row ls → IsDistinct one_row rs → IsDistinct one_row (left_pairs pass k ls rs)
  distinct-left_pairs pass k d e = IsDistinct-append rows_apart (filter pass (pairs ls rs)) (map pad (filter (is_alone pass rs) ls))
      (IsDistinct-filter one_row pass (pairs ls rs) (distinct-pairs d e))
      (IsDistinct-map rows_apart rows_apart pad (filter (is_alone pass rs) ls) (IsDistinct-filter one_row (is_alone pass rs) ls d) (λ l m a b f. append_cancel_right l m (replicate k cell.Null) f))
      apart
    where
      pad : Row → Row
      pad l = l ++ replicate k cell.Null

      apart : (z : Row) → Contains (filter pass (pairs ls rs)) z → Contains (map pad (filter (is_alone pass rs) ls)) z → ⊥
      apart z c f =
          let a = Contains-from_filter pass (pairs ls rs) z c in
          let b = of_pair z a.0 in
          let x = Contains-from_map pad (filter (is_alone pass rs) ls) z f in
          let y = Contains-from_filter (is_alone pass rs) ls x.0 x.1 in
          let same : x.0 ≡ b.0 = one_left x.0 b.0 (replicate k cell.Null) b.2.0 y.0 b.1 (x.2 ∙ sym b.2.2) in
          let alone : is_alone pass rs b.0 ≡ true = ap (is_alone pass rs) (sym same) ∙ y.1 in
          true≢false (sym (each_of_all (λ r. not (pass (b.0 ++ r))) rs alone b.2.0 b.2.1) ∙ ap not (ap pass b.2.2 ∙ a.1))

-- ---- unions

-- the two lists have no row in common
abbrev pub IsApart : List Row → List Row → Type 0
IsApart ls rs = (z : Row) → Contains ls z → Contains rs z → ⊥

-- each list is distinct, and apart from those after it
abbrev pub AreApart : List (List Row) → Type 0
AreApart [] = Unit {0}
AreApart (rs ∷ rss) = IsDistinct one_row rs × AllByRecursion (IsApart rs) rss × AreApart rss

pub distinct-union : (rss : List (List Row)) → AreApart rss → IsDistinct one_row (flat_map (λ rows. rows) rss)
distinct-union [] h = IsDistinct-nil one_row
distinct-union (rs ∷ rss) h = IsDistinct-append rows_apart rs (flat_map (λ rows. rows) rss) h.0 (distinct-union rss h.2)
    (λ z c d. let a = Contains-from_flat_map (λ rows. rows) rss z d in each_from_recursion (IsApart rs) rss h.1 a.0 a.1 z c a.2)
