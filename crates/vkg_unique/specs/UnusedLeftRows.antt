-- A left join whose rows have at most one partner each, and of which only the left columns are used, gives the left rows.
use Rattle.std.proofs.Common.{◌≡◌, ◌∙◌, inl, inr, ⊎_elim, ℕ, Bool, true, false, cond, true≢false, not, List, [], ◌∷◌, ◌++◌, map, replicate, sym, ap, length}
use Rattle.std.specs.List.{Contains, filter, flat_map}
use Rattle.std.specs.List.Sorted.{IsPermutation}
use Rattle.std.proofs.lemmas.Bool.{cases_Bool}
use Rattle.std.proofs.lemmas.List.{map-append}
use Rattle.std.proofs.lemmas.List.Sorted.{IsPermutation-append_comm, IsPermutation-map, IsPermutation-trans}
use Rattle.vkg_lists.proofs.Bags.{bag_same, bag_split}
use Rattle.vkg_lists.proofs.Members.{all_of_each, each_of_all, flat_map_agree_on, map_agree_on, Contains-from_filter}
use Rattle.vkg_lists.proofs.Walks.{flat_map-flat_map, flat_map-map, map-map, map_filter_is_flat_map}
use Rattle.vkg_cells.specs.declared.cell.Cell.TheVariants as cell
use Rattle.vkg_schema.specs.Rows.{Row}
use Rattle.vkg_plan.specs.Rows.{is_alone, left_pairs, pairs}
use Rattle.vkg_schema.specs.declared.table.Key.{Key}
use Rattle.vkg_schema.specs.Meets.{KeyHolds}
use Rattle.vkg_expr.specs.Expr.{Expr}
use Rattle.vkg_expr.specs.Value.{holds, value_of}
use Rattle.vkg_keys.specs.Keys.{AreWide, AtMostOne}
use Rattle.vkg_keys.specs.Ties.{all_valued}
use Rattle.vkg_keys.proofs.TiedColumns.{only_one_valued}
use Rattle.vkg_keys.proofs.OnlyOne.{none-fails, one-passes, walk-none, walk-one}

module _ {B : Type 0} (pass : Row → Bool) (rs : List Row) where
  -- the partner of a row, if it has one, gives the same whichever it is
  once : (l : Row) (ys : List B) → AtMostOne (λ r. pass (l ++ r)) rs → flat_map (λ r. cond (pass (l ++ r)) ys []) rs ≡ cond (not (is_alone pass rs l)) ys []
  once l ys (inl e) =
      let alone : is_alone pass rs l ≡ true = all_of_each (λ r. not (pass (l ++ r))) rs (λ r c. ap not (none-fails (λ r. pass (l ++ r)) rs e r c)) in
      walk-none (λ r. pass (l ++ r)) (λ r. ys) rs e ∙ ap (λ b. cond (not b) ys []) (sym alone)
  once l ys (inr (x, e)) =
      let p = one-passes (λ r. pass (l ++ r)) rs x e in
      let met : is_alone pass rs l ≡ false = ⊎_elim (λ t. absurd (true≢false (sym (each_of_all (λ r. not (pass (l ++ r))) rs t x p.0) ∙ ap not p.1))) (λ f. f) (cases_Bool (is_alone pass rs l)) in
      walk-one (λ r. pass (l ++ r)) (λ r. ys) rs x e ∙ ap (λ b. cond (not b) ys []) (sym met)

module _ {B : Type 0} (pass : Row → Bool) (n : ℕ) (ls rs : List Row) (g h : Row → B) where
  pub unused_left : ((l : Row) → Contains ls l → AtMostOne (λ r. pass (l ++ r)) rs) →
      ((l r : Row) → Contains ls l → Contains rs r → g (l ++ r) ≡ h l) → ((l : Row) → Contains ls l → g (l ++ replicate n cell.Null) ≡ h l) →
      IsPermutation (map g (left_pairs pass n ls rs)) (map h ls)
  unused_left one met lone =
      IsPermutation-trans _ _ _ (bag_same (map-append g (filter pass (pairs ls rs)) (map pad (filter alone ls)) ∙ (λ i. with_one i ++ without i)))
      (IsPermutation-trans _ _ _ (IsPermutation-append_comm (map h (filter (λ l. not (alone l)) ls)) (map h (filter alone ls)))
      (IsPermutation-trans _ _ _ (bag_same (sym (map-append h (filter alone ls) (filter (λ l. not (alone l)) ls))))
      (IsPermutation-map h _ _ (bag_split alone ls))))
    where
      alone : Row → Bool
      alone l = is_alone pass rs l

      pad : Row → Row
      pad l = l ++ replicate n cell.Null

      made : Row → Row → List B
      made l r = cond (pass (l ++ r)) (g (l ++ r) ∷ []) []

      with_one : map g (filter pass (pairs ls rs)) ≡ map h (filter (λ l. not (alone l)) ls)
      with_one =
          map_filter_is_flat_map g pass (pairs ls rs)
          ∙ flat_map-flat_map (λ row. cond (pass row) (g row ∷ []) []) (λ l. map (λ r. l ++ r) rs) ls
          ∙ flat_map_agree_on _ (λ l. cond (not (alone l)) (h l ∷ []) []) ls (λ l c.
          flat_map-map (λ row. cond (pass row) (g row ∷ []) []) (λ r. l ++ r) rs
          ∙ flat_map_agree_on (made l) (λ r. cond (pass (l ++ r)) (h l ∷ []) []) rs (λ r d i. cond (pass (l ++ r)) (met l r c d i ∷ []) [])
          ∙ once pass rs l (h l ∷ []) (one l c))
          ∙ sym (map_filter_is_flat_map h (λ l. not (alone l)) ls)

      without : map g (map pad (filter alone ls)) ≡ map h (filter alone ls)
      without =
          map-map g pad (filter alone ls)
          ∙ map_agree_on (λ l. g (pad l)) h (filter alone ls) (λ l c. lone l (Contains-from_filter alone ls l c).0)

-- the right side is a table, each column of a key of which the condition ties to an expression over the left columns; only left columns are used
pub unused_left-rows : {B : Type 0} (p : Expr → Bool) (c : Expr) (key : Key) (n w : ℕ) (ls rows : List Row) (g : Row → B) → KeyHolds key rows → AreWide n ls → all_valued p c n key.columns ≡ true →
    ((e : Expr) → p e ≡ true → (l x : Row) → length l ≡ n → value_of e (l ++ x) ≡ value_of e l) → ((l x : Row) → length l ≡ n → g (l ++ x) ≡ g l) →
    IsPermutation (map g (left_pairs (holds c) w ls rows)) (map g ls)
unused_left-rows p c key n w ls rows g h wide t v u = unused_left (holds c) w ls rows g g
    (λ l d. only_one_valued p c key l rows (λ e k q s. v e k l q (wide l d) ∙ sym (v e k l s (wide l d))) (ap (λ m. all_valued p c m key.columns) (wide l d) ∙ t) h)
    (λ l r d f. u l r (wide l d))
    (λ l d. u l (replicate w cell.Null) (wide l d))
