-- The rows of a left join by its left rows, where the right rows that a left row may meet are one by a key.
use Rattle.std.proofs.Common.{◌≡◌, ◌∙◌, inl, inr, ℕ, Bool, true, false, cond, not, List, [], ◌∷◌, ◌++◌, map, replicate, refl, sym, ap, subst}
use Rattle.std.specs.List.{Contains, filter, flat_map, list_all}
use Rattle.std.specs.List.Sorted.{IsPermutation}
use Rattle.std.proofs.lemmas.Bool.{cases_Bool}
use Rattle.std.proofs.lemmas.List.{map-append}
use Rattle.std.proofs.lemmas.List.Sorted.{IsPermutation-trans}
use Rattle.vkg_lists.proofs.Bags.{bag_flat_map_append, bag_same}
use Rattle.vkg_lists.proofs.Members.{Contains-flat_map, Contains-from_cond, Contains-none, all_of_each, each_of_all, filter_keeps}
use Rattle.vkg_lists.proofs.Walks.{map-map, map_filter_is_flat_map}
use Rattle.vkg_cells.specs.declared.cell.Cell.TheVariants as cell
use Rattle.vkg_schema.specs.declared.table.Key.{Key}
use Rattle.vkg_schema.specs.Meets.{KeyHolds}
use Rattle.vkg_schema.specs.Rows.{Row, agree}
use Rattle.vkg_plan.specs.Rows.{is_alone, left_pairs, pairs}
use Rattle.vkg_keys.specs.Keys.{with_itself}
use Rattle.vkg_keys.proofs.OnlyOne.{walk-agreeing}
use Rattle.vkg_keys.proofs.Products.{flat_map-pairs}

-- ---- by left rows

module _ {B : Type 0} (pass : Row → Bool) (n : ℕ) (rs : List Row) (g : Row → B) where
  -- what a left row makes with its partners
  abbrev pub with_partners : Row → List B
  with_partners l = flat_map (λ r. cond (pass (l ++ r)) (g (l ++ r) ∷ []) []) rs

  -- and what it makes if it has none
  abbrev pub without_partner : Row → List B
  without_partner l = cond (is_alone pass rs l) (g (l ++ replicate n cell.Null) ∷ []) []

  pub left-by_rows : (ls : List Row) → IsPermutation (map g (left_pairs pass n ls rs)) (flat_map (λ l. with_partners l ++ without_partner l) ls)
  left-by_rows ls =
      let alone = is_alone pass rs in
      let pad = λ (l : Row). l ++ replicate n cell.Null in
      let joined : map g (filter pass (pairs ls rs)) ≡ flat_map with_partners ls =
      map_filter_is_flat_map g pass (pairs ls rs) ∙ flat_map-pairs (λ row. cond (pass row) (g row ∷ []) []) ls rs in
      let lone : map g (map pad (filter alone ls)) ≡ flat_map without_partner ls =
      map-map g pad (filter alone ls) ∙ map_filter_is_flat_map (λ l. g (pad l)) alone ls in
      IsPermutation-trans _ _ _
      (bag_same (map-append g (filter pass (pairs ls rs)) (map pad (filter alone ls)) ∙ (λ i. joined i ++ lone i)))
      (bag_flat_map_append with_partners without_partner ls)

-- one for each row
pub each_once : {B : Type 0} (h : Row → B) (ls : List Row) → flat_map (λ l. h l ∷ []) ls ≡ map h ls
each_once h ls = sym (map_filter_is_flat_map h (λ l. true) ls) ∙ ap (map h) (filter_keeps (λ l. true) ls (λ l c. refl))

-- ---- under a key

module _ (key : Key) (rows : List Row) (holds : KeyHolds key rows) (pass : Row → Bool) (r : Row) (c : Contains rows r)
    (apart : (q : Row) → Contains rows q → agree (with_itself key.columns) r q ≡ false → pass q ≡ false) where
  -- of the rows of the table the row itself alone can pass
  pub itself : {B : Type 0} (f : Row → List B) → flat_map (λ q. cond (pass q) (f q) []) rows ≡ cond (pass r) (f r) []
  itself f = walk-agreeing key rows holds (λ q. cond (pass q) (f q) []) r c (λ q d e. ap (λ b. cond b (f q) []) (apart q d e))

  pub itself-alone : list_all (λ q. not (pass q)) rows ≡ not (pass r)
  itself-alone = elim (cases_Bool (pass r)) [
    | inl t ↦ elim (cases_Bool (list_all (λ q. not (pass q)) rows)) [
      | inl a ↦ a ∙ sym (each_of_all (λ q. not (pass q)) rows a r c)
      | inr f ↦ f ∙ sym (ap not t)
    ]
    | inr f ↦ all_of_each (λ q. not (pass q)) rows (λ q d. ap not (none f q d)) ∙ sym (ap not f)
  ]
    where
      none : pass r ≡ false → (q : Row) → Contains rows q → pass q ≡ false
      none f q d =
          let nothing : flat_map (λ z. cond (pass z) (true ∷ []) []) rows ≡ [] = itself (λ z. true ∷ []) ∙ ap (λ b. cond b (true ∷ []) []) f in
          elim (cases_Bool (pass q)) [
            | inl t ↦ absurd (Contains-none true (subst (λ l. Contains l true) nothing (Contains-flat_map (λ z. cond (pass z) (true ∷ []) []) rows q true d (Contains-from_cond (pass q) true t))))
            | inr e ↦ e
          ]
