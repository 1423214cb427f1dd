-- Joins of rows are joins of the solutions that they are.
use Rattle.std.proofs.Common.{◌≡◌, ℕ, Bool, true, false, List, [], ◌∷◌, ◌++◌, map, refl, sym, ap, ◌∙◌}
use Rattle.std.specs.Prelude.{Option, not, ◌&&◌, replicate, filter, flat_map, if◌then◌else◌}
use Rattle.std.specs.Option.{option_or}
use Rattle.std.specs.List.{list_all, AllByRecursion}
use Rattle.std.specs.List.Sorted.{IsPermutation}
use Rattle.std.proofs.lemmas.List.Elements.{filter-append}
use Rattle.std.proofs.lemmas.List.{map-append}
use Rattle.std.proofs.Math.Bool.{and-true}
use Rattle.vkg_lists.specs.Rows.{merged_if_compatible}
use Rattle.vkg_lists.specs.Rows as rows
use Rattle.vkg_lists.proofs.Joins as joins
use Rattle.vkg_lists.proofs.Walks.{map_filter_is_flat_map}
use Rattle.vkg_lists.proofs.Members.{filter_keeps}
use Rattle.vkg_terms.specs.declared.term.Term.{Term}
use Rattle.vkg_terms.specs.Same.{term_eq}
use Rattle.vkg_cells.specs.declared.cell.Cell.TheVariants as cell
use Rattle.vkg_schema.specs.Rows.{Row}
use Rattle.vkg_algebra.specs.Solutions.{Solution, compatible, merge, join, difference, left_join}
use Rattle.vkg_plan.specs.Rows.{pairs, is_alone, left_pairs}

-- two terms agree unless both are there and differ
abbrev pub agree : Option Term → Option Term → Bool
agree o p = rows.agree term_eq o p

-- the merges of one solution with those that are compatible with it
abbrev pub merges : Solution → List Solution → List Solution
merges l rs = map (merge l) (filter (compatible l) rs)

merges_are : (l : Solution) (rs : List Solution) → flat_map (λ r. merged_if_compatible term_eq l r) rs ≡ merges l rs
merges_are l rs = sym (map_filter_is_flat_map (merge l) (compatible l) rs)

pub join_is : (ls rs : List Solution) → join ls rs ≡ flat_map (λ l. merges l rs) ls
join_is ls rs = λ i. flat_map (λ l. merges_are l rs i) ls

pub bag_join : {ls ms rs ss : List Solution} → IsPermutation ls ms → IsPermutation rs ss → IsPermutation (join ls rs) (join ms ss)
bag_join h k = joins.bag_join term_eq h k

-- merge of two tables over the same variables goes by variable
pub merge-map : (f g : ℕ → Option Term) (vs : List ℕ) → merge (map f vs) (map g vs) ≡ map (λ v. option_or (f v) (g v)) vs
merge-map f g [] = refl
merge-map f g (v ∷ vs) = ap (λ s. option_or (f v) (g v) ∷ s) (merge-map f g vs)

pub map-filter : {X Y : Type 0} (f : X → Y) (p : X → Bool) (x : X) (xs : List X) → map f (filter p (x ∷ xs)) ≡ (if p x then f x ∷ map f (filter p xs) else map f (filter p xs))
map-filter f p x xs = of (p x)
  where
    of : (b : Bool) → map f (if b then x ∷ filter p xs else filter p xs) ≡ (if b then f x ∷ map f (filter p xs) else map f (filter p xs))
    of true = refl
    of false = refl

-- LeftJoin: the condition of the plan is compatibility and the filter
module _ (P Q : Row → Type 0) (a b c : Row → Solution) (pass : Row → Bool) (hold : Solution → Bool)
    (agrees : (l r : Row) → P l → Q r → pass (l ++ r) ≡ (compatible (a l) (b r) && hold (merge (a l) (b r))))
    (merged : (l r : Row) → P l → Q r → c (l ++ r) ≡ merge (a l) (b r)) where
  -- one left row with its passing pairs
  one_passing : (l : Row) (rs : List Row) → P l → AllByRecursion Q rs → map c (filter pass (map (λ r. l ++ r) rs)) ≡ filter hold (merges (a l) (map b rs))
  one_passing l [] p q = refl
  one_passing l (r ∷ rs) p q =
      map-filter c pass (l ++ r) (map (λ r. l ++ r) rs)
      ∙ Prim.rw (agrees l r p q.0, merged l r p q.0, one_passing l rs p q.1) (of (compatible (a l) (b r)) (hold (merge (a l) (b r))) refl)
    where
      rest : List Solution
      rest = filter hold (merges (a l) (map b rs))

      of : (x y : Bool) → hold (merge (a l) (b r)) ≡ y → (if x && y then merge (a l) (b r) ∷ rest else rest) ≡ filter hold (map (merge (a l)) (if x then b r ∷ filter (compatible (a l)) (map b rs) else filter (compatible (a l)) (map b rs)))
      of false y e = refl
      of true true e = Prim.rw e refl
      of true false e = Prim.rw e refl

  all_passing : (ls rs : List Row) → AllByRecursion P ls → AllByRecursion Q rs → map c (filter pass (pairs ls rs)) ≡ filter hold (flat_map (λ s. merges s (map b rs)) (map a ls))
  all_passing [] rs p q = refl
  all_passing (l ∷ ls) rs p q =
      ap (map c) (filter-append pass (map (λ r. l ++ r) rs) (pairs ls rs))
      ∙ map-append c (filter pass (map (λ r. l ++ r) rs)) (filter pass (pairs ls rs))
      ∙ Prim.rw (one_passing l rs p.0 q, all_passing ls rs p.1 q) (sym (filter-append hold (merges (a l) (map b rs)) (flat_map (λ s. merges s (map b rs)) (map a ls))))

  -- a left row has no passing pair exactly where its solution has no such merge
  none_passes : (l : Row) (rs : List Row) → P l → AllByRecursion Q rs → is_alone pass rs l ≡ list_all (λ s. not (compatible (a l) s && hold (merge (a l) s))) (map b rs)
  none_passes l [] p q = refl
  none_passes l (r ∷ rs) p q = Prim.rw (agrees l r p q.0, none_passes l rs p q.1) refl

  module _ (n : ℕ) (padded : (l : Row) → P l → c (l ++ replicate n cell.Null) ≡ a l) where
    lonely_rows : (ls rs : List Row) → AllByRecursion P ls → AllByRecursion Q rs →
        map c (map (λ l. l ++ replicate n cell.Null) (filter (is_alone pass rs) ls)) ≡ difference hold (map a ls) (map b rs)
    lonely_rows [] rs p q = refl
    lonely_rows (l ∷ ls) rs p q = Prim.rw (none_passes l rs p.0 q) (of (lonely_rows ls rs p.1 q) (list_all (λ s. not (compatible (a l) s && hold (merge (a l) s))) (map b rs)))
      where
        of : map c (map (λ l. l ++ replicate n cell.Null) (filter (is_alone pass rs) ls)) ≡ difference hold (map a ls) (map b rs) → (x : Bool) →
            map c (map (λ l. l ++ replicate n cell.Null) (if x then l ∷ filter (is_alone pass rs) ls else filter (is_alone pass rs) ls))
            ≡ (if x then a l ∷ difference hold (map a ls) (map b rs) else difference hold (map a ls) (map b rs))
        of rest true = Prim.rw (padded l p.0, rest) refl
        of rest false = rest

    -- what Left's rows are
    pub left_rows : (ls rs : List Row) → AllByRecursion P ls → AllByRecursion Q rs → map c (left_pairs pass n ls rs) ≡ left_join hold (map a ls) (map b rs)
    left_rows ls rs p q =
        map-append c (filter pass (pairs ls rs)) (map (λ l. l ++ replicate n cell.Null) (filter (is_alone pass rs) ls))
        ∙ (λ i. (all_passing ls rs p q ∙ ap (filter hold) (sym (join_is (map a ls) (map b rs)))) i ++ lonely_rows ls rs p q i)

-- Join: the condition of the plan is compatibility
module _ (P Q : Row → Type 0) (a b c : Row → Solution) (holds : Row → Bool)
    (agrees : (l r : Row) → P l → Q r → holds (l ++ r) ≡ compatible (a l) (b r))
    (merged : (l r : Row) → P l → Q r → c (l ++ r) ≡ merge (a l) (b r)) where
  -- what Join's rows are
  pub join_rows : (ls rs : List Row) → AllByRecursion P ls → AllByRecursion Q rs → map c (filter holds (pairs ls rs)) ≡ join (map a ls) (map b rs)
  join_rows ls rs p q =
      all_passing P Q a b c holds (λ s. true) (λ l r x y. agrees l r x y ∙ sym (and-true (compatible (a l) (b r)))) merged ls rs p q
      ∙ filter_keeps (λ s. true) (flat_map (λ s. merges s (map b rs)) (map a ls)) (λ s c. refl)
      ∙ sym (join_is (map a ls) (map b rs))
