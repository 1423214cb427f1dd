-- What is made of rows and more rows is what is made of the ones and of the others, as a bag: so of each node, and of its rows over a union.
use Rattle.std.proofs.Common.{◌≡◌, ◌∙◌, ℕ, Bool, List, [], ◌∷◌, ◌++◌, map, refl, ap}
use Rattle.std.specs.Prelude.{replicate}
use Rattle.std.specs.List.{filter, flat_map}
use Rattle.std.specs.List.Sorted.{IsPermutation}
use Rattle.std.proofs.lemmas.List.{map-append}
use Rattle.std.proofs.lemmas.List.Concat.{flat_map-append}
use Rattle.std.proofs.lemmas.List.Elements.{filter-append}
use Rattle.std.proofs.lemmas.List.Sorted.{IsPermutation-append, IsPermutation-map, IsPermutation-refl, IsPermutation-sym, IsPermutation-trans}
use Rattle.vkg_lists.proofs.Bags.{bag_filter, bag_flat_map_append, bag_middle, bag_same}
use Rattle.vkg_cells.specs.declared.cell.Cell.TheVariants as cell
use Rattle.vkg_schema.specs.Rows.{Row}
use Rattle.vkg_plan.specs.Rows.{is_alone, left_pairs, pairs}
use Rattle.vkg_rules.specs.Nodes.{same_pairs}

pub record IsAdditive (g : List Row → List Row) : Type 0 where
  pub none : g [] ≡ []
  pub both : (xs ys : List Row) → IsPermutation (g (xs ++ ys)) (g xs ++ g ys)

-- of any number of lists of rows
pub each-additive : (g : List Row → List Row) → IsAdditive g → (rss : List (List Row)) → IsPermutation (g (flat_map (λ rows. rows) rss)) (flat_map g rss)
each-additive g a [] = bag_same a.none
each-additive g a (rs ∷ rss) =
    IsPermutation-trans _ _ _ (a.both rs (flat_map (λ rows. rows) rss)) (IsPermutation-append _ _ _ _ (IsPermutation-refl (g rs)) (each-additive g a rss))

-- the rows themselves
pub rows-additive : IsAdditive (λ rows. rows)
rows-additive = record { none = refl; both = λ xs ys. IsPermutation-refl (xs ++ ys) }

-- those that pass
pub filter-additive : (pass : Row → Bool) (g : List Row → List Row) → IsAdditive g → IsAdditive (λ rows. filter pass (g rows))
filter-additive pass g a = record {
  none = ap (filter pass) a.none;
  both = λ xs ys. IsPermutation-trans _ _ _ (bag_filter pass (a.both xs ys)) (bag_same (filter-append pass (g xs) (g ys)));
}

-- what is made of each
pub map-additive : (f : Row → Row) (g : List Row → List Row) → IsAdditive g → IsAdditive (λ rows. map f (g rows))
map-additive f g a = record {
  none = ap (map f) a.none;
  both = λ xs ys. IsPermutation-trans _ _ _ (IsPermutation-map f _ _ (a.both xs ys)) (bag_same (map-append f (g xs) (g ys)));
}

-- two such lists one after the other
pub beside-additive : (f g : List Row → List Row) → IsAdditive f → IsAdditive g → IsAdditive (λ rows. f rows ++ g rows)
beside-additive f g a b = record {
  none = λ i. a.none i ++ b.none i;
  both = λ xs ys. IsPermutation-trans _ _ _ (IsPermutation-append _ _ _ _ (a.both xs ys) (b.both xs ys)) (bag_middle (f xs) (f ys) (g xs) (g ys));
}

-- their pairs with others behind them
pub pairs-additive : (ts : List Row) → IsAdditive (λ rows. pairs rows ts)
pairs-additive ts = record { none = refl; both = λ xs ys. bag_same (flat_map-append (λ l. map (λ r. l ++ r) ts) xs ys) }

pairs-none : (ls : List Row) → pairs ls [] ≡ []
pairs-none [] = refl
pairs-none (l ∷ ls) = pairs-none ls

pairs-both : (ls rs ts : List Row) → IsPermutation (pairs ls (rs ++ ts)) (pairs ls rs ++ pairs ls ts)
pairs-both ls rs ts =
    let split : pairs ls (rs ++ ts) ≡ flat_map (λ l. map (λ r. l ++ r) rs ++ map (λ r. l ++ r) ts) ls = λ i. flat_map (λ l. map-append (λ r. l ++ r) rs ts i) ls in
    IsPermutation-trans _ _ _ (bag_same split) (IsPermutation-sym _ _ (bag_flat_map_append (λ l. map (λ r. l ++ r) rs) (λ l. map (λ r. l ++ r) ts) ls))

-- and with others before them
pub behind-additive : (ls : List Row) (g : List Row → List Row) → IsAdditive g → IsAdditive (λ rows. pairs ls (g rows))
behind-additive ls g a = record {
  none = ap (pairs ls) a.none ∙ pairs-none ls;
  both = λ xs ys. IsPermutation-trans _ _ _ (same_pairs ls ls (g (xs ++ ys)) (g xs ++ g ys) (IsPermutation-refl ls) (a.both xs ys)) (pairs-both ls (g xs) (g ys));
}

-- the pairs that pass, and the rows without one
pub left-additive : (pass : Row → Bool) (n : ℕ) (ts : List Row) → IsAdditive (λ rows. left_pairs pass n rows ts)
left-additive pass n ts =
    let nulls : Row → Row = λ l. l ++ replicate n cell.Null in
    beside-additive (λ rows. filter pass (pairs rows ts)) (λ rows. map nulls (filter (is_alone pass ts) rows))
    (filter-additive pass (λ rows. pairs rows ts) (pairs-additive ts))
    (map-additive nulls (filter (is_alone pass ts)) (filter-additive (is_alone pass ts) (λ rows. rows) rows-additive))
