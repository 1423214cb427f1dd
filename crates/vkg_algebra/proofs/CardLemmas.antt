-- How often a map is in a filter, a join and a left join.
use Rattle.std.proofs.Common.{◌≡◌, ◌∙◌, ◌+◌, Bool, true, false, ◌&&◌, cond, List, [], ◌∷◌, refl, sym, ap, true≢false, arith}
use Rattle.std.specs.List.{count_by, filter, flat_map, sum_by}
use Rattle.std.proofs.lemmas.Bool.{cond_both}
use Rattle.vkg_lists.specs.Rows.{merged_if_compatible}
use Rattle.vkg_lists.proofs.Bools.{and_absorbs}
use Rattle.vkg_lists.proofs.Counts.{count_by-append, count_by-filter, count_by-flat_map, count_none, eq_same}
use Rattle.vkg_lists.proofs.Members.{Contains-from_filter}
use Rattle.vkg_terms.specs.Same.{term_eq}
use Rattle.vkg_algebra.specs.Answer.{solution_eq}
use Rattle.vkg_algebra.specs.Laws.{HasCardinality, card, join_card}
use Rattle.vkg_algebra.specs.Solutions.{Solution, compatible, difference, join, merge}
use Rattle.vkg_algebra.proofs.MapLemmas.{alone_of, of_alone, solution_test}

-- ---- the filter

module _ (p : Solution → Bool) (ms : List Solution) (m : Solution) where
  card-filter_passes : p m ≡ true → card (filter p ms) m ≡ card ms m
  card-filter_passes h = count_by-filter (solution_eq m) p ms ∙ (λ i. count_by (λ x. same x i) ms)
    where
      same : (x : Solution) → p x && solution_eq m x ≡ solution_eq m x
      same x = and_absorbs (p x) (solution_eq m x) (λ e. ap p (sym (eq_same solution_test m x e)) ∙ h)

  card-filter_fails : p m ≡ false → card (filter p ms) m ≡ 0
  card-filter_fails h = count_none solution_test (filter p ms) m (λ c. true≢false (sym (Contains-from_filter p ms m c).1 ∙ h))

  card-filter : card (filter p ms) m ≡ cond (p m) (card ms m) 0
  card-filter = cond_both (p m) (card ms m) 0 (λ n. card (filter p ms) m ≡ n) card-filter_passes card-filter_fails

-- ---- the join

card-one : (m x : Solution) (b : Bool) → card (cond b (x ∷ []) []) m ≡ cond (b && solution_eq m x) 1 0
card-one m x true = omega arith
card-one m x false = refl

card-join : (ls rs : List Solution) (m : Solution) → card (join ls rs) m ≡ join_card ls rs m
card-join ls rs m =
    count_by-flat_map (solution_eq m) (λ l. flat_map (λ r. merged_if_compatible term_eq l r) rs) ls
    ∙ (λ i. sum_by (λ l. with_one l i) ls)
  where
    with_one : (l : Solution) → card (flat_map (λ r. merged_if_compatible term_eq l r) rs) m ≡ count_by (λ r. compatible l r && solution_eq m (merge l r)) rs
    with_one l = count_by-flat_map (solution_eq m) (λ r. merged_if_compatible term_eq l r) rs ∙ (λ i. sum_by (λ r. card-one m (merge l r) (compatible l r) i) rs)

-- ---- the left join

pub has_cardinality : (holds : Solution → Bool) (ls rs : List Solution) (m : Solution) → HasCardinality holds ls rs m
has_cardinality holds ls rs m = record {
  alone = card (difference holds ls rs) m;
  total = count_by-append (solution_eq m) (filter holds (join ls rs)) (difference holds ls rs)
      ∙ ap (λ n. n + card (difference holds ls rs) m) (card-filter holds (join ls rs) m ∙ ap (λ n. cond (holds m) n 0) (card-join ls rs m));
  stays = λ a. card-filter_passes _ ls m (Contains-from_filter _ ls m (of_alone holds ls rs m a)).1;
  goes = λ n. count_none solution_test (difference holds ls rs) m (λ c. n (alone_of holds ls rs m c));
}
