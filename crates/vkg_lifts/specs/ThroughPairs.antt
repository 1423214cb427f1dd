-- Rows that went through a function on either side, paired, are pairs that went through one.
use Rattle.std.proofs.Common.{◌≡◌, ◌∙◌, ℕ, Bool, not, ◌&&◌, List, [], ◌∷◌, ◌++◌, length, map, refl, sym, ap}
use Rattle.std.specs.Prelude.{replicate}
use Rattle.std.specs.List.{AllByRecursion, filter}
use Rattle.std.proofs.lemmas.List.{map-append}
use Rattle.vkg_lists.proofs.Each.{recursion_filter}
use Rattle.vkg_lists.proofs.Members.{each_from_recursion, filter_agree_on}
use Rattle.vkg_lists.proofs.Walks.{filter-map}
use Rattle.vkg_cells.specs.declared.cell.Cell.TheVariants as cell
use Rattle.vkg_schema.specs.Rows.{Row}
use Rattle.vkg_plan.specs.Rows.{is_alone, left_pairs, pairs}

-- each row has n cells
abbrev pub AreOfWidth : ℕ → List Row → Type 0
AreOfWidth n = AllByRecursion (λ row. length row ≡ n)

-- f on rows of n cells, g on rows of w cells, h on their pairs
module _ (f g h : Row → Row) (n w : ℕ) (both : (l r : Row) → length l ≡ n → length r ≡ w → f l ++ g r ≡ h (l ++ r)) where
  one-through : (l : Row) (rs : List Row) → length l ≡ n → AreOfWidth w rs → map (λ r. f l ++ r) (map g rs) ≡ map h (map (λ r. l ++ r) rs)
  one-through l [] ll lr = refl
  one-through l (r ∷ rs) ll lr = λ i. both l r ll lr.0 i ∷ one-through l rs ll lr.1 i

  pub pairs-through : (ls rs : List Row) → AreOfWidth n ls → AreOfWidth w rs → pairs (map f ls) (map g rs) ≡ map h (pairs ls rs)
  pairs-through [] rs ll lr = refl
  pairs-through (l ∷ ls) rs ll lr =
      (λ i. one-through l rs ll.0 lr i ++ pairs-through ls rs ll.1 lr i)
      ∙ sym (map-append h (map (λ r. l ++ r) rs) (pairs ls rs))

  -- a test of what the function gives, and the test of its argument that it is
  module _ (pass test : Row → Bool) (same : (row : Row) → pass (h row) ≡ test row) where
    alone-through : (l : Row) (rs : List Row) → length l ≡ n → AreOfWidth w rs → is_alone pass (map g rs) (f l) ≡ is_alone test rs l
    alone-through l [] ll lr = refl
    alone-through l (r ∷ rs) ll lr = λ i. not ((ap pass (both l r ll lr.0) ∙ same (l ++ r)) i) && alone-through l rs ll lr.1 i

    padded-through : (m k : ℕ) → ((l : Row) → length l ≡ n → f l ++ replicate m cell.Null ≡ h (l ++ replicate k cell.Null)) → (ls : List Row) → AreOfWidth n ls →
        map (λ l. l ++ replicate m cell.Null) (map f ls) ≡ map h (map (λ l. l ++ replicate k cell.Null) ls)
    padded-through m k pad [] ll = refl
    padded-through m k pad (l ∷ ls) ll = λ i. pad l ll.0 i ∷ padded-through m k pad ls ll.1 i

    -- the left rows without a match have m NULLs behind them, and k below the function
    pub left-through : (m k : ℕ) → ((l : Row) → length l ≡ n → f l ++ replicate m cell.Null ≡ h (l ++ replicate k cell.Null)) → (ls rs : List Row) → AreOfWidth n ls → AreOfWidth w rs →
        left_pairs pass m (map f ls) (map g rs) ≡ map h (left_pairs test k ls rs)
    left-through m k pad ls rs ll lr =
        let lone = filter (is_alone test rs) ls in
        let kept : filter pass (pairs (map f ls) (map g rs)) ≡ map h (filter test (pairs ls rs))
        = ap (filter pass) (pairs-through ls rs ll lr) ∙ filter-map pass h (pairs ls rs) ∙ (λ i. map h (filter (λ row. same row i) (pairs ls rs))) in
        let left : filter (is_alone pass (map g rs)) (map f ls) ≡ map f lone
        = filter-map (is_alone pass (map g rs)) f ls
        ∙ ap (map f) (filter_agree_on (λ l. is_alone pass (map g rs) (f l)) (is_alone test rs) ls (λ l c. alone-through l rs (each_from_recursion (λ row. length row ≡ n) ls ll l c) lr)) in
        let padded : map (λ l. l ++ replicate m cell.Null) (filter (is_alone pass (map g rs)) (map f ls)) ≡ map h (map (λ l. l ++ replicate k cell.Null) lone)
        = ap (map (λ l. l ++ replicate m cell.Null)) left ∙ padded-through m k pad lone (recursion_filter (λ row. length row ≡ n) (is_alone test rs) ls ll) in
        (λ i. kept i ++ padded i) ∙ sym (map-append h (filter test (pairs ls rs)) (map (λ l. l ++ replicate k cell.Null) lone))
