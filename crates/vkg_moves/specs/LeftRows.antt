-- Left joins of rows of which one side was kept by a test.
use Rattle.std.proofs.Common.{◌≡◌, ◌∙◌, ℕ, Bool, true, false, not, ◌&&◌, List, [], ◌∷◌, ◌++◌, map, refl, sym, ap}
use Rattle.std.specs.Prelude.{if◌then◌else◌, replicate}
use Rattle.std.specs.List.{AllByRecursion, filter, list_all}
use Rattle.std.proofs.lemmas.List.Elements.{filter-append}
use Rattle.vkg_lists.proofs.Members.{Contains-from_filter, each_from_recursion, filter_agree_on}
use Rattle.vkg_lists.proofs.Walks.{filter-filter, filter-map, filter_comm}
use Rattle.vkg_cells.specs.declared.cell.Cell.TheVariants as cell
use Rattle.vkg_schema.specs.Rows.{Row}
use Rattle.vkg_plan.specs.Rows.{is_alone, left_pairs, pairs}
use Rattle.vkg_joins.specs.KeptPairs.{left_kept, right_kept}

-- the left row with n NULLs
abbrev pub padded : ℕ → Row → Row
padded n l = l ++ replicate n cell.Null

-- a test that reads the left row alone, above a left join and below it
pub left_below : (P : Row → Type 0) (test pass : Row → Bool) (n : ℕ) → ((l : Row) → P l → (r : Row) → test (l ++ r) ≡ test l) → (ls rs : List Row) → AllByRecursion P ls →
    filter test (left_pairs pass n ls rs) ≡ left_pairs pass n (filter test ls) rs
left_below P test pass n same ls rs all =
    let alone = is_alone pass rs in
    let joined = filter_comm test pass (pairs ls rs) ∙ ap (filter pass) (sym (left_kept (λ (l r : Row). l ++ r) P test test (λ l k r. sym (same l k r)) ls all rs)) in
    let lone = filter_agree_on (λ l. test (padded n l)) test (filter alone ls) (λ l i. same l (each_from_recursion P ls all l (Contains-from_filter alone ls l i).0) (replicate n cell.Null)) ∙ filter_comm test alone ls in
    filter-append test (filter pass (pairs ls rs)) (map (padded n) (filter alone ls))
    ∙ (λ i. joined i ++ (filter-map test (padded n) (filter alone ls) ∙ ap (map (padded n)) lone) i)

-- no row that a test keeps passes with the row, and none passes both
alone_kept : (f g test : Row → Bool) → ((r : Row) → g r ≡ (test r && f r)) → (rs : List Row) → list_all (λ r. not (f r)) (filter test rs) ≡ list_all (λ r. not (g r)) rs
alone_kept f g test h [] = refl
alone_kept f g test h (r ∷ rs) = at (test r) (h r) (alone_kept f g test h rs)
  where
    at : (b : Bool) → g r ≡ (b && f r) → list_all (λ x. not (f x)) (filter test rs) ≡ list_all (λ x. not (g x)) rs →
        list_all (λ x. not (f x)) (if b then r ∷ filter test rs else filter test rs) ≡ (not (g r) && list_all (λ x. not (g x)) rs)
    at true e k = λ i. not (sym e i) && k i
    at false e k = k ∙ ap (λ b. not b && list_all (λ x. not (g x)) rs) (sym e)

-- a test of right rows below a left join, as a test of the pairs that comes before
pub right_above : (P : Row → Type 0) (test moved pass both : Row → Bool) (n : ℕ) → ((l : Row) → P l → (r : Row) → test r ≡ moved (l ++ r)) → ((row : Row) → both row ≡ (moved row && pass row)) →
    (ls rs : List Row) → AllByRecursion P ls → left_pairs pass n ls (filter test rs) ≡ left_pairs both n ls rs
right_above P test moved pass both n same h ls rs all =
    let joined =
    ap (filter pass) (right_kept (λ (l r : Row). l ++ r) P test moved same ls all rs)
    ∙ filter-filter pass moved (pairs ls rs)
    ∙ (λ i. filter (λ row. sym (h row) i) (pairs ls rs)) in
    let lone = filter_agree_on (is_alone pass (filter test rs)) (is_alone both rs) ls (λ l c.
    alone_kept (λ r. pass (l ++ r)) (λ r. both (l ++ r)) test (λ r. h (l ++ r) ∙ ap (λ b. b && pass (l ++ r)) (sym (same l (each_from_recursion P ls all l c) r))) rs) in
    λ i. joined i ++ map (padded n) (lone i)
