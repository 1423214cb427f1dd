-- The parts of a row that is made of several: where their cells stand, and where a condition that ties two of them fails.
use Rattle.std.proofs.Common.{◌≡◌, ◌∙◌, ⊎_elim, ℕ, ◌+◌, ◌<◌, true, false, true≢false, List, [], ◌∷◌, ◌++◌, length, length-append, sym, ap, subst, arith, append_assoc}
use Rattle.std.specs.List.{AllByRecursion}
use Rattle.std.proofs.lemmas.Bool.{cases_Bool}
use Rattle.vkg_lists.specs.Lists.{AllBelow}
use Rattle.vkg_schema.specs.Rows.{Row, agree, cell_at}
use Rattle.vkg_schema.proofs.RowCells.{cell_at-left, cell_at-right}
use Rattle.vkg_expr.specs.Expr.{Expr}
use Rattle.vkg_expr.specs.Value.{holds}
use Rattle.vkg_keys.specs.Keys.{firsts, seconds}
use Rattle.vkg_keys.specs.Ties.{all_tied}
use Rattle.vkg_keys.proofs.TiedColumns.{all_tied-agree}

pub part-at : (a r rest : Row) (i k : ℕ) → length a ≡ i → k < length r → cell_at (a ++ (r ++ rest)) (i + k) ≡ cell_at r k
part-at a r rest i k la h = cell_at-right a (r ++ rest) (i + k) k (omega (arith, la)) ∙ cell_at-left r rest k h

pub first_cells : (a r rest : Row) (i : ℕ) (ties : List (ℕ × ℕ)) → length a ≡ i → AllBelow (length r) (firsts ties) → AllByRecursion (λ p. cell_at (a ++ (r ++ rest)) (i + p.0) ≡ cell_at r p.0) ties
first_cells a r rest i [] la h = tt
first_cells a r rest i (p ∷ ties) la h = (part-at a r rest i p.0 la h.0, first_cells a r rest i ties la h.1)

pub second_cells : (a r rest : Row) (i : ℕ) (ties : List (ℕ × ℕ)) → length a ≡ i → AllBelow (length r) (seconds ties) → AllByRecursion (λ p. cell_at (a ++ (r ++ rest)) (i + p.1) ≡ cell_at r p.1) ties
second_cells a r rest i [] la h = tt
second_cells a r rest i (p ∷ ties) la h = (part-at a r rest i p.1 la h.0, second_cells a r rest i ties la h.1)

-- three parts in front of two
pub regrouped : (a r b q d : Row) → (a ++ (r ++ b)) ++ (q ++ d) ≡ a ++ (r ++ (b ++ (q ++ d)))
regrouped a r b q d = append_assoc a (r ++ b) (q ++ d) ∙ ap (λ z. a ++ z) (append_assoc r b (q ++ d))

pub front : (a r b : Row) (n w k : ℕ) → length a ≡ n → length r ≡ w → length b ≡ k → length (a ++ (r ++ b)) ≡ n + (w + k)
front a r b n w k la lr lb = let x = length-append a (r ++ b) in let y = length-append r b in omega (arith, x, y, la, lr, lb)

not_held : (c : Expr) (row l r : Row) (ties : List (ℕ × ℕ)) → (holds c row ≡ true → agree ties l r ≡ true) → agree ties l r ≡ false → holds c row ≡ false
not_held c row l r ties h e = ⊎_elim (λ t. absurd (true≢false (sym (h t) ∙ e))) (λ f. f) (cases_Bool (holds c row))

-- the parts r and q, which do not agree in the pairs of columns that the condition ties; q stands behind r
pub tied-behind : (c : Expr) (ties : List (ℕ × ℕ)) (n w k : ℕ) (a r b q d : Row) → length a ≡ n → length r ≡ w → length b ≡ k → AllBelow w (firsts ties) → AllBelow (length q) (seconds ties) →
    all_tied c n (n + (w + k)) ties ≡ true → agree ties r q ≡ false → holds c (a ++ (r ++ (b ++ (q ++ d)))) ≡ false
tied-behind c ties n w k a r b q d la lr lb fs ss t e = not_held c _ r q ties
    (all_tied-agree c n (n + (w + k)) ties (a ++ (r ++ (b ++ (q ++ d)))) r q t
    (first_cells a r (b ++ (q ++ d)) n ties la (subst (λ m. AllBelow m (firsts ties)) (sym lr) fs))
    (subst (λ row. AllByRecursion (λ p. cell_at row (n + (w + k) + p.1) ≡ cell_at q p.1) ties) (regrouped a r b q d) (second_cells (a ++ (r ++ b)) q d (n + (w + k)) ties (front a r b n w k la lr lb) ss)))
    e

-- and q stands before r
pub tied-before : (c : Expr) (ties : List (ℕ × ℕ)) (n w k : ℕ) (a r b q d : Row) → length a ≡ n → length q ≡ w → length b ≡ k → AllBelow (length r) (firsts ties) → AllBelow w (seconds ties) →
    all_tied c (n + (w + k)) n ties ≡ true → agree ties r q ≡ false → holds c (a ++ (q ++ (b ++ (r ++ d)))) ≡ false
tied-before c ties n w k a r b q d la lq lb fs ss t e = not_held c _ r q ties
    (all_tied-agree c (n + (w + k)) n ties (a ++ (q ++ (b ++ (r ++ d)))) r q t
    (subst (λ row. AllByRecursion (λ p. cell_at row (n + (w + k) + p.0) ≡ cell_at r p.0) ties) (regrouped a q b r d) (first_cells (a ++ (q ++ b)) r d (n + (w + k)) ties (front a q b n w k la lq lb) fs))
    (second_cells a q (b ++ (r ++ d)) n ties la (subst (λ m. AllBelow m (seconds ties)) (sym lq) ss)))
    e
