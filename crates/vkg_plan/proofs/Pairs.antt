-- Pairs of rows in either grouping, and with the one row without columns.
use Rattle.std.proofs.Common.{◌≡◌, refl, ◌∙◌, List, [], ◌∷◌, ◌++◌, map, append_assoc, append-nil}
use Rattle.std.proofs.lemmas.List.{map-id}
use Rattle.vkg_lists.proofs.Pairs.{pairs_with-assoc}
use Rattle.vkg_schema.specs.Rows.{Row}
use Rattle.vkg_plan.specs.Rows.{pairs}

pub pairs-assoc : (ls rs ts : List Row) → pairs (pairs ls rs) ts ≡ pairs ls (pairs rs ts)
pairs-assoc ls rs ts = pairs_with-assoc (λ (x y : Row). x ++ y) (λ (x y : Row). x ++ y) (λ (x y : Row). x ++ y) (λ (x y : Row). x ++ y) (λ x y z. append_assoc x y z) ls rs ts

pub pairs-unit : (ls : List Row) → pairs ls ([] ∷ []) ≡ ls
pairs-unit [] = refl
pairs-unit (l ∷ ls) = λ i. append-nil l i ∷ pairs-unit ls i

pub unit-pairs : (rs : List Row) → pairs ([] ∷ []) rs ≡ rs
unit-pairs rs = append-nil (map (λ (r : Row). [] ++ r) rs) ∙ map-id rs
