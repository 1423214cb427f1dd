-- Columns behind the first n, part by part.
use Rattle.std.specs.Prelude.{◌≡◌, ℕ, ◌||◌, nat_le, List, ◌++◌}
use Rattle.std.specs.List.{list_any}
use Rattle.std.proofs.lemmas.List.Folds.{list_any-append}

pub some_behind : (n : ℕ) (xs ys : List ℕ) → list_any (nat_le n) (xs ++ ys) ≡ (list_any (nat_le n) xs || list_any (nat_le n) ys)
some_behind n xs ys = list_any-append (nat_le n) xs ys

pub ruleset behind_lists = (some_behind)
