-- Columns of several expressions that may be named.
use Rattle.std.specs.Prelude.{◌≡◌, ℕ, ◌&&◌, List, ◌++◌}
use Rattle.std.specs.List.{list_all}
use Rattle.std.proofs.lemmas.List.Folds.{list_all-append}
use Rattle.vkg_key_joins.specs.ParentJoin.{is_given}

pub given_both : (b n : ℕ) (pairs : List (ℕ × ℕ)) (xs ys : List ℕ) → list_all (is_given b n pairs) (xs ++ ys) ≡ (list_all (is_given b n pairs) xs && list_all (is_given b n pairs) ys)
given_both b n pairs xs ys = list_all-append (is_given b n pairs) xs ys

pub ruleset given_lists = (given_both)
