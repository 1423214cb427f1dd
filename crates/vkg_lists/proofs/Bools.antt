-- Tests joined by `&&`, `||` and `not`.
use Rattle.std.proofs.Common.{◌≡◌, refl, Bool, true, false, not, ◌&&◌, ◌||◌}
pub use Rattle.std.specs.Cmp.{both_ways as same_truth}
pub use Rattle.std.proofs.lemmas.Bool.{and_from as and_true, and_parts, or_left, or_right, or_parts as neither, false_from_ne_true as is_false, not-true as not_true, not-false as not_false}

pub implied : (a b : Bool) → (not a || b) ≡ true → a ≡ true → b ≡ true
implied true b e f = e
implied false b e f = cc

pub and_absorbs : (a b : Bool) → (b ≡ true → a ≡ true) → (a && b) ≡ b
and_absorbs true b h = refl
and_absorbs false true h = h refl
and_absorbs false false h = refl
