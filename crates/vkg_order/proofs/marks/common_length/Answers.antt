use Rattle.std.proofs.Common.{◌≡◌, ◌≤◌, ℕ, List, [], ◌∷◌, length, drop, refl, ap, ◌∙◌, arith}
use Rattle.std.proofs.Math.ListN.{drop_of_length-le}
use Rattle.vkg_order.specs.Marks.{common_length}
use Rattle.vkg_order.proofs.marks.common_length.Goals as goal

none_left : (a : List ℕ) → common_length a [] ≡ 0
none_left [] = refl
none_left (x ∷ a) = refl

at_end : (a b : List ℕ) (n : ℕ) → length b ≤ n → common_length (drop n a) (drop n b) ≡ 0
at_end a b n h = ap (common_length (drop n a)) (drop_of_length-le b h) ∙ none_left (drop n a)

pub returns-else-n-b : goal.returns-else-n-b
returns-else-n-b c = let e = at_end c.args.a.now c.args.b.now c.loop-n.n (omega arith) in omega (arith, e, c.loop-n.invariant)
