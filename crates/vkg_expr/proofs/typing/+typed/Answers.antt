-- As many expressions are seen as there are, and those behind the first are no deeper than all.
use Rattle.std.proofs.Common.{ℕ, zero, suc, ◌≤◌, ◌-◌, List, [], ◌∷◌, length, take, drop, rules, arith}
use denote.Param.Weighed.{most}
use Rattle.vkg_expr.proofs.expr.Expr.TheLaws.{the_size}
use Rattle.vkg_expr.proofs.KindLists.{length-each}
use Rattle.vkg_expr.proofs.typing.+typed.Goals as goal

pub operation-returns : goal.operation-returns
operation-returns t c = rw (length-each c.args.list.now) (search rules)

most-take : {X : Type 0} (size : X → ℕ) (n : ℕ) (xs : List X) → most size (take n xs) ≤ most size xs
most-take size zero xs = omega arith
most-take size (suc n) [] = omega arith
most-take size (suc n) (x ∷ xs) = let rest = most-take size n xs in omega (arith, rest)

most-drop : {X : Type 0} (size : X → ℕ) (k : ℕ) (xs : List X) → most size (drop k xs) ≤ most size xs
most-drop size zero xs = omega arith
most-drop size (suc k) [] = omega arith
most-drop size (suc k) (x ∷ xs) = let rest = most-drop size k xs in omega (arith, rest)

pub common_kind-common_with-requires : goal.common_kind-common_with-requires
common_kind-common_with-requires t c =
    let behind = drop 1 c.args.list.now in
    let count = length c.args.list.now - 1 in
    let taken = most-take the_size count behind in
    let dropped = most-drop the_size 1 c.args.list.now in
    (omega (arith, c.decreases, taken, dropped), tt)
