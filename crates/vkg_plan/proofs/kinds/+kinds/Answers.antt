-- Of one or more plans the kinds are there where those of each are.
use Rattle.std.proofs.Common.{◌≡◌, ℕ, ◌+◌, ◌-◌, ◌*◌, ◌<◌, ◌≤◌, List, [], ◌∷◌, arith, ap, drop, length, take}
use Rattle.std.proofs.lemmas.List.{take_all}
use denote.Param.Weighed.{most}
use Rattle.vkg_plan.proofs.KindLists.{join-some}
use Rattle.vkg_plan.proofs.kinds.+kinds.Goals as goal

pub join_kinds-returns-in-len1-up : goal.join_kinds-returns-in-len1-up
join_kinds-returns-in-len1-up t c = rw (join-some c.args.schema.now c.args.ps.now c.in-len1-up.len_at_least) c.all_kinds.ensures

-- the rest of a list is no deeper than the list
rest-deep : {A : Type 0} (deep : A → ℕ) (xs : List A) → most deep (take (length xs - 1) (drop 1 xs)) ≤ most deep xs
rest-deep deep [] = omega arith
rest-deep deep (x ∷ xs) =
    let all : most deep (take (length (x ∷ xs) - 1) xs) ≡ most deep xs = ap (most deep) (take_all (length (x ∷ xs) - 1) xs (omega arith)) in
    omega (arith, all)

rest-falls : {A : Type 0} (deep : A → ℕ) (xs : List A) (t : ℕ) → 4 * most deep xs + 3 ≡ t → 4 * most deep (take (length xs - 1) (drop 1 xs)) + 2 < t
rest-falls deep xs t e = let h = rest-deep deep xs in omega (arith, h)

pub union_kinds-alike_to-requires : goal.union_kinds-alike_to-requires
union_kinds-alike_to-requires t c = (rest-falls _ c.args.ps.now t c.decreases, tt)
