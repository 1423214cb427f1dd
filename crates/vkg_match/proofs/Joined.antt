-- Verdicts joined.
use Rattle.std.proofs.Common.{◌≡◌, refl, ap, List, [], ◌∷◌, ◌≤◌, length, arith, append_assoc, append-nil}
use Rattle.vkg_expr.specs.declared.term_expr.Sort.{Sort}
use Rattle.vkg_match.specs.declared.cut.Segment.{Segment}
use Rattle.vkg_match.specs.Verdict.{Verdict, Never, All, both, segments}

pub both_assoc : (u v w : Verdict) → both (both u v) w ≡ both u (both v w)
both_assoc Never v w = refl
both_assoc (All es) Never w = refl
both_assoc (All es) (All fs) Never = refl
both_assoc (All es) (All fs) (All gs) = ap All (append_assoc es fs gs)

pub nothing_both : (v : Verdict) → both (All []) v ≡ v
nothing_both Never = refl
nothing_both (All es) = refl

pub both_nothing : (v : Verdict) → both v (All []) ≡ v
both_nothing Never = refl
both_nothing (All es) = ap All (append-nil es)

pub both_never : (v : Verdict) → both v Never ≡ Never
both_never Never = refl
both_never (All es) = refl

pub longer : (sort : Sort) (ms ns : List Segment) → 1 ≤ length ms → length ns ≡ 0 → segments sort ms ns ≡ Never
longer sort [] ns h e = absurd (let n : ⊥ = omega (arith, h) in n)
longer sort (m ∷ ms) [] h e = refl
longer sort (m ∷ ms) (n ∷ ns) h e = absurd (let n : ⊥ = omega (arith, e) in n)
