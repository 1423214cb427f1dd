use Rattle.std.proofs.Common.{◌≡◌, ◌&&◌, drop, not}
use Rattle.std.specs.List.{list_all}
use Rattle.vkg_algebra.specs.Solutions.{Solution, compatible, shares}
use Rattle.vkg_plain.proofs.minus.stays.Given as goal

abbrev pub invariant-loop-r : goal.invariant-loop-r
invariant-loop-r l =
    list_all (λ (r : Solution). not (compatible l.l r && shares l.l r)) l.rs
    ≡ list_all (λ (r : Solution). not (compatible l.l r && shares l.l r)) (drop l.r-index l.rs)
