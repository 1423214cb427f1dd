-- The expressions that are left, over the flags that are set, give the whole.
use Rattle.std.proofs.Common.{◌≡◌, drop, map}
use Rattle.std.specs.Prelude.{fold}
use Rattle.vkg_expr.specs.Seen.{expr_seen}
use Rattle.vkg_unique.specs.Recovered.{given_back, given_in_all, is_good_at}
use Rattle.vkg_unique.specs.Sure.{with_flags}
use Rattle.vkg_unique.proofs.recovered.given_in_all.Given as goal

abbrev pub invariant-loop-e : goal.invariant-loop-e
invariant-loop-e l =
    given_in_all l.tables l.sure l.kinds (map expr_seen l.es)
    ≡ fold (λ flags e. with_flags flags (given_back (is_good_at l.tables l.sure) l.kinds e)) l.flags (map expr_seen (drop l.e-index l.es))
