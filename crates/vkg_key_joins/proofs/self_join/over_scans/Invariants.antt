-- What is made of those that are left is made of all.
use Rattle.std.proofs.Common.{◌≡◌, drop, map}
use Rattle.vkg_expr.specs.Seen.{expr_seen}
use Rattle.vkg_keys.specs.Members.{first_made}
use Rattle.vkg_keys.specs.ScansSeen.{place_in}
use Rattle.vkg_key_joins.specs.SelfJoin.{self_joined}
use Rattle.vkg_key_joins.proofs.self_join.over_scans.Given as goal

abbrev pub invariant-loop-x : goal.invariant-loop-x
invariant-loop-x l =
    first_made (λ x. first_made (self_joined l.schema (expr_seen l.c) x) (map (place_in l.ps) l.all)) (map (place_in l.ps) l.all)
    ≡ first_made (λ x. first_made (self_joined l.schema (expr_seen l.c) x) (map (place_in l.ps) l.all)) (map (place_in l.ps) (drop l.x-index l.all))
