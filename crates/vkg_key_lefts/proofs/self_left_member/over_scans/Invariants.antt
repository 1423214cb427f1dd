-- What is made of those that are left is made of all.
use Rattle.std.proofs.Common.{◌≡◌, drop, map}
use Rattle.vkg_expr.specs.Seen.{expr_seen}
use Rattle.vkg_plan.specs.Seen.{plan_seen}
use Rattle.vkg_keys.specs.Members.{first_made}
use Rattle.vkg_keys.specs.ScansSeen.{place_in}
use Rattle.vkg_key_lefts.specs.SelfLeftMember.{without_again}
use Rattle.vkg_key_lefts.proofs.self_left_member.over_scans.Given as goal

abbrev pub invariant-loop-y : goal.invariant-loop-y
invariant-loop-y l =
    first_made (λ y. first_made (without_again l.schema (map expr_seen l.es) (plan_seen l.l) (expr_seen l.d) (expr_seen l.c) y) l.all) (map (place_in l.ps) l.found)
    ≡ first_made (λ y. first_made (without_again l.schema (map expr_seen l.es) (plan_seen l.l) (expr_seen l.d) (expr_seen l.c) y) l.all) (map (place_in l.ps) (drop l.y-index l.found))
