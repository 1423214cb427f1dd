-- What is made of those that are left is made of all.
use Rattle.std.proofs.Common.{◌≡◌, drop, map}
use Rattle.vkg_expr.specs.Seen.{expr_seen}
use Rattle.vkg_plan.specs.Seen.{plan_seen}
use Rattle.vkg_keys.specs.Members.{first_made}
use Rattle.vkg_key_lefts.specs.SelfLeft.{without_again}
use Rattle.vkg_key_lefts.proofs.self_left.over_standing.Given as goal

abbrev pub invariant-loop-x : goal.invariant-loop-x
invariant-loop-x l =
    first_made (without_again l.schema (map expr_seen l.es) (plan_seen l.l) l.table (expr_seen l.c)) l.all
    ≡ first_made (without_again l.schema (map expr_seen l.es) (plan_seen l.l) l.table (expr_seen l.c)) (drop l.x-index l.all)
