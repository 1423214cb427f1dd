-- What is left decides.
use Rattle.std.proofs.Common.{◌≡◌, drop, map}
use Rattle.vkg_expr.specs.Seen.{expr_seen}
use Rattle.vkg_plan.specs.Seen.{plan_seen}
use Rattle.vkg_keys.specs.Members.{first_made}
use Rattle.vkg_key_lefts.specs.ParentLeft.{without_parent}
use Rattle.vkg_key_lefts.specs.Tables.{references_of}
use Rattle.vkg_key_lefts.proofs.parent_left.over_standing.Given as goal

abbrev pub invariant-loop-x : goal.invariant-loop-x
invariant-loop-x l =
    first_made (λ x. first_made (without_parent l.schema (map expr_seen l.es) (plan_seen l.l) l.table (expr_seen l.c) x) (references_of l.schema x.table)) l.all
    ≡ first_made (λ x. first_made (without_parent l.schema (map expr_seen l.es) (plan_seen l.l) l.table (expr_seen l.c) x) (references_of l.schema x.table)) (drop l.x-index l.all)
