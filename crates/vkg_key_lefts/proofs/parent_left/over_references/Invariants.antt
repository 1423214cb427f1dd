-- What is left decides.
use Rattle.std.proofs.Common.{◌≡◌, drop, map}
use Rattle.vkg_expr.specs.Seen.{expr_seen}
use Rattle.vkg_plan.specs.Seen.{plan_seen}
use Rattle.vkg_keys.specs.Members.{first_made}
use Rattle.vkg_key_lefts.specs.ParentLeft.{without_parent}
use Rattle.vkg_key_lefts.specs.Tables.{references_of}
use Rattle.vkg_key_lefts.proofs.parent_left.over_references.Given as goal

abbrev pub invariant-loop-reference : goal.invariant-loop-reference
invariant-loop-reference l =
    first_made (without_parent l.schema (map expr_seen l.es) (plan_seen l.l) l.table (expr_seen l.c) l.x) (references_of l.schema l.x.table)
    ≡ first_made (without_parent l.schema (map expr_seen l.es) (plan_seen l.l) l.table (expr_seen l.c) l.x) (drop l.reference-index (references_of l.schema l.x.table))
