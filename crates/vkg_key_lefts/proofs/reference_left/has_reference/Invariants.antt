-- What is left decides.
use Rattle.std.proofs.Common.{◌≡◌, drop}
use Rattle.std.specs.List.{list_any}
use Rattle.vkg_expr.specs.Seen.{expr_seen}
use Rattle.vkg_plan.specs.Kinds.{width}
use Rattle.vkg_plan.specs.Seen.{plan_seen}
use Rattle.vkg_key_lefts.specs.ReferenceLeft.{is_reference}
use Rattle.vkg_key_lefts.specs.Tables.{references_of}
use Rattle.vkg_key_lefts.proofs.reference_left.has_reference.Given as goal

abbrev pub invariant-loop-reference : goal.invariant-loop-reference
invariant-loop-reference l =
    list_any (is_reference l.schema l.table (width l.schema (plan_seen l.p)) (expr_seen l.c) l.x) (references_of l.schema l.x.table)
    ≡ list_any (is_reference l.schema l.table (width l.schema (plan_seen l.p)) (expr_seen l.c) l.x) (drop l.reference-index (references_of l.schema l.x.table))
