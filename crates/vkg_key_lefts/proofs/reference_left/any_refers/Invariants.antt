-- What is left decides.
use Rattle.std.proofs.Common.{◌≡◌, drop}
use Rattle.std.specs.List.{list_any}
use Rattle.vkg_expr.specs.Seen.{expr_seen}
use Rattle.vkg_plan.specs.Kinds.{width}
use Rattle.vkg_plan.specs.Seen.{plan_seen}
use Rattle.vkg_key_lefts.specs.ReferenceLeft.{is_reference}
use Rattle.vkg_key_lefts.specs.Tables.{references_of}
use Rattle.vkg_key_lefts.proofs.reference_left.any_refers.Given as goal

abbrev pub invariant-loop-x : goal.invariant-loop-x
invariant-loop-x l =
    list_any (λ x. list_any (is_reference l.schema l.table (width l.schema (plan_seen l.p)) (expr_seen l.c) x) (references_of l.schema x.table)) l.all
    ≡ list_any (λ x. list_any (is_reference l.schema l.table (width l.schema (plan_seen l.p)) (expr_seen l.c) x) (references_of l.schema x.table)) (drop l.x-index l.all)
