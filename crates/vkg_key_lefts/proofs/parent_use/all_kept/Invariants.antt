-- What is left decides.
use Rattle.std.proofs.Common.{◌≡◌, drop, map}
use Rattle.std.specs.List.{list_all}
use Rattle.vkg_expr.specs.Seen.{expr_seen}
use Rattle.vkg_plan.specs.Kinds.{width}
use Rattle.vkg_plan.specs.Plan.{Scan}
use Rattle.vkg_key_lefts.specs.ParentLeft.{is_kept}
use Rattle.vkg_key_lefts.proofs.parent_use.all_kept.Given as goal

abbrev pub invariant-loop-e : goal.invariant-loop-e
invariant-loop-e l =
    list_all (is_kept l.schema l.x l.pairs (map expr_seen l.names) l.n (width l.schema (Scan l.table))) (map expr_seen l.es)
    ≡ list_all (is_kept l.schema l.x l.pairs (map expr_seen l.names) l.n (width l.schema (Scan l.table))) (map expr_seen (drop l.e-index l.es))
