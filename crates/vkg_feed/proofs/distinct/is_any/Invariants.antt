use Rattle.std.proofs.Common.{◌≡◌, drop}
use Rattle.std.specs.Prelude.{filter_map, slice_get}
use Rattle.std.specs.List.{list_any}
use Rattle.vkg_plan.specs.Rows.{one_row}
use Rattle.vkg_feed.proofs.distinct.is_any.Given as goal

abbrev pub invariant-loop-n : goal.invariant-loop-n
invariant-loop-n l =
    list_any (λ s. one_row s l.row) (filter_map (slice_get l.rows) l.numbers)
    ≡ list_any (λ s. one_row s l.row) (filter_map (slice_get l.rows) (drop l.n-index l.numbers))
