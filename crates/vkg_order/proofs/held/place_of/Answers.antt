use Rattle.std.proofs.Common.{rules}
use Rattle.std.specs.Ordering.{is_lt}
use Rattle.std.proofs.lemmas.List.Sorted.{IsPartitionPoint-from_clause}
use Rattle.vkg_order.specs.Entries.{entry_cmp}
use Rattle.vkg_order.proofs.Ordered.{rises-partitioned}
use Rattle.vkg_order.proofs.Totals.{entry-total}
use Rattle.vkg_order.proofs.held.place_of.Goals as goal

pub returns-clause-parts : goal.returns-clause-parts
returns-clause-parts c =
    let ds = c.args.directions.now in
    let x = c.args.offer.now in
    IsPartitionPoint-from_clause (λ e. is_lt (entry_cmp ds e x)) c.args.held.now _ c.partition_point.ensures.partitioned (rises-partitioned (entry-total ds) x c.args.held.now c.requires) (λ a r f' k. search rules)
