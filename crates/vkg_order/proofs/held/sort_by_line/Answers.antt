use Rattle.std.proofs.Common.{rules}
use Rattle.std.specs.Ordering.{is_lt}
use Rattle.std.proofs.lemmas.Fn.{always_returns_same}
use Rattle.std.proofs.lemmas.List.Sorted.{ranks_by}
use Rattle.vkg_order.specs.Entries.{Entry}
use Rattle.vkg_order.specs.Kept.{line_first_cmp}
use Rattle.vkg_order.proofs.Totals.{line_first-total}
use Rattle.vkg_order.proofs.held.sort_by_line.Goals as goal

pub returns-clause-sorted : goal.returns-clause-sorted
returns-clause-sorted c =
    let ds = c.args.directions.now in
    c.sort_unstable_by.ensures.sorted (λ e f. is_lt (line_first_cmp ds e f)) (ranks_by (line_first-total ds) (λ (e : Entry). e)) (always_returns_same _ _ _ (λ a r f' k. search rules))
