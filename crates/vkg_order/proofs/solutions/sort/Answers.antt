use Rattle.std.proofs.Common.{rules}
use Rattle.std.specs.Ordering.{is_lt}
use Rattle.std.proofs.lemmas.Fn.{always_returns_same}
use Rattle.std.proofs.lemmas.List.Sorted.{ranks_by}
use Rattle.vkg_order.specs.Ranked.{Found, found_cmp}
use Rattle.vkg_order.proofs.Ranks.{found-total}
use Rattle.vkg_order.proofs.solutions.sort.Goals as goal

pub returns-clause-sorted : goal.returns-clause-sorted
returns-clause-sorted c =
    let ds = c.args.directions.now in
    c.sort_unstable_by.ensures.sorted (λ e f. is_lt (found_cmp ds e f)) (ranks_by (found-total ds) (λ (f : Found). f)) (always_returns_same _ _ _ (λ a r f' k. search rules))
