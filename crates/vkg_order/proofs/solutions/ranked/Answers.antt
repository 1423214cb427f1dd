use Rattle.std.proofs.Common.{map, subst}
use Rattle.std.specs.Prelude.{◌≡◌}
use Rattle.std.specs.List.Sorted.{IsSorted}
use Rattle.std.proofs.lemmas.Result.{IfOk-weaker}
use Rattle.vkg_order.specs.Listed.{sliced}
use Rattle.vkg_order.specs.Ranked.{found_cmp, ranked}
use Rattle.vkg_order.proofs.Ranks.{ranked-is}
use Rattle.vkg_order.proofs.solutions.ranked.Goals as goal

pub returns : goal.returns
returns c =
    let m = c.args.modifiers.now in
    let ds = c.sort.new.found.items in
    let s : IsSorted (found_cmp m.directions) ds = subst (λ d. IsSorted (found_cmp d) ds) c.as_slice.ensures c.sort.ensures.sorted in
    IfOk-weaker c.sliced.result (λ found. found.items ≡ sliced m.slice ds) (λ found. map (λ f. f.terms) found.items ≡ ranked m c.args.candidates.items)
    (λ found e. ranked-is m c.args.candidates.items ds found.items c.sort.ensures.same s e) c.sliced.ensures
