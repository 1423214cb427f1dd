use Rattle.std.proofs.Common.{List, subst, arith}
use Rattle.std.specs.List.{dedup}
use Rattle.std.specs.List.Sorted.{IsPermutation, IsSorted}
use Rattle.std.proofs.lemmas.List.Sorted.{length_permutation}
use Rattle.vkg_order.specs.Entries.{Entry, entry_cmp}
use Rattle.vkg_order.specs.Kept.{have_one_line, line_first_cmp}
use Rattle.vkg_order.proofs.Settled.{settled-all, settled-once}
use Rattle.vkg_order.proofs.held.settle.Goals as goal

pub returns-then-modifiers-clause-stands : goal.returns-then-modifiers-clause-stands
returns-then-modifiers-clause-stands c =
    let m = c.args.modifiers.now in
    let fs = c.sort_by_line.new.held.items in
    let gs = c.sort.new.held.items in
    let d = c.as_slice-directions.ensures in
    let s : IsSorted (line_first_cmp m.directions) fs = subst (λ ds. IsSorted (line_first_cmp ds) fs) d c.sort_by_line.ensures.sorted in
    let q : IsPermutation (dedup have_one_line fs) gs = subst (λ (l : List Entry). IsPermutation l gs) c.drop_repeats.ensures.value c.sort.ensures.same in
    let t : IsSorted (entry_cmp m.directions) gs = subst (λ ds. IsSorted (entry_cmp ds) gs) d c.sort.ensures.sorted in
    (settled-once m c.if-modifiers.true c.args.held.now.items fs gs c.sort_by_line.ensures.same s q t).0

pub returns-then-modifiers-clause-ready : goal.returns-then-modifiers-clause-ready
returns-then-modifiers-clause-ready c =
    let m = c.args.modifiers.now in
    let fs = c.sort_by_line.new.held.items in
    let gs = c.sort.new.held.items in
    let d = c.as_slice-directions.ensures in
    let s : IsSorted (line_first_cmp m.directions) fs = subst (λ ds. IsSorted (line_first_cmp ds) fs) d c.sort_by_line.ensures.sorted in
    let q : IsPermutation (dedup have_one_line fs) gs = subst (λ (l : List Entry). IsPermutation l gs) c.drop_repeats.ensures.value c.sort.ensures.same in
    let t : IsSorted (entry_cmp m.directions) gs = subst (λ ds. IsSorted (entry_cmp ds) gs) d c.sort.ensures.sorted in
    (settled-once m c.if-modifiers.true c.args.held.now.items fs gs c.sort_by_line.ensures.same s q t).1

pub returns-then-modifiers-clause-fewer : goal.returns-then-modifiers-clause-fewer
returns-then-modifiers-clause-fewer c =
    let a = length_permutation _ _ c.sort_by_line.ensures.same in
    let b = c.drop_repeats.ensures.fewer in
    let e = length_permutation _ _ c.sort.ensures.same in
    omega (arith, a, b, e)

pub returns-else-modifiers-clause-stands : goal.returns-else-modifiers-clause-stands
returns-else-modifiers-clause-stands c =
    let m = c.args.modifiers.now in
    let gs = c.sort-else-modifiers.new.held.items in
    let t : IsSorted (entry_cmp m.directions) gs = subst (λ ds. IsSorted (entry_cmp ds) gs) c.as_slice-directions.ensures c.sort-else-modifiers.ensures.sorted in
    (settled-all m c.if-modifiers.false c.args.held.now.items gs c.sort-else-modifiers.ensures.same t).0

pub returns-else-modifiers-clause-ready : goal.returns-else-modifiers-clause-ready
returns-else-modifiers-clause-ready c =
    let m = c.args.modifiers.now in
    let gs = c.sort-else-modifiers.new.held.items in
    let t : IsSorted (entry_cmp m.directions) gs = subst (λ ds. IsSorted (entry_cmp ds) gs) c.as_slice-directions.ensures c.sort-else-modifiers.ensures.sorted in
    (settled-all m c.if-modifiers.false c.args.held.now.items gs c.sort-else-modifiers.ensures.same t).1

pub returns-else-modifiers-clause-fewer : goal.returns-else-modifiers-clause-fewer
returns-else-modifiers-clause-fewer c = let a = length_permutation _ _ c.sort-else-modifiers.ensures.same in omega (arith, a)
