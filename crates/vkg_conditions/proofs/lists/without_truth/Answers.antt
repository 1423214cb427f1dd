-- The first constant of the truth is found where it stands.
use Rattle.std.proofs.Common.{◌∙◌, sym, ap, arith, ◌+◌, ◌++◌, take, drop}
use Rattle.vkg_conditions.proofs.Found.{gone_here, none_gone, not_gone_here}
use Rattle.vkg_conditions.proofs.lists.without_truth.Goals as goal

pub returns-then-is_truth : goal.returns-then-is_truth
returns-then-is_truth c =
    let list = c.args.list.now in
    let i = c.loop-i.i in
    gone_here c.args.truth list i c.index-list-i.result c.in_ok-spliced.field-0 (omega arith) c.index-list-i.is c.loop-i.invariant (sym c.is_truth.ensures ∙ c.if-is_truth.true)
    (c.in_ok-spliced.ensures ∙ ap (λ m. (take i list ++ m) ++ drop (i + 1) list) c.new.ensures)

pub loop-i-preserved : goal.loop-i-preserved
loop-i-preserved c = not_gone_here c.args.truth c.args.list.now c.loop-i.i c.index-list-i.result (omega arith) c.index-list-i.is c.loop-i.invariant (sym c.is_truth.ensures ∙ c.if-is_truth.false)

pub returns : goal.returns
returns c = none_gone c.args.truth c.args.list.now c.loop-i.i (omega arith) c.loop-i.invariant
