-- The first repeat is found where it stands.
use Rattle.std.proofs.Common.{◌∙◌, sym, ap, arith, ◌+◌, ◌++◌, take, drop}
use Rattle.vkg_conditions.proofs.Found.{no_repeat_here, repeat_here, single_all}
use Rattle.vkg_conditions.proofs.lists.without_repeat.Goals as goal

pub returns-then-is_among : goal.returns-then-is_among
returns-then-is_among c =
    let list = c.args.list.now in
    let i = c.loop-i.i in
    repeat_here list i c.index-list-i.result (omega arith) c.index-list-i.is c.loop-i.invariant c.in_ok-spliced.field-0 (sym c.is_among.ensures ∙ c.if-is_among.true)
    (c.in_ok-spliced.ensures ∙ ap (λ m. (take i list ++ m) ++ drop (i + 1) list) c.new.ensures)

pub loop-i-preserved : goal.loop-i-preserved
loop-i-preserved c = no_repeat_here c.args.list.now c.loop-i.i c.index-list-i.result (omega arith) c.index-list-i.is c.loop-i.invariant (sym c.is_among.ensures ∙ c.if-is_among.false)

pub returns : goal.returns
returns c = sym (single_all c.args.list.now c.loop-i.i (omega arith) c.loop-i.invariant)
