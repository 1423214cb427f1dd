use Rattle.std.proofs.Common.{◌≡◌, ◌∙◌, ◌++◌, append-nil, arith, length, sym, ap}
use Rattle.vkg_equalities.proofs.Lists.{none-behind}
use Rattle.vkg_equalities.proofs.table_columns.both_flags.Goals as goal

pub returns-in-len1-up-empty : goal.returns-in-len1-up-empty
returns-in-len1-up-empty c =
    let h = c.in-len1-up-empty in
    let none : length c.loop-left.right.now ≡ 0 = grind arith in
    sym (append-nil c.loop-left.both) ∙ ap (λ z. c.loop-left.both ++ z) (sym (none-behind c.loop-left.left.now c.loop-left.right.now none)) ∙ c.loop-left.invariant
