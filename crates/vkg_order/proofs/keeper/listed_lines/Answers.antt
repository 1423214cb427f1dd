use Rattle.std.proofs.Common.{subst}
use Rattle.std.specs.Prelude.{IfOk, ◌≡◌}
use Rattle.vkg_order.proofs.Sliced.{finish-is}
use Rattle.vkg_order.proofs.keeper.listed_lines.Goals as goal

pub returns : goal.returns
returns c =
    subst (λ all. IfOk c.sliced_lines.result (λ lines. lines ≡ all))
    (finish-is c.args.modifiers.now c.settle.new.held.items c.args.held.items c.settle.ensures.stands c.settle.ensures.ready)
    c.sliced_lines.ensures
