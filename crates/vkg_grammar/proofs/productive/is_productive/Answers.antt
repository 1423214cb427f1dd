use Rattle.std.proofs.Common.{◌≡◌, arith, length}
use Rattle.vkg_grammar.proofs.productive.is_productive.Goals as goal

pub returns : goal.returns
returns c =
    let size : length c.in_ok-table.table.items ≡ length c.args.rules.now = c.in_ok-table.ensures.size in
    let z = (rw c.deref.ensures.value at c.has_no_zero.ensures) in
    ((λ t n h. (c.in_ok-table.ensures.texts n h).0 (z.0 t n (omega arith))), (λ p. z.1 (λ n h. (c.in_ok-table.ensures.texts n (omega arith)).1 (p n (omega arith)))))
