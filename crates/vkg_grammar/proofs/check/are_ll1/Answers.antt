use Rattle.vkg_grammar.specs.Grammar.{IsProductive}
use Rattle.vkg_grammar.proofs.Checking.{apart_ll1, ll1_apart}
use Rattle.vkg_grammar.proofs.check.are_ll1.Goals as goal

pub returns : goal.returns
returns c =
    let prod : IsProductive c.args.rules.now = c.in_ok-is_productive.ensures.0 c.if-not-branch.false in
    let a = (rw (c.deref-2.ensures.value, c.deref-3.ensures.value) at c.all_apart.ensures) in (
      (λ t. apart_ll1 c.args.rules.now c.in_ok-table.table.items c.in_ok-follow.follow.items c.args.width c.requires.grammar prod c.in_ok-table.ensures.table c.in_ok-follow.ensures.follows c.requires.wide (a.0 t)),
      (λ ll. a.1 (ll1_apart c.args.rules.now c.in_ok-table.table.items c.in_ok-follow.follow.items c.args.width c.requires.grammar prod c.in_ok-table.ensures.table c.in_ok-follow.ensures.follows ll)),
    )
