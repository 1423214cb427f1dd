use Rattle.std.proofs.Common.{◌≡◌, ◌∙◌, ◌-◌, length, sym, ap, arith, rules}
use Rattle.std.proofs.lemmas.List.{length-take-le}
use Rattle.std.proofs.Math.ListN.{get_or}
use Rattle.vkg_order.proofs.Moments.{zeros-end, zeros-step}
use Rattle.vkg_order.proofs.moment.kept_digits.Goals as goal

pub loop-n-preserved : goal.loop-n-preserved
loop-n-preserved c =
    let f = c.args.fraction.now in
    let n = c.loop-n.n in
    let z : get_or f (n - 1) 0 ≡ 48 = first_of (search rules, grind arith) in
    (omega arith, sym (zeros-step f n (n - 1) (omega arith) (omega arith) z) ∙ c.loop-n.invariant.1)

pub returns-else-fraction-n-eq48-clause-value : goal.returns-else-fraction-n-eq48-clause-value
returns-else-fraction-n-eq48-clause-value c =
    let f = c.args.fraction.now in
    let n = c.loop-n.n in
    sym (length-take-le n f (omega arith)) ∙ ap length (zeros-end f n (n - 1) (omega arith) (omega arith) (λ z. grind arith)) ∙ ap length c.loop-n.invariant.1
