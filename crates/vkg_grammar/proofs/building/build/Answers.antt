use Rattle.vkg_grammar.proofs.Decode.{one_back}
use Rattle.std.proofs.Common.{arith}
use Rattle.vkg_grammar.proofs.building.build.Goals as goal

pub loop-at-preserved : goal.loop-at-preserved
loop-at-preserved c =
    let r = one_back c.args.tokens c.args.notes.now c.loop-at.at _ c.loop-at-test.true c.loop-at.invariant.inside c.loop-at.invariant.token c.loop-at.invariant.tops c.token_before-token.ensures c.in_ok-apply.ensures.tops in
    let inside = c.loop-at.invariant.inside in
    record { inside = omega arith; below = c.in_ok-apply.ensures.below; token = r.0; tops = r.1 }
