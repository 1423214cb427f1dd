-- The next column's test stands behind those before it, unless it is there already.
use Rattle.std.proofs.Common.{arith, get_or, rules}
use Rattle.std.proofs.lemmas.Grind.{common_steps}
use Rattle.vkg_nulls.proofs.Lists.{tests_more}
use Rattle.vkg_nulls.proofs.null_tests.tests.Goals as goal

pub loop-i-preserved : goal.loop-i-preserved
loop-i-preserved c =
    tests_more c.args.columns.now c.loop-i.tests c.push_new.new.tests _ c.loop-i.i (get_or c.args.columns.now c.loop-i.i 0) (omega arith) c.loop-i.invariant c.in_ok-push_new.ensures
    (first_of (cc, search rules, grind (arith, common_steps))) (first_of (cc, search rules, grind (arith, common_steps)))
