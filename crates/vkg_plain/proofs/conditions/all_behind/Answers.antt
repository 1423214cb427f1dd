-- What failed in a chain: its first value with another behind it, or one of the others.
use Rattle.std.proofs.Common.{rules, arith}
use Rattle.vkg_values.specs.Logic.{and3}
use Rattle.vkg_plain.specs.Chains.{both_value}
use Rattle.vkg_plain.proofs.Asked.{failed, never_made}
use Rattle.vkg_plain.proofs.conditions.all_behind.Goals as goal

pub returns-in_err-all-clause-wide : goal.returns-in_err-all-clause-wide
returns-in_err-all-clause-wide c =
    let k = failed both_value (never_made and3) c.args.first c.loop-next.all c.next-item.result c.args.more.now c.loop-next.next-index (omega arith) c.next-item.is c.loop-next.invariant in
    search (rules, k)
