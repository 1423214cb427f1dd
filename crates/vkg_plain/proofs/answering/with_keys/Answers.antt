-- Where a key failed, the keys ask.
use Rattle.std.proofs.Common.{rules, arith}
use Rattle.vkg_plain.proofs.Asked.{key_asks}
use Rattle.vkg_plain.proofs.answering.with_keys.Goals as goal

pub returns-in_err-value-clause-wide : goal.returns-in_err-value-clause-wide
returns-in_err-value-clause-wide c =
    let k = key_asks c.args.solution.now c.args.keys.now c.loop-key.key-index c.key-item.result (omega arith) c.key-item.is in
    search (rules, k)
