-- A condition is asked for its truth.
use Rattle.std.proofs.Common.{rules}
use Rattle.vkg_sparql.specs.Seen.{condition_seen}
use Rattle.vkg_algebra.specs.Values.{expression_value}
use Rattle.vkg_plain.specs.Asks.{asks}
use Rattle.vkg_plain.proofs.Asked.{truth_asks}
use Rattle.vkg_plain.proofs.conditions.holds.Goals as goal

pub returns-in_err-truth-clause-wide : goal.returns-in_err-truth-clause-wide
returns-in_err-truth-clause-wide c =
    let a = condition_seen c.args.condition.now in
    let s = c.args.solution.now in
    let k = truth_asks (asks a s) c.in_ok-value.value (expression_value a s) c.in_ok-value.ensures.value in
    search (rules, k)
