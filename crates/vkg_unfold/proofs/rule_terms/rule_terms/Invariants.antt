use Rattle.std.proofs.Common.{◌≡◌, take}
use Rattle.vkg_unfold.proofs.rule_terms.rule_terms.Given as goal

abbrev pub invariant-loop-rule : goal.invariant-loop-rule
invariant-loop-rule l = l.all ≡ take l.rule-index l.rules
