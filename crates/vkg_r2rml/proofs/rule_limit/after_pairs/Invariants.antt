use Rattle.std.proofs.Common.{◌≡◌, ◌+◌, take}
use Rattle.std.specs.Prelude.{sum_by}
use Rattle.vkg_r2rml.specs.RuleCount.{rules_of_pair}
use Rattle.vkg_r2rml.proofs.rule_limit.after_pairs.Given as goal

abbrev pub invariant-loop-po : goal.invariant-loop-po
invariant-loop-po l = l.left + sum_by (rules_of_pair l.graphs) (take l.po-index l.pairs) ≡ l.fn.left
