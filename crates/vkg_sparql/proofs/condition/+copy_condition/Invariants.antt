use Rattle.std.proofs.Common.{◌≡◌, take}
use Rattle.vkg_sparql.proofs.condition.+copy_condition.Given as goal

abbrev pub invariant-copy_conditions-loop-condition : goal.invariant-copy_conditions-loop-condition
invariant-copy_conditions-loop-condition l = l.copied ≡ take l.condition-index l.conditions
