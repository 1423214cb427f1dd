-- The plans that are left, behind the number so far, have the number of all.
use Rattle.std.proofs.Common.{◌≡◌, drop}
use Rattle.vkg_rules.specs.StepSeen.{plans_seen}
use Rattle.vkg_unions.specs.Key.{plans_key}
use Rattle.vkg_unions.proofs.key.+plan_keys.Given as goal

abbrev pub invariant-plans_key-loop-p : goal.invariant-plans_key-loop-p
invariant-plans_key-loop-p l = plans_key l.key (plans_seen l.ps) ≡ plans_key l.all (plans_seen (drop l.p-index l.ps))
