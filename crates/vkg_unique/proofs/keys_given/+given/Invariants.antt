-- What is left of the list, over the flags that are left, gives the whole.
use Rattle.std.proofs.Common.{◌≡◌, drop, map}
use Rattle.vkg_plan.specs.Plan.{plans}
use Rattle.vkg_plan.specs.Seen.{plan_seen}
use Rattle.vkg_unique.specs.Recovered.{are_keys_given_in}
use Rattle.vkg_unique.proofs.keys_given.+given.Given as goal

abbrev pub invariant-are_keys_given_in-loop-p : goal.invariant-are_keys_given_in-loop-p
invariant-are_keys_given_in-loop-p l =
    are_keys_given_in l.schema l.fn.flags (plans (map plan_seen l.ps))
    ≡ are_keys_given_in l.schema l.left (plans (map plan_seen (drop l.p-index l.ps)))
