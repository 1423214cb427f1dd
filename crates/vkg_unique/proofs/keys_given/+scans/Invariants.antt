use Rattle.std.proofs.Common.{◌≡◌, drop, map}
use Rattle.vkg_plan.specs.Plan.{plans}
use Rattle.vkg_plan.specs.Seen.{plan_seen}
use Rattle.vkg_unique.specs.Scans.{have_scans_alone}
use Rattle.vkg_unique.proofs.keys_given.+scans.Given as goal

abbrev pub invariant-have_scans_alone-loop-p : goal.invariant-have_scans_alone-loop-p
invariant-have_scans_alone-loop-p l = have_scans_alone (plans (map plan_seen l.ps)) ≡ have_scans_alone (plans (map plan_seen (drop l.p-index l.ps)))
