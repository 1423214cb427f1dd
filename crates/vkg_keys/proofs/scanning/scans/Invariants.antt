-- The Scans that were found, and those among the members that are left.
use Rattle.std.proofs.Common.{◌≡◌, [], ◌++◌, map, take, drop}
use Rattle.vkg_plan.specs.Seen.{plan_seen}
use Rattle.vkg_keys.specs.Members.{scans}
use Rattle.vkg_keys.specs.ScansSeen.{place_in}
use Rattle.vkg_keys.proofs.scanning.scans.Given as goal

abbrev pub invariant-loop-i : goal.invariant-loop-i
invariant-loop-i l = map (place_in l.ps) l.all ++ scans (map plan_seen (take l.i l.ps)) (map plan_seen (drop l.i l.ps)) ≡ scans [] (map plan_seen l.ps)
