-- Plans that have Scans alone below selections and joins.
use Rattle.std.specs.Prelude.{Bool, true, false, ◌&&◌}
use Rattle.vkg_plan.specs.Plan.{Plan, Plans, Scan, Select, Join, Nil, More}

abbrev mutual
  pub has_scans_alone : Plan → Bool
  has_scans_alone (Scan table) = true
  has_scans_alone (Select c p) = has_scans_alone p
  has_scans_alone (Join ps c) = have_scans_alone ps
  has_scans_alone p = false

  pub have_scans_alone : Plans → Bool
  have_scans_alone Nil = true
  have_scans_alone (More p ps) = has_scans_alone p && have_scans_alone ps
