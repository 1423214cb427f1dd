-- The Scans of a plan whose columns stand in each of its rows, none of them filled up with NULLs.
use Rattle.std.specs.Prelude.{ℕ, List, [], ◌∷◌, ◌++◌}
use Rattle.vkg_plan.specs.Kinds.{Kinds, Tables}
use Rattle.vkg_plan.specs.Plan.{Plan, Plans, Scan, Select, Join, Left, Nil, More}
use Rattle.vkg_rules.specs.Measure.{kinds_or_none}
use Rattle.vkg_key_lefts.specs.declared.standing.StandingScan.{StandingScan}

-- one behind columns of these kinds
abbrev pub one_standing : Kinds → ℕ → List StandingScan
one_standing before table = record { before = before; table = table } ∷ []

-- SQL-92, 7.5: a left join fills up its right columns alone
abbrev mutual
  pub standing : Tables → Kinds → Plan → List StandingScan
  standing schema before (Scan table) = one_standing before table
  standing schema before (Select c p) = standing schema before p
  standing schema before (Join ps c) = standing_beside schema before ps
  standing schema before (Left p q c) = standing schema before p
  standing schema before p = []

  -- of several plans beside each other
  pub standing_beside : Tables → Kinds → Plans → List StandingScan
  standing_beside schema before Nil = []
  standing_beside schema before (More p ps) = standing schema before p ++ standing_beside schema (before ++ kinds_or_none schema p) ps
