-- How many columns a plan has, told by its nodes alone: what is ill typed is counted too.
use Rattle.std.specs.Prelude.{ℕ, ◌+◌, length}
use Rattle.vkg_schema.specs.Kinds.{columns_of}
use Rattle.vkg_plan.specs.Kinds.{Tables}
use Rattle.vkg_plan.specs.Plan.{Plan, Plans, Unit, Empty, Scan, Select, Project, Join, Left, AntiJoin, UnionAll, Distinct, Nil, More}

abbrev mutual
  pub counted : Tables → Plan → ℕ
  counted schema Unit = 0
  counted schema (Empty ks) = length ks
  counted schema (Scan table) = length (columns_of schema table)
  counted schema (Select c p) = counted schema p
  counted schema (Project es p) = length es
  counted schema (Join ps c) = counted_beside schema ps
  counted schema (Left p q c) = counted schema p + counted schema q
  counted schema (AntiJoin p q c) = counted schema p
  counted schema (UnionAll Nil) = 0
  counted schema (UnionAll (More p ps)) = counted schema p
  counted schema (Distinct p) = counted schema p

  -- of several after each other
  pub counted_beside : Tables → Plans → ℕ
  counted_beside schema Nil = 0
  counted_beside schema (More p ps) = counted schema p + counted_beside schema ps
