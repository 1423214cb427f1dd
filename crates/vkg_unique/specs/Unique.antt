-- Plans no two of whose rows are equal.
use Rattle.std.specs.Prelude.{ℕ, Bool, true, false, ◌&&◌, slice_get}
use Rattle.std.specs.List.{list_any}
use Rattle.std.specs.Option.{option_map_or}
use Rattle.vkg_plan.specs.Kinds.{Tables}
use Rattle.vkg_plan.specs.Plan.{Plan, Plans, Unit, Empty, Scan, Select, Project, Join, Left, AntiJoin, UnionAll, Distinct, Nil, More}
use Rattle.vkg_keys.specs.Keys.{is_full}
use Rattle.vkg_unique.specs.Apart.{are_apart}
use Rattle.vkg_unique.specs.Recovered.{is_recovered}

-- SQL-92, 11.7: the table has a key no column of which is NULL
abbrev pub has_full_key : Tables → ℕ → Bool
has_full_key schema table = option_map_or (λ t. list_any (is_full t) t.keys) (slice_get schema table) false

-- the plan has no row in common with any of these
abbrev pub is_apart_from : Tables → Plan → Plans → Bool
is_apart_from schema p Nil = true
is_apart_from schema p (More q qs) = are_apart schema p q && is_apart_from schema p qs

abbrev pub are_all_apart : Tables → Plans → Bool
are_all_apart schema Nil = true
are_all_apart schema (More p ps) = is_apart_from schema p ps && are_all_apart schema ps

-- SQL-92, 4.10.2 and 7.9: no two rows of the plan are equal in all columns, over any database that meets the schema
abbrev mutual
  pub is_unique : Tables → Plan → Bool
  is_unique schema Unit = true
  is_unique schema (Empty ks) = true
  is_unique schema (Scan table) = has_full_key schema table
  is_unique schema (Select c p) = is_unique schema p
  is_unique schema (Project es p) = is_recovered schema es p
  is_unique schema (Join ps c) = are_unique schema ps
  is_unique schema (Left p q c) = is_unique schema p && is_unique schema q
  is_unique schema (AntiJoin p q c) = is_unique schema p
  is_unique schema (UnionAll ps) = are_unique schema ps && are_all_apart schema ps
  is_unique schema (Distinct p) = true

  pub are_unique : Tables → Plans → Bool
  are_unique schema Nil = true
  are_unique schema (More p ps) = is_unique schema p && are_unique schema ps
