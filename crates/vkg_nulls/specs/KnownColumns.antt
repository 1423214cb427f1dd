-- Which columns of a plan are never NULL, since their tables say so.
use Rattle.std.specs.Prelude.{Bool, false, List, [], ◌++◌, map}
use Rattle.vkg_schema.specs.Kinds.{columns_of}
use Rattle.vkg_plan.specs.Kinds.{Tables}
use Rattle.vkg_plan.specs.Plan.{Plan, Plans, Unit, Empty, Scan, Select, Project, Join, Left, AntiJoin, UnionAll, Distinct, Nil, More}

-- as many columns of which it is not said
abbrev pub unsaid : {A : Type 0} → List A → List Bool
unsaid xs = map (λ x. false) xs

-- SQL-92, 11.7: of each column of a plan whether it is a NOT NULL column of a table that is scanned below selections and joins
-- alone; not so below a left join, whose rows may have NULLs in the place of a row
abbrev mutual
  pub known_columns : Tables → Plan → List Bool
  known_columns schema Unit = []
  known_columns schema (Empty ks) = unsaid ks
  known_columns schema (Scan table) = map (λ c. c.not_null) (columns_of schema table)
  known_columns schema (Select c p) = known_columns schema p
  known_columns schema (Project es p) = unsaid es
  known_columns schema (Join ps c) = known_beside schema ps
  known_columns schema (Left p q c) = unsaid (known_columns schema p ++ known_columns schema q)
  known_columns schema (AntiJoin p q c) = unsaid (known_columns schema p)
  known_columns schema (UnionAll Nil) = []
  known_columns schema (UnionAll (More p ps)) = unsaid (known_columns schema p)
  known_columns schema (Distinct p) = unsaid (known_columns schema p)

  -- of several after each other
  pub known_beside : Tables → Plans → List Bool
  known_beside schema Nil = []
  known_beside schema (More p ps) = known_columns schema p ++ known_beside schema ps

-- of the columns over which a plan's own expressions are
abbrev pub own_known : Tables → Plan → List Bool
own_known schema (Select c p) = known_columns schema p
own_known schema (Project es p) = known_columns schema p
own_known schema (Join ps c) = known_beside schema ps
own_known schema (Left p q c) = known_columns schema p ++ known_columns schema q
own_known schema (AntiJoin p q c) = known_columns schema p ++ known_columns schema q
own_known schema p = []
