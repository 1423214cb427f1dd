-- Which columns of a plan are columns of a table.
use Rattle.std.specs.Prelude.{ℕ, Bool, true, false, ◌&&◌, List, [], ◌∷◌, ◌++◌, map, fold, slice_get, unwrap_or}
use Rattle.std.specs.List.{flat_map}
use Rattle.vkg_cells.specs.declared.cell.Cell.TheVariants as cell
use Rattle.vkg_schema.specs.Kinds.{columns_of}
use Rattle.vkg_expr.specs.Expr.{Expr, Col, Const}
use Rattle.vkg_plan.specs.Kinds.{Tables}
use Rattle.vkg_plan.specs.Plan.{Plan, Plans, Unit, Empty, Scan, Select, Project, Join, Left, AntiJoin, UnionAll, Distinct, Nil, More}

-- the flag of a column, and false past the last one
abbrev pub flag_at : List Bool → ℕ → Bool
flag_at flags at = unwrap_or (slice_get flags at) false

-- an expression that is such a column, or NULL
abbrev pub carries : List Bool → Expr → Bool
carries flags (Col at) = flag_at flags at
carries flags (Const cell.Null k) = true
carries flags e = false

abbrev pub both_flags : List Bool → List Bool → List Bool
both_flags (a ∷ fs) (b ∷ gs) = (a && b) ∷ both_flags fs gs
both_flags fs gs = []

-- what is common to all
abbrev pub common_flags : List (List Bool) → List Bool
common_flags [] = []
common_flags (fs ∷ fss) = fold both_flags fs fss

-- one after another
abbrev pub flags_beside : List (List Bool) → List Bool
flags_beside fss = flat_map (λ fs. fs) fss

-- of each column of a plan whether all its cells are cells of tables' columns, or NULL
abbrev mutual
  pub table_columns : Tables → Plan → List Bool
  table_columns schema Unit = []
  table_columns schema (Empty ks) = map (λ k. true) ks
  table_columns schema (Scan table) = map (λ c. true) (columns_of schema table)
  table_columns schema (Select c p) = table_columns schema p
  table_columns schema (Project es p) = map (carries (table_columns schema p)) es
  table_columns schema (Join ps c) = flags_beside (columns_of_each schema ps)
  table_columns schema (Left p q c) = table_columns schema p ++ table_columns schema q
  table_columns schema (AntiJoin p q c) = table_columns schema p
  table_columns schema (UnionAll ps) = common_flags (columns_of_each schema ps)
  table_columns schema (Distinct p) = table_columns schema p

  pub columns_of_each : Tables → Plans → List (List Bool)
  columns_of_each schema Nil = []
  columns_of_each schema (More p ps) = table_columns schema p ∷ columns_of_each schema ps
