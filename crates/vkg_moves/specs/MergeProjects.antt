-- A Project of a Project, and a Project of all columns in place.
use Rattle.std.specs.Prelude.{ℕ, suc, Bool, true, false, ◌&&◌, ◌==◌, List, [], ◌∷◌, length, map, Option, Some, None}
use Rattle.std.specs.Bool.{then_some}
use Rattle.vkg_expr.specs.Expr.{Expr, Col}
use Rattle.vkg_expr.specs.Strict.{put}
use Rattle.vkg_columns.specs.Columns.{at_place}
use Rattle.vkg_plan.specs.Kinds.{Tables, width}
use Rattle.vkg_plan.specs.Plan.{Plan, Project, Empty}
use Rattle.vkg_rules.specs.declared.rewrite.Fell.TheVariants as fell
use Rattle.vkg_rules.specs.Steps.{Rule, Step}

-- the column at this place
abbrev pub is_column_at : ℕ → Expr → Bool
is_column_at at (Col column) = column == at
is_column_at at e = false

-- the columns from one on, each in its place
abbrev pub are_columns_from : ℕ → List Expr → Bool
are_columns_from at [] = true
are_columns_from at (e ∷ es) = is_column_at at e && are_columns_from (suc at) es

-- n columns, each in its place
abbrev pub are_in_place : ℕ → List Expr → Bool
are_in_place n es = are_columns_from 0 es && (length es == n)

-- SQL-92, 7.9, the select list: of a select list over one, the inner expressions stand in the place of its columns; and all columns in place select nothing
abbrev pub projected : Tables → List Expr → Plan → Option Step
projected schema es (Project fs p) = Some (Project (map (put (at_place fs)) es) p, fell.Weight)
projected schema es p = then_some (are_in_place (width schema p) es) (p, fell.Weight)

-- so of each Project
abbrev pub merge_projects : Rule
merge_projects schema (Project es p) = projected schema es p
merge_projects schema p = None

-- ---- a Project that is taken apart

abbrev pub is_project : Plan → Bool
is_project (Project es p) = true
is_project p = false

-- it projects a Project
abbrev pub is_twice : Plan → Bool
is_twice (Project es p) = is_project p
is_twice p = false

-- it projects all columns in place
abbrev pub is_whole : Tables → Plan → Bool
is_whole schema (Project es p) = are_in_place (width schema p) es
is_whole schema p = false

-- What a Project projects, and the expressions over what it projects where that is a Project. Of other plans, which they are not asked for,
-- they are no row and no expression.
abbrev pub below : Plan → Plan
below (Project es p) = p
below p = Empty []

abbrev pub put_below : List Expr → Plan → List Expr
put_below es (Project fs p) = map (put (at_place fs)) es
put_below es p = []

abbrev pub put_inner : Plan → List Expr
put_inner (Project es p) = put_below es p
put_inner p = []

-- one Project in the place of two
abbrev pub merged : Plan → Plan
merged p = Project (put_inner p) (below (below p))
