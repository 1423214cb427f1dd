-- A Project below a Select, a Join or a Left comes above it, and its expressions are put into the condition.
use Rattle.std.specs.Prelude.{ℕ, ◌+◌, Bool, false, List, ◌++◌, map, Option, Some, None, option_map, if◌then◌else◌}
use Rattle.std.specs.List.{list_all}
use Rattle.std.specs.Option.{option_or}
use Rattle.vkg_columns.specs.Columns.{at_place, columns_from}
use Rattle.vkg_expr.specs.Expr.{Expr}
use Rattle.vkg_expr.specs.Strict.{moved, nulls_on_null, put}
use Rattle.vkg_plan.specs.Kinds.{Tables, width}
use Rattle.vkg_plan.specs.Plan.{Plan, Plans, Select, Project, Join, Left, Nil, More}
use Rattle.vkg_rules.specs.declared.rewrite.Fell.TheVariants as fell
use Rattle.vkg_rules.specs.Steps.{Rule, Step}

-- n columns in place, then expressions over the next w columns in the place of these, then the k columns behind them
abbrev pub in_between : ℕ → ℕ → ℕ → List Expr → List Expr
in_between n w k es = columns_from 0 n ++ (map (moved n) es ++ columns_from (n + w) k)

-- the expressions above what a condition makes, and put into the condition
abbrev pub above : List Expr → (Expr → Plan) → Expr → Step
above es node c = (Project es (node (put (at_place es) c)), fell.Weight)

-- expressions, and the plan over whose columns they are
abbrev pub Parts : Type 0
Parts = List Expr × Plan

-- what a Project that stands between n columns and k gives of all of them, over the plan below it
abbrev pub parts_between : Tables → ℕ → ℕ → Plan → Option Parts
parts_between schema n k (Project es p) = Some (in_between n (width schema p) k es, p)
parts_between schema n k p = None

-- SQL-92, 7.6, WHERE, of the rows of a select list (7.9)
abbrev pub over_select : Expr → Plan → Option Step
over_select c (Project es p) = Some (above es (λ d. Select d p) c)
over_select c p = None

-- ---- the members of a Join

-- the number of columns of all of them
abbrev pub widths : Tables → Plans → ℕ
widths schema Nil = 0
widths schema (More p ps) = width schema p + widths schema ps

-- expressions, and the members over whose columns they are
abbrev pub Lifted : Type 0
Lifted = List Expr × Plans

abbrev pub before : Plans → Parts → Lifted
before ps x = (x.0, More x.1 ps)

abbrev pub behind : Plan → Lifted → Lifted
behind p x = (x.0, More p x.1)

-- of members that stand behind n columns: the first that is a Project
abbrev pub lifted : Tables → ℕ → Plans → Option Lifted
lifted schema n Nil = None
lifted schema n (More p ps) = option_or (option_map (before ps) (parts_between schema n (widths schema ps) p)) (option_map (behind p) (lifted schema (n + width schema p) ps))

-- SQL-92, 7.4, FROM, of a select list among others
abbrev pub over_join : Tables → Plans → Expr → Option Step
over_join schema ps c = option_map (λ x. above x.0 (Join x.1) c) (lifted schema 0 ps)

-- ---- the sides of a Left

abbrev pub over_left_side : Tables → Plan → Plan → Expr → Option Step
over_left_side schema p q c = option_map (λ x. above x.0 (Left x.1 q) c) (parts_between schema 0 (width schema q) p)

-- on a row of NULLs alone each expression of the Project is NULL: it is strict, and it names a column
abbrev pub keeps_nulls : Plan → Bool
keeps_nulls (Project es p) = list_all nulls_on_null es
keeps_nulls p = false

-- SQL-92, 7.5, LEFT JOIN: a left row without a match has NULLs in the place of what the right side gives
abbrev pub over_right_side : Tables → Plan → Plan → Expr → Option Step
over_right_side schema p q c = if keeps_nulls q then option_map (λ x. above x.0 (Left p x.1) c) (parts_between schema (width schema p) 0 q) else None

-- ---- so of each of these nodes

abbrev pub lift_projects : Rule
lift_projects schema (Select c p) = over_select c p
lift_projects schema (Join ps c) = over_join schema ps c
lift_projects schema (Left p q c) = option_or (over_left_side schema p q c) (over_right_side schema p q c)
lift_projects schema p = None
