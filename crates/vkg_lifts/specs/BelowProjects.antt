-- A Project below a node, which comes above it: its expressions there, and the node over what the Project projects.
use Rattle.std.specs.Prelude.{ℕ, Bool, true, false, List, Option, Some, None, option_map, if◌then◌else◌}
use Rattle.std.specs.Option.{option_or}
use Rattle.vkg_columns.specs.Columns.{at_place}
use Rattle.vkg_expr.specs.Expr.{Expr}
use Rattle.vkg_expr.specs.Strict.{put}
use Rattle.vkg_plan.specs.Kinds.{Tables, width}
use Rattle.vkg_plan.specs.Plan.{Plan, Plans, Select, Project, Join, Left, Nil, More}
use Rattle.vkg_lifts.specs.LiftProjects.{keeps_nulls, lifted, parts_between}

-- ---- its expressions

-- those of the plan, if it is a Project
abbrev pub own_exprs : Plan → Option (List Expr)
own_exprs (Project es p) = Some es
own_exprs p = None

-- with n columns before it and k behind it
abbrev pub exprs_between : Tables → ℕ → ℕ → Plan → Option (List Expr)
exprs_between schema n k p = option_map (λ x. x.0) (parts_between schema n k p)

abbrev pub exprs_of_members : Tables → Plans → Option (List Expr)
exprs_of_members schema ps = option_map (λ x. x.0) (lifted schema 0 ps)

abbrev pub exprs_of_left : Tables → Plan → Plan → Option (List Expr)
exprs_of_left schema p q = exprs_between schema 0 (width schema q) p

abbrev pub exprs_of_right : Tables → Plan → Plan → Option (List Expr)
exprs_of_right schema p q = if keeps_nulls q then exprs_between schema (width schema p) 0 q else None

-- above the node, if one comes above it
abbrev pub exprs_above : Tables → Plan → Option (List Expr)
exprs_above schema (Select c p) = own_exprs p
exprs_above schema (Join ps c) = exprs_of_members schema ps
exprs_above schema (Left p q c) = option_or (exprs_of_left schema p q) (exprs_of_right schema p q)
exprs_above schema p = None

-- ---- the node without it

-- the plan is a Project
abbrev pub is_project : Plan → Bool
is_project (Project es p) = true
is_project p = false

-- what a Project projects
abbrev pub below : Plan → Plan
below (Project es p) = p
below p = p

-- of the first Project among the members
abbrev pub first_below : Plans → Plans
first_below Nil = Nil
first_below (More p ps) = if is_project p then More (below p) ps else More p (first_below ps)

-- over what the Project projects, with its expressions put into the condition
abbrev pub opened : List Expr → Plan → Plan
opened es (Select c p) = Select (put (at_place es) c) (below p)
opened es (Join ps c) = Join (first_below ps) (put (at_place es) c)
opened es (Left p q c) = if is_project p then Left (below p) q (put (at_place es) c) else Left p (below q) (put (at_place es) c)
opened es p = p
