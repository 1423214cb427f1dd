-- The right side of an anti join gives way to what it says of its rows: of these only counts whether there is one.
use Rattle.std.specs.Prelude.{Option, Some, None, option_map}
use Rattle.std.specs.Option.{option_or}
use Rattle.vkg_columns.specs.Columns.{at_place}
use Rattle.vkg_expr.specs.Expr.{Expr}
use Rattle.vkg_expr.specs.Logic.{and_then}
use Rattle.vkg_expr.specs.Strict.{put}
use Rattle.vkg_plan.specs.Kinds.{Tables, width}
use Rattle.vkg_plan.specs.Plan.{Plan, AntiJoin, Distinct}
use Rattle.vkg_rules.specs.declared.rewrite.Fell.TheVariants as fell
use Rattle.vkg_rules.specs.Steps.{Rule, Step}
use Rattle.vkg_lifts.specs.LiftProjects.{parts_between}
use Rattle.vkg_moves.specs.MergeSelects.{part_behind}

-- SQL-92, 7.6: a condition on the right rows is one on the pairs
abbrev pub by_select : Tables → Plan → Plan → Expr → Option Step
by_select schema p q c = option_map (λ x. (AntiJoin p x.0 (and_then x.1 c), fell.Weight)) (part_behind (width schema p) q)

-- 7.9: the values of a select list are those of its expressions
abbrev pub by_project : Tables → Plan → Plan → Expr → Option Step
by_project schema p q c = option_map (λ x. (AntiJoin p x.1 (put (at_place x.0) c), fell.Weight)) (parts_between schema (width schema p) 0 q)

-- repeats do not count
abbrev pub by_distinct : Plan → Plan → Expr → Option Step
by_distinct p (Distinct q) c = Some (AntiJoin p q c, fell.Weight)
by_distinct p q c = None

abbrev pub over_right : Tables → Plan → Plan → Expr → Option Step
over_right schema p q c = option_or (by_select schema p q c) (option_or (by_project schema p q c) (by_distinct p q c))

abbrev pub anti_right : Rule
anti_right schema (AntiJoin p q c) = over_right schema p q c
anti_right schema p = None
