-- What the program tells of the second of two Scans stands for.
use Rattle.std.specs.Prelude.{List, map}
use Rattle.vkg_expr.specs.declared.expr.Expr.{Expr as ExprValue}
use Rattle.vkg_expr.specs.Seen.{expr_seen}
use Rattle.vkg_plan.specs.Plan.{Plan}
use Rattle.vkg_rules.specs.declared.rewrite.Fell.TheVariants as fell
use Rattle.vkg_rules.specs.Steps.{Step}
use Rattle.vkg_keys.specs.declared.scanning.ScanAt.{ScanAt}
use Rattle.vkg_key_joins.specs.SelfJoin.{over_rest}

-- the columns of all members named without it, and its place: the step to the plan without it
abbrev pub step_without : Plan → List ExprValue × ScanAt → Step
step_without p x = (over_rest (map expr_seen x.0) x.1.at p, fell.Weight)
