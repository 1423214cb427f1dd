-- Two plans that are one, part by part.
use Rattle.std.specs.Prelude.{Bool, true, false, ◌&&◌, ◌==◌}
use Rattle.std.specs.Cmp.Lexicographic.{pointwise}
use Rattle.vkg_expr.specs.Expr.{exprs}
use Rattle.vkg_expr.specs.Typing.{same_kind}
use Rattle.vkg_plan.specs.Plan.{Plan, Plans, Unit, Empty, Scan, Select, Project, Join, Left, AntiJoin, UnionAll, Distinct, Nil, More}
use Rattle.vkg_same.specs.SameExpr.{same_expr, same_exprs}

abbrev mutual
  pub same_plan : Plan → Plan → Bool
  same_plan Unit Unit = true
  same_plan (Empty ks) (Empty ls) = pointwise same_kind ks ls
  same_plan (Scan t) (Scan u) = t == u
  same_plan (Select c p) (Select d q) = same_expr c d && same_plan p q
  same_plan (Project es p) (Project fs q) = same_plan p q && same_exprs (exprs es) (exprs fs)
  same_plan (Join ps c) (Join qs d) = same_plans ps qs && same_expr c d
  same_plan (Left p q c) (Left r t d) = same_plan p r && same_plan q t && same_expr c d
  same_plan (AntiJoin p q c) (AntiJoin r t d) = same_plan p r && same_plan q t && same_expr c d
  same_plan (UnionAll ps) (UnionAll qs) = same_plans ps qs
  same_plan (Distinct p) (Distinct q) = same_plan p q
  same_plan p q = false

  pub same_plans : Plans → Plans → Bool
  same_plans Nil Nil = true
  same_plans (More p ps) (More q qs) = same_plan p q && same_plans ps qs
  same_plans ps qs = false
