-- Of two members or more a rule makes what it makes of any list that is not one of its special cases.
use Rattle.std.proofs.Common.{◌≡◌, ◌<◌, ◌≤◌, List, [], ◌∷◌, length, Option, Some, refl, arith}
use Rattle.std.specs.Prelude.{option_map}
use Rattle.vkg_expr.specs.Expr.{Expr}
use Rattle.vkg_plan.specs.declared.plan.Plan.{Plan as PlanValue}
use Rattle.vkg_plan.specs.Kinds.{Kinds}
use Rattle.vkg_plan.specs.Plan.{Plans, Join, UnionAll}
use Rattle.vkg_rules.specs.declared.rewrite.Fell.TheVariants as fell
use Rattle.vkg_rules.specs.StepSeen.{plans_seen}
use Rattle.vkg_rules.specs.Steps.{Step}
use Rattle.vkg_shapes.specs.FewMembers.{few_joined, is_unit}
use Rattle.vkg_shapes.specs.FlatUnion.{flat_members, opened}
use Rattle.vkg_shapes.specs.PropagateEmpty.{united}
use Rattle.vkg_shapes.specs.Without.{without_first}

pub few-many : (c : Expr) (ps : List PlanValue) → 2 ≤ length ps → option_map (λ (qs : Plans). (Join qs c, fell.Weight)) (without_first is_unit (plans_seen ps)) ≡ few_joined c (plans_seen ps)
few-many c [] h = absurd (omega arith)
few-many c (p ∷ []) h = absurd (omega arith)
few-many c (p ∷ q ∷ ps) h = refl

pub flat-many : (ps : List PlanValue) → 2 ≤ length ps → option_map (λ (qs : Plans). (UnionAll qs, fell.Weight)) (opened (plans_seen ps)) ≡ flat_members (plans_seen ps)
flat-many [] h = absurd (omega arith)
flat-many (p ∷ []) h = absurd (omega arith)
flat-many (p ∷ q ∷ ps) h = refl

pub united-more : (o : Option Kinds) (rest : List PlanValue) → 0 < length rest → ◌≡◌ {A = Option Step} (Some (UnionAll (plans_seen rest), fell.Weight)) (united o (Some (plans_seen rest)))
united-more o [] h = absurd (omega arith)
united-more o (p ∷ ps) h = refl
