-- The rule by the condition of a plan's first node.
use Rattle.std.proofs.Common.{◌≡◌, refl}
use Rattle.std.specs.Prelude.{option_and_then}
use Rattle.vkg_plan.specs.Kinds.{Tables}
use Rattle.vkg_plan.specs.Plan.{Plan, Unit as UnitPlan, Empty, Scan, Select, Project, Join, Left, AntiJoin, UnionAll, Distinct}
use Rattle.vkg_rules.specs.declared.rewrite.Fell.TheVariants as fell
use Rattle.vkg_conditions.specs.NodeCondition.{condition_of, conditioned}
use Rattle.vkg_equalities.specs.TermEquality.{node_decided, term_equality}

pub equality_is : (s : Tables) (p : Plan) → term_equality s p ≡ conditioned fell.Equalities p (option_and_then (node_decided s p) (condition_of p))
equality_is s UnitPlan = refl
equality_is s (Empty ks) = refl
equality_is s (Scan table) = refl
equality_is s (Select c p) = refl
equality_is s (Project es p) = refl
equality_is s (Join ps c) = refl
equality_is s (Left p q c) = refl
equality_is s (AntiJoin p q c) = refl
equality_is s (UnionAll ps) = refl
equality_is s (Distinct p) = refl
