-- What the normal form of a plan is.
use Rattle.std.specs.Prelude.{◌≡◌}
use Rattle.vkg_plan.specs.Kinds.{Tables}
use Rattle.vkg_plan.specs.Plan.{Plan}
use Rattle.vkg_rules.specs.Steps.{IsTyped, Keeps}
use Rattle.vkg_normal.specs.NormalForm.{IsNormal, IsNormalFormOf, normal_form}

-- the one plan that the rules lead to from p; no rule applies at any subplan of it, and it has the columns of p and p's bag of rows over
-- every database that meets the schema
pub record HasNormalForm (schema : Tables) (p : Plan) : Type 0 where
  pub end : IsNormalFormOf schema p (normal_form schema p)
  pub only : (q : Plan) → IsNormalFormOf schema p q → q ≡ normal_form schema p
  pub settled : IsNormal schema (normal_form schema p)
  pub typed : IsTyped schema (normal_form schema p)
  pub keeps : Keeps schema p (normal_form schema p)
