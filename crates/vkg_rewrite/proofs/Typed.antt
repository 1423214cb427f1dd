-- The plan of a query over a mapping of a schema is well typed over it, and has the columns and the bag of rows of the start plan.
use Rattle.std.proofs.Common.{◌≡◌, ap}
use Rattle.std.specs.Prelude.{IsTrue}
use Rattle.std.specs.Option.{is_some}
use Rattle.vkg_lists.proofs.Each.{recursion_weaken}
use Rattle.vkg_schema.specs.Meets.{IsWellFormed}
use Rattle.vkg_maps.specs.declared.mapping.Mapping.{Mapping}
use Rattle.vkg_maps.specs.Within.{IsWithin}
use Rattle.vkg_sparql.specs.Query.{Query}
use Rattle.vkg_plan.specs.Kinds.{Tables, is_well_typed}
use Rattle.vkg_plan.specs.Plan.{Plan}
use Rattle.vkg_row_rules.specs.declared.row_rule.RowRule.{RowRule}
use Rattle.vkg_row_rules.specs.RowRules.{row_rules}
use Rattle.vkg_unfolded.specs.Unfolded.{start_plan}
use Rattle.vkg_unfolded.specs.FittingRules.{FitJoins, FitsJoin, IsFitting}
use Rattle.vkg_unfolded.proofs.AlgebraColumns.{start_plan_kinds}
use Rattle.vkg_fine_rules.proofs.FittingRules.{has_fitting_rules}
use Rattle.vkg_rules.specs.Steps.{Keeps}
use Rattle.vkg_chains.specs.FixLaw.{typed-kept}
use Rattle.vkg_normal.specs.NormalForm.{IsNormal, IsNormalFormOf}
use Rattle.vkg_normal.proofs.Normal.{normal-end, normal-keeps, normal-settled}
use Rattle.vkg_rewrite.specs.Rewritten.{rewritten}

module _ (schema : Tables) (mapping : Mapping) (query : Query) (well : IsWellFormed schema) (within : IsWithin schema mapping) where
  abbrev start : Plan
  start = start_plan schema (row_rules schema mapping) query

  pub start_typed : IsTrue (is_well_typed schema start)
  start_typed = ap is_some (start_plan_kinds schema (row_rules schema mapping) (has_fitting_rules schema mapping well within) query)

  pub kept : Keeps schema start (rewritten schema mapping query)
  unfolding rewritten
  kept = normal-keeps schema well start start_typed

  pub is_end : IsNormalFormOf schema start (rewritten schema mapping query)
  unfolding rewritten
  is_end = normal-end schema well start start_typed

  pub is_settled : IsNormal schema (rewritten schema mapping query)
  unfolding rewritten
  is_settled = normal-settled schema well start start_typed

  pub typed : IsTrue (is_well_typed schema (rewritten schema mapping query))
  typed = typed-kept schema start (rewritten schema mapping query) start_typed kept.kinds

  pub joins_fit : FitJoins schema (row_rules schema mapping)
  joins_fit =
      recursion_weaken (IsFitting schema) (λ (rule : RowRule). FitsJoin schema rule.table rule.join) (row_rules schema mapping) (λ rule fit. fit.join)
      (has_fitting_rules schema mapping well within)

  pub start_typed_as : (plan : Plan) → plan ≡ start → IsTrue (is_well_typed schema plan)
  start_typed_as plan e = rw e start_typed

  pub typed_as : (plan : Plan) → plan ≡ rewritten schema mapping query → IsTrue (is_well_typed schema plan)
  typed_as plan e = rw e typed

  pub end_as : (plan : Plan) → plan ≡ rewritten schema mapping query → IsNormalFormOf schema start plan
  end_as plan e = rw e is_end

  pub settled_as : (plan : Plan) → plan ≡ rewritten schema mapping query → IsNormal schema plan
  settled_as plan e = rw e is_settled
