-- The rows of a query's plan are those of its start plan, so they are its solutions, and their lines the answer.
use Rattle.std.proofs.Common.{◌≡◌, ◌∙◌, ℕ, List, [], map, ap, subst}
use Rattle.std.specs.Prelude.{IfOk, Result}
use Rattle.std.specs.List.Sorted.{IsPermutation}
use Rattle.std.proofs.lemmas.List.Sorted.{IsPermutation-map, IsPermutation-sym, IsPermutation-trans}
use Rattle.std.proofs.lemmas.Result.{IfOk-weaker}
use Rattle.vkg_base.specs.declared.memory.Memory.{Memory}
use Rattle.vkg_schema.specs.Meets.{IsWellFormed, MeetsSchema}
use Rattle.vkg_schema.specs.Rows.{Database, Row}
use Rattle.vkg_maps.specs.declared.mapping.Mapping.{Mapping}
use Rattle.vkg_maps.specs.DataFaults.{data_faults}
use Rattle.vkg_maps.specs.Dataset.{dataset}
use Rattle.vkg_maps.specs.Within.{IsWithin}
use Rattle.vkg_sparql.specs.Lawful.{IsLawfulQuery}
use Rattle.vkg_sparql.specs.Query.{Query}
use Rattle.vkg_algebra.specs.Answer.{answer, solutions_of}
use Rattle.vkg_plan.specs.Kinds.{Tables}
use Rattle.vkg_plan.specs.Plan.{Plan}
use Rattle.vkg_plan.specs.Rows.{rows_of}
use Rattle.vkg_row_rules.specs.RowRules.{row_rules}
use Rattle.vkg_row_rules.proofs.Bridge.{gives_dataset}
use Rattle.vkg_unfolded.specs.FineRows.{Meets}
use Rattle.vkg_fine_rules.proofs.FineRows.{has_fine_rows}
use Rattle.vkg_unfolded.specs.Unfolded.{start_plan}
use Rattle.vkg_answers.specs.Answering.{row_solution}
use Rattle.vkg_answers.proofs.Start.{gives_answer, gives_solutions}
use Rattle.vkg_rewrite.specs.Lines.{result_lines}
use Rattle.vkg_rewrite.specs.Rewritten.{HasSolutions, rewritten}
use Rattle.vkg_rewrite.proofs.Typed.{kept}

module _ (schema : Tables) (mapping : Mapping) (db : Database) (query : Query) (well : IsWellFormed schema) (within : IsWithin schema mapping)
    (meets : MeetsSchema schema db) (faultless : data_faults mapping db ≡ []) (lawful : IsLawfulQuery query) where
  lines_are : (rows : List Row) → IsPermutation rows (rows_of schema (rewritten schema mapping query) db) → result_lines query rows ≡ answer query (dataset mapping db)
  unfolding result_lines
  lines_are rows bag =
      let fine : Meets schema (row_rules schema mapping) db = has_fine_rows schema mapping db well within meets faultless in
      let start = IsPermutation-trans _ _ _ bag (IsPermutation-sym _ _ ((kept schema mapping query well within).rows db meets)) in
      gives_answer schema (row_rules schema mapping) query lawful db fine rows start ∙ ap (answer query) (gives_dataset schema mapping db within meets faultless)

  pub answered : (made : Result (List (List ℕ)) Memory) (rows : List Row) → IfOk made (λ lines. lines ≡ result_lines query rows)
      → IsPermutation rows (rows_of schema (rewritten schema mapping query) db) → IfOk made (λ lines. lines ≡ answer query (dataset mapping db))
  answered made rows are bag = IfOk-weaker made (λ lines. lines ≡ result_lines query rows) (λ lines. lines ≡ answer query (dataset mapping db)) (λ lines e. e ∙ lines_are rows bag) are

module _ (schema : Tables) (mapping : Mapping) (query : Query) (well : IsWellFormed schema) (within : IsWithin schema mapping) where
  has_solutions : HasSolutions schema mapping query (rewritten schema mapping query)
  has_solutions lawful db meets faultless =
      let fine : Meets schema (row_rules schema mapping) db = has_fine_rows schema mapping db well within meets faultless in
      let start = subst (λ quads. IsPermutation (map row_solution (rows_of schema (start_plan schema (row_rules schema mapping) query) db)) (solutions_of query quads))
      (gives_dataset schema mapping db within meets faultless)
      (gives_solutions schema (row_rules schema mapping) query lawful db fine) in
      IsPermutation-trans _ _ _ (IsPermutation-map row_solution _ _ (IsPermutation-sym _ _ ((kept schema mapping query well within).rows db meets))) start

  pub solutions_as : (plan : Plan) → plan ≡ rewritten schema mapping query → HasSolutions schema mapping query plan
  solutions_as plan e = rw e has_solutions
