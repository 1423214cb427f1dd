-- The plan of a query over a mapping, and what a plan is good for.
use Rattle.std.specs.Prelude.{◌≡◌, [], map}
use Rattle.std.specs.List.Sorted.{IsPermutation}
use Rattle.vkg_schema.specs.Meets.{MeetsSchema}
use Rattle.vkg_schema.specs.Rows.{Database}
use Rattle.vkg_maps.specs.declared.mapping.Mapping.{Mapping}
use Rattle.vkg_maps.specs.DataFaults.{data_faults}
use Rattle.vkg_maps.specs.Dataset.{dataset}
use Rattle.vkg_sparql.specs.Lawful.{IsLawfulQuery}
use Rattle.vkg_sparql.specs.Query.{Query}
use Rattle.vkg_algebra.specs.Answer.{solutions_of}
use Rattle.vkg_plan.specs.Kinds.{Tables}
use Rattle.vkg_plan.specs.Plan.{Plan}
use Rattle.vkg_plan.specs.Rows.{rows_of}
use Rattle.vkg_row_rules.specs.RowRules.{row_rules}
use Rattle.vkg_unfolded.specs.Unfolded.{start_plan}
use Rattle.vkg_normal.specs.NormalForm.{normal_form}
use Rattle.vkg_answers.specs.Answering.{row_solution}

-- the normal form of the plan of its algebra over the quad rules of the mapping
unfoldable pub rewritten : Tables → Mapping → Query → Plan
rewritten schema mapping query = normal_form schema (start_plan schema (row_rules schema mapping) query)

-- SPARQL 1.1, 18.2.5, and R2RML, 11.1: over every database that meets the schema and has no data error the plan's rows, read as
-- solutions (NULL is an unbound variable), are those of the lawful query over the output dataset of the mapping, each as often
abbrev pub HasSolutions : Tables → Mapping → Query → Plan → Type 0
HasSolutions schema mapping query plan =
    IsLawfulQuery query → (db : Database) → MeetsSchema schema db → data_faults mapping db ≡ [] →
    IsPermutation (map row_solution (rows_of schema plan db)) (solutions_of query (dataset mapping db))
