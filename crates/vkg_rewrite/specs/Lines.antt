-- What is written of a query's rows.
use Rattle.std.specs.Prelude.{ℕ, List, map}
use Rattle.vkg_schema.specs.Rows.{Row}
use Rattle.vkg_sparql.specs.Query.{Query}
use Rattle.vkg_algebra.specs.Answer.{solutions_lines}
use Rattle.vkg_answers.specs.Answering.{row_solution}

-- what is written of the solutions that they are
unfoldable pub result_lines : Query → List Row → List (List ℕ)
result_lines query rows = solutions_lines query (map row_solution rows)
