-- Rows in another order have the same lines.
use Rattle.std.proofs.Common.{◌≡◌, ◌∙◌, ℕ, List, map}
use Rattle.std.specs.Prelude.{IfOk, Result}
use Rattle.std.specs.List.Sorted.{IsPermutation}
use Rattle.std.proofs.lemmas.Result.{IfOk-weaker}
use Rattle.std.proofs.lemmas.List.Sorted.{IsPermutation-map}
use Rattle.vkg_base.specs.declared.memory.Memory.{Memory}
use Rattle.vkg_schema.specs.Rows.{Row}
use Rattle.vkg_sparql.specs.Query.{Query}
use Rattle.vkg_algebra.proofs.Forms.{lines-bag}
use Rattle.vkg_answers.specs.Answering.{row_solution}
use Rattle.vkg_rewrite.specs.Lines.{result_lines}

pub same_lines : (query : Query) (rows others : List Row) → IsPermutation rows others → result_lines query rows ≡ result_lines query others
unfolding result_lines
same_lines query rows others p = lines-bag query (map row_solution rows) (map row_solution others) (IsPermutation-map row_solution rows others p)

-- what has the lines of some rows has those of the same rows in another order
pub lines_of_all : (made : Result (List (List ℕ)) Memory) (query : Query) (rows others : List Row) → IfOk made (λ lines. lines ≡ result_lines query rows) → IsPermutation rows others
    → IfOk made (λ lines. lines ≡ result_lines query others)
lines_of_all made query rows others are p = IfOk-weaker made (λ lines. lines ≡ result_lines query rows) (λ lines. lines ≡ result_lines query others) (λ lines e. e ∙ same_lines query rows others p) are
