-- The rows of the worked examples, for the schema of the example company.
use Rattle.std.specs.Prelude.{ℕ, List, [], ◌∷◌, codes}
use Rattle.vkg_cells.specs.declared.cell.Cell.{Cell}
use Rattle.vkg_cells.specs.declared.cell.Cell.TheVariants as cell
use Rattle.vkg_schema.specs.Rows.{Row, Database}

abbrev pub int : List ℕ → Cell
int text = cell.Int text

abbrev pub text : List ℕ → Cell
text t = cell.Text t

abbrev pub dept_rows : List Row
dept_rows = (int (codes "1") ∷ text (codes "Ore") ∷ []) ∷ (int (codes "2") ∷ cell.Null ∷ []) ∷ []

abbrev pub emp_rows : List Row
emp_rows = (int (codes "7") ∷ text (codes "Ann") ∷ int (codes "1") ∷ [])
    ∷ (int (codes "8") ∷ text (codes "Bo") ∷ cell.Null ∷ [])
    ∷ (int (codes "9") ∷ text (codes "Ann") ∷ int (codes "1") ∷ []) ∷ []

abbrev pub db : Database
db = dept_rows ∷ emp_rows ∷ []

-- the IRIs of N-Quads lines that stand in them
abbrev pub i_text : List ℕ
i_text = codes "<http://www.w3.org/2001/XMLSchema#integer>"

abbrev pub a_text : List ℕ
a_text = codes "<http://www.w3.org/1999/02/22-rdf-syntax-ns#type>"
