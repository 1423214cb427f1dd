-- The generated company: rows of any number for the schema of the example company. It is an example of this project.
use Rattle.std.specs.Prelude.{ℕ, ◌+◌, ◌/◌, ◌%◌, ◌==◌, Bool, List, [], ◌∷◌, ◌++◌, codes, decimal, map, if◌then◌else◌}
use Rattle.std.specs.List.{range_with_len}
use Rattle.vkg_cells.specs.declared.cell.Cell.{Cell}
use Rattle.vkg_cells.specs.declared.cell.Cell.TheVariants as cell
use Rattle.vkg_schema.specs.Company.{company}
use Rattle.vkg_schema.specs.Rows.{Row, Database}
use Rattle.vkg_tables.specs.Seen.{Seen}

-- the schema as a text (SQL-92, 11.3 to 11.8)
abbrev pub company_text : List ℕ
company_text = codes "CREATE TABLE dept (id INTEGER PRIMARY KEY, title VARCHAR(20)); CREATE TABLE emp (id INTEGER PRIMARY KEY, name VARCHAR(20), dept INTEGER REFERENCES dept);"

-- how many departments there are for n employees
abbrev pub departments : ℕ → ℕ
departments n = n / 10 + 1

-- m divides k
abbrev pub divides : ℕ → ℕ → Bool
divides m k = k % m == 0

abbrev pub number : ℕ → Cell
number k = cell.Int (decimal k)

-- of the department k: `D` and its number, but NULL where 5 divides it
abbrev pub title : ℕ → Cell
title k = if divides 5 k then cell.Null else cell.Text (codes "D" ++ decimal k)

abbrev pub department : ℕ → Row
department k = number k ∷ title k ∷ []

-- of the employee i: one of seven names
abbrev pub name : ℕ → Cell
name i = cell.Text (codes "N" ++ decimal (i % 7))

-- of the employee i, where there are d departments: NULL where 4 divides i, else one of them, in turn
abbrev pub workplace : ℕ → ℕ → Cell
workplace d i = if divides 4 i then cell.Null else number (i % d + 1)

abbrev pub employee : ℕ → ℕ → Row
employee d i = number i ∷ name i ∷ workplace d i ∷ []

-- the first k departments, and the first k employees
abbrev pub department_rows : ℕ → List Row
department_rows k = map department (range_with_len 1 k)

abbrev pub employee_rows : ℕ → ℕ → List Row
employee_rows d k = map (employee d) (range_with_len 1 k)

-- the rows of the company of n employees
abbrev pub company_rows : ℕ → Database
company_rows n = department_rows (departments n) ∷ employee_rows (departments n) n ∷ []

-- the schema with these rows of its two tables
abbrev pub holding : List Row → List Row → Seen
holding ds es = record { schema = company; tables = ds ∷ es ∷ [] }

-- the company of n employees
abbrev pub company_of : ℕ → Seen
company_of n = record { schema = company; tables = company_rows n }
