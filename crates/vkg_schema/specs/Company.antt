-- The schema of the example company: departments, and employees who may have one.
use Rattle.std.specs.Prelude.{ℕ, true, false, List, [], ◌∷◌, codes}
use Rattle.vkg_cells.specs.declared.cell.SqlType.TheVariants as kind
use Rattle.vkg_schema.specs.declared.table.Table.{Table}
use Rattle.vkg_schema.specs.declared.table.Column.{Column}
use Rattle.vkg_schema.specs.declared.table.Key.{Key}

abbrev pub id_column : Column
id_column = record { name = codes "id"; kind = kind.Int; not_null = true }

-- each table has its column `id` for a primary key
abbrev pub id_key : Key
id_key = record { primary = true; columns = 0 ∷ [] }

abbrev pub dept : Table
dept = record {
  name = codes "dept";
  columns = id_column ∷ record { name = codes "title"; kind = kind.Text; not_null = false } ∷ [];
  keys = id_key ∷ [];
  references = [];
}

abbrev pub emp : Table
emp = record {
  name = codes "emp";
  columns = id_column
      ∷ record { name = codes "name"; kind = kind.Text; not_null = false }
      ∷ record { name = codes "dept"; kind = kind.Int; not_null = false } ∷ [];
  keys = id_key ∷ [];
  references = record { table = 0; pairs = (2, 0) ∷ [] } ∷ [];
}

-- the schema
abbrev pub company : List Table
company = dept ∷ emp ∷ []

-- the base IRI of its examples, and of the report that is generated of such a company
abbrev pub base : List ℕ
base = codes "http://e/"
