-- What holds of the tables of every text of the grammar.
use Rattle.std.specs.Prelude.{◌≢◌, [], IsUtf8}
use Rattle.std.specs.List.{AllByRecursion}
use Rattle.vkg_ddl.specs.declared.name.Name.{Name}
use Rattle.vkg_ddl.specs.declared.written.WrittenColumn.{WrittenColumn}
use Rattle.vkg_ddl.specs.declared.written.WrittenKey.{WrittenKey}
use Rattle.vkg_ddl.specs.declared.written.WrittenTable.{WrittenTable}

abbrev pub IsWord : Name → Type 0
IsWord n = IsUtf8 n.text

abbrev pub IsNamed : WrittenColumn → Type 0
IsNamed c = IsUtf8 c.name.text

abbrev pub HasColumns : WrittenKey → Type 0
HasColumns k = k.columns ≢ []

-- the names are UTF-8, and a key has columns
pub record IsFormed (table : WrittenTable) : Type 0 where
  pub name : IsUtf8 table.name.text
  pub columns : AllByRecursion IsNamed table.columns
  pub keys : AllByRecursion HasColumns table.keys
