-- What a database keeps of its tables, and the rows that this stands for.
use Rattle.std.specs.Prelude.{◌≡◌, ℕ, List, map, Result, Ok, Err}
use Rattle.std.specs.List.{AllZip}
use Rattle.vkg_schema.specs.declared.table.Table.{Table}
use Rattle.vkg_schema.specs.Rows.{Row}
use Rattle.vkg_store.specs.Stored.{IsStored, TableNumbers, table_seen}
use Rattle.vkg_tables.specs.Seen.{HoldsCells}
use Rattle.vkg_tables.specs.Steps.{FailsAs}
use Rattle.vkg_tables.specs.declared.fault.FileFault.{FileFault}
use Rattle.vkg_tables.specs.declared.fault.FileError.{FileError}

-- of each table its rows
abbrev pub tables_seen : List (List ℕ) → List TableNumbers → List (List Row)
tables_seen texts tables = map (table_seen texts) tables

-- each table is stored by the columns of the schema
abbrev pub AreStored : List (List ℕ) → List Table → List TableNumbers → Type 0
AreStored texts schema tables = AllZip (λ table stored. IsStored texts table.columns stored) schema tables

pub record IsKept (schema : List Table) (texts : List (List ℕ)) (tables : List TableNumbers) : Type 0 where
  pub stored : AreStored texts schema tables
  pub holds : HoldsCells schema (tables_seen texts tables)

-- the call gives a table of the rows that are defined, or wants memory
abbrev pub GivesTable : List (List ℕ) → Result (List Row) FileFault → Result TableNumbers FileError → Type 0
GivesTable texts defined (Ok stored) = defined ≡ Ok (table_seen texts stored)
GivesTable texts defined (Err e) = FailsAs defined e
