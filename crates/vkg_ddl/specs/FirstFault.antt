-- The first check that fails, and its least place.
use Rattle.std.specs.Prelude.{ℕ, List, Option, Some, None}
use Rattle.vkg_ddl.specs.declared.written.WrittenTable.{WrittenTable}
use Rattle.vkg_ddl.specs.NameChecks.{table_twice, column_twice, key_column_unknown, key_column_twice, primary_twice, table_unknown, limit_passed}
use Rattle.vkg_ddl.specs.TypeChecks.{type_unknown, precision_wrong}
use Rattle.vkg_ddl.specs.ReferenceChecks.{columns_wrong, no_key, families_differ}

-- the first check that fails, and its least place
abbrev pub failed : ℕ → Option ℕ → Option (ℕ × ℕ) → Option (ℕ × ℕ)
failed check None later = later
failed check (Some at) later = Some (check, at)

abbrev pub first_fault : List WrittenTable → Option (ℕ × ℕ)
first_fault tables =
    failed 3 (table_twice tables)
    (failed 4 (column_twice tables)
    (failed 5 (type_unknown tables)
    (failed 6 (precision_wrong tables)
    (failed 7 (key_column_unknown tables)
    (failed 8 (key_column_twice tables)
    (failed 9 (primary_twice tables)
    (failed 10 (table_unknown tables)
    (failed 11 (columns_wrong tables)
    (failed 12 (no_key tables)
    (failed 13 (families_differ tables)
    (failed 14 (limit_passed tables) None)))))))))))
