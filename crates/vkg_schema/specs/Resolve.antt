-- The tables of a text, with every name resolved.
use Rattle.std.specs.Prelude.{ℕ, Bool, ◌&&◌, ◌||◌, List, [], length, map, slice_get, find, Option, Some, None, unwrap_or, position}
use Rattle.std.specs.List.{list_any, range_with_len}
use Rattle.vkg_ddl.specs.declared.name.Name.{Name}
use Rattle.vkg_ddl.specs.declared.written.WrittenColumn.{WrittenColumn}
use Rattle.vkg_ddl.specs.declared.written.WrittenKey.{WrittenKey}
use Rattle.vkg_ddl.specs.declared.written.WrittenReference.{WrittenReference}
use Rattle.vkg_ddl.specs.declared.written.WrittenTable.{WrittenTable}
use Rattle.vkg_ddl.specs.NameChecks.{matches, column_place}
use Rattle.vkg_ddl.specs.TypeChecks.{column_kind}
use Rattle.vkg_ddl.specs.ReferenceChecks.{targets_in}
use Rattle.vkg_schema.specs.declared.table.Table.{Table}
use Rattle.vkg_schema.specs.declared.table.Column.{Column}
use Rattle.vkg_schema.specs.declared.table.Key.{Key}
use Rattle.vkg_schema.specs.declared.table.Reference.{Reference}

-- a primary key names the column
abbrev pub is_primary : List WrittenKey → WrittenColumn → Bool
is_primary keys c = list_any (λ k. k.primary && list_any (λ n. matches n c.name) k.columns) keys

-- SQL-92, 11.7: a column of the primary key is NOT NULL
abbrev pub column_at : List WrittenKey → WrittenColumn → Column
column_at keys c = record { name = c.name.text; kind = column_kind c; not_null = c.not_null || is_primary keys c }

abbrev pub columns_at : List WrittenKey → List WrittenColumn → List Column
columns_at keys columns = map (column_at keys) columns

-- the place of the column that a name means
abbrev pub place_of : List WrittenColumn → Name → ℕ
place_of columns n = unwrap_or (column_place columns n) 0

abbrev pub places_of : List WrittenColumn → List Name → List ℕ
places_of columns names = map (place_of columns) names

abbrev pub key_at : List WrittenColumn → WrittenKey → Key
key_at columns k = record { primary = k.primary; columns = places_of columns k.columns }

abbrev pub keys_at : List WrittenColumn → List WrittenKey → List Key
keys_at columns keys = map (key_at columns) keys

-- the place of the table that a name means
abbrev pub table_place : List WrittenTable → Name → ℕ
table_place tables n = unwrap_or (position (λ t. matches n t.name) tables) 0

abbrev pub place_at : List WrittenColumn → Option Name → ℕ
place_at columns None = 0
place_at columns (Some n) = place_of columns n

abbrev pub pair_at : List WrittenColumn → List WrittenColumn → List Name → List Name → ℕ → ℕ × ℕ
pair_at left_columns right_columns left right i = (place_at left_columns (slice_get left i), place_at right_columns (slice_get right i))

-- the columns of a foreign key, each with the one there that it refers to
abbrev pub pairs_at : List WrittenColumn → List WrittenColumn → List Name → List Name → List (ℕ × ℕ)
pairs_at left_columns right_columns left right = map (pair_at left_columns right_columns left right) (range_with_len 0 (length left))

abbrev pub target_pairs : WrittenTable → WrittenTable → WrittenReference → List (ℕ × ℕ)
target_pairs child t r = pairs_at child.columns t.columns r.columns (unwrap_or (targets_in t r) [])

abbrev pub pairs_to : WrittenTable → Option WrittenTable → WrittenReference → List (ℕ × ℕ)
pairs_to child None r = []
pairs_to child (Some t) r = target_pairs child t r

abbrev pub reference_at : List WrittenTable → WrittenTable → WrittenReference → Reference
reference_at tables child r = record { table = table_place tables r.table; pairs = pairs_to child (find (λ u. matches r.table u.name) tables) r }

abbrev pub table_at : List WrittenTable → WrittenTable → Table
table_at tables t = record {
  name = t.name.text;
  columns = columns_at t.keys t.columns;
  keys = keys_at t.columns t.keys;
  references = map (reference_at tables t) t.references;
}

-- the schema that the tables of a text without a fault are
abbrev pub schema_of : List WrittenTable → List Table
schema_of tables = map (table_at tables) tables
