-- Names that are given twice or name nothing, and the limits: for each check the least place at which it fails.
use Rattle.std.specs.Prelude.{ℕ, Bool, not, nat_eq, position, ◌&&◌, List, length, take, slice_get, Option, Some, None, if◌then◌else◌, option_map}
use Rattle.std.specs.List.{list_any, range_with_len}
use Rattle.std.specs.Str.{bytes_eq, str_eq_ignore_ascii_case}
use Rattle.vkg_ddl.specs.declared.name.Name.{Name}
use Rattle.vkg_ddl.specs.declared.written.WrittenColumn.{WrittenColumn}
use Rattle.vkg_ddl.specs.declared.written.WrittenKey.{WrittenKey}
use Rattle.vkg_ddl.specs.declared.written.WrittenReference.{WrittenReference}
use Rattle.vkg_ddl.specs.declared.written.WrittenTable.{WrittenTable}
use Rattle.vkg_lists.specs.Options.{both_pass}
use Rattle.vkg_lists.specs.Places.{lesser, least_of, place_if}

-- two names that one schema may not have both
abbrev pub same_name : Name → Name → Bool
same_name a b = str_eq_ignore_ascii_case a.text b.text

-- own, after SQL-92, 5.2, which folds undelimited names to capitals: a delimited name matches exactly, an undelimited one whatever its case
abbrev pub text_matches : List ℕ → Bool → List ℕ → Bool
text_matches text delimited declared = if delimited then bytes_eq text declared else str_eq_ignore_ascii_case text declared

abbrev pub matches : Name → Name → Bool
matches n declared = text_matches n.text n.delimited declared.text

-- the table at i has a name that an earlier one has
abbrev pub table_again : List WrittenTable → Option WrittenTable → ℕ → Option ℕ
table_again tables None i = None
table_again tables (Some t) i = place_if (list_any (λ u. same_name t.name u.name) (take i tables)) t.name.at

-- a table named twice: the later name
abbrev pub table_twice : List WrittenTable → Option ℕ
table_twice tables = least_of (λ i. table_again tables (slice_get tables i) i) (range_with_len 0 (length tables))

abbrev pub column_again : List WrittenColumn → Option WrittenColumn → ℕ → Option ℕ
column_again columns None i = None
column_again columns (Some c) i = place_if (list_any (λ d. same_name c.name d.name) (take i columns)) c.name.at

abbrev pub column_twice_in : List WrittenColumn → Option ℕ
column_twice_in columns = least_of (λ i. column_again columns (slice_get columns i) i) (range_with_len 0 (length columns))

-- a column named twice: the later name
abbrev pub column_twice : List WrittenTable → Option ℕ
column_twice tables = least_of (λ t. column_twice_in t.columns) tables

-- a column of these has the name
abbrev pub names_column : List WrittenColumn → Name → Bool
names_column columns n = list_any (λ c. matches n c.name) columns

abbrev pub unknown_column : List WrittenColumn → Name → Option ℕ
unknown_column columns n = place_if (not (names_column columns n)) n.at

-- the names of a list that no column has
abbrev pub unknown_columns : List WrittenColumn → List Name → Option ℕ
unknown_columns columns names = least_of (unknown_column columns) names

-- a name in a key, or on the left side of a foreign key, that no column has
abbrev pub unknown_in_table : WrittenTable → Option ℕ
unknown_in_table t = lesser
    (least_of (λ k. unknown_columns t.columns k.columns) t.keys)
    (least_of (λ r. unknown_columns t.columns r.columns) t.references)

abbrev pub key_column_unknown : List WrittenTable → Option ℕ
key_column_unknown tables = least_of unknown_in_table tables

-- the place of the first column that has the name
abbrev pub column_place : List WrittenColumn → Name → Option ℕ
column_place columns n = position (λ c. matches n c.name) columns

-- two names of one column
abbrev pub one_column : List WrittenColumn → Name → Name → Bool
one_column columns a b = both_pass nat_eq (column_place columns a) (column_place columns b)

abbrev pub name_again : List WrittenColumn → List Name → Option Name → ℕ → Option ℕ
name_again columns names None i = None
name_again columns names (Some n) i = place_if (list_any (one_column columns n) (take i names)) n.at

-- a name of a column that an earlier name of the list names
abbrev pub name_twice : List WrittenColumn → List Name → Option ℕ
name_twice columns names = least_of (λ i. name_again columns names (slice_get names i) i) (range_with_len 0 (length names))

abbrev pub twice_in_table : WrittenTable → Option ℕ
twice_in_table t = lesser
    (least_of (λ k. name_twice t.columns k.columns) t.keys)
    (least_of (λ r. name_twice t.columns r.columns) t.references)

abbrev pub key_column_twice : List WrittenTable → Option ℕ
key_column_twice tables = least_of twice_in_table tables

abbrev pub primary_again : List WrittenKey → Option WrittenKey → ℕ → Option ℕ
primary_again keys None i = None
primary_again keys (Some k) i = place_if (k.primary && list_any (λ j. j.primary) (take i keys)) k.first.at

abbrev pub primary_twice_in : List WrittenKey → Option ℕ
primary_twice_in keys = least_of (λ i. primary_again keys (slice_get keys i) i) (range_with_len 0 (length keys))

-- a second primary key: its PRIMARY
abbrev pub primary_twice : List WrittenTable → Option ℕ
primary_twice tables = least_of (λ t. primary_twice_in t.keys) tables

-- a table has this name
abbrev pub names_table : List WrittenTable → Name → Bool
names_table tables n = list_any (λ t. matches n t.name) tables

-- a foreign key to no table
abbrev pub unknown_target : List WrittenTable → WrittenReference → Option ℕ
unknown_target tables r = place_if (not (names_table tables r.table)) r.table.at

abbrev pub table_unknown : List WrittenTable → Option ℕ
table_unknown tables = least_of (λ t. least_of (unknown_target tables) t.references) tables

-- the 257th table, or the 129th column of a table
abbrev pub limit_passed : List WrittenTable → Option ℕ
limit_passed tables = lesser
    (option_map (λ t. t.name.at) (slice_get tables 256))
    (least_of (λ t. option_map (λ c. c.name.at) (slice_get t.columns 128)) tables)
