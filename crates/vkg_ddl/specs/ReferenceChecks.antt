-- Foreign keys that refer to no key: for each check the least place at which it fails.
use Rattle.std.specs.Prelude.{ℕ, Bool, not, ◌&&◌, List, length, find, slice_get, Option, Some, None, option_map, if◌then◌else◌, ◌==◌, is_none}
use Rattle.std.specs.List.{list_any, range_with_len}
use Rattle.vkg_ddl.specs.declared.name.Name.{Name}
use Rattle.vkg_ddl.specs.declared.written.WrittenColumn.{WrittenColumn}
use Rattle.vkg_ddl.specs.declared.written.WrittenReference.{WrittenReference}
use Rattle.vkg_ddl.specs.declared.written.WrittenTable.{WrittenTable}
use Rattle.vkg_lists.specs.Places.{least_of, place_if}
use Rattle.vkg_lists.specs.Sets.{same_set}
use Rattle.vkg_ddl.specs.NameChecks.{matches, unknown_columns, one_column, name_twice}
use Rattle.vkg_ddl.specs.TypeChecks.{column_kind}
use Rattle.vkg_cells.specs.Order.{family}

-- the columns that a foreign key means: those that it lists, or those of the primary key there
abbrev pub targets_in : WrittenTable → WrittenReference → Option (List Name)
targets_in t r = if length r.targets == 0 then option_map (λ k. k.columns) (find (λ k. k.primary) t.keys) else Some r.targets

abbrev pub are_columns : WrittenTable → List Name → List Name → Bool
are_columns t left right = (length right == length left) && is_none (unknown_columns t.columns right) && is_none (name_twice t.columns right)

abbrev pub columns_fault : WrittenTable → WrittenReference → Option (List Name) → Option ℕ
columns_fault t r None = None
columns_fault t r (Some right) = place_if (not (are_columns t r.columns right)) r.first.at

-- the same columns as a set
abbrev pub same_columns : List WrittenColumn → List Name → List Name → Bool
same_columns columns xs ys = same_set (one_column columns) xs ys

abbrev pub are_key : WrittenTable → List Name → Bool
are_key t names = list_any (λ k. same_columns t.columns names k.columns) t.keys

abbrev pub key_fault : WrittenTable → WrittenReference → Option (List Name) → Option ℕ
key_fault t r None = Some r.first.at
key_fault t r (Some right) = place_if (not (are_key t right)) r.first.at

-- a check of a foreign key's target, where there is one
abbrev pub at_target : (WrittenTable → WrittenReference → Option (List Name) → Option ℕ) → Option WrittenTable → WrittenReference → Option ℕ
at_target fault None r = None
at_target fault (Some t) r = fault t r (targets_in t r)

-- the same of all tables; the check may look at the table that has the foreign key, too
abbrev pub target_fault : (WrittenTable → WrittenTable → WrittenReference → Option (List Name) → Option ℕ) → List WrittenTable → Option ℕ
target_fault fault tables = least_of (λ t. least_of (λ r. at_target (fault t) (find (λ u. matches r.table u.name) tables) r) t.references) tables

-- a foreign key to another number of columns, to an unknown one or to one twice: its REFERENCES
abbrev pub columns_wrong : List WrittenTable → Option ℕ
columns_wrong tables = target_fault (λ t. columns_fault) tables

-- a foreign key to what is no key: its REFERENCES
abbrev pub no_key : List WrittenTable → Option ℕ
no_key tables = target_fault (λ t. key_fault) tables

-- the family of the kind of a column, and 0 of none
abbrev pub family_of : Option WrittenColumn → ℕ
family_of None = 0
family_of (Some c) = family (column_kind c)

abbrev pub family_named : List WrittenColumn → Option Name → ℕ
family_named columns None = 0
family_named columns (Some n) = family_of (find (λ c. matches n c.name) columns)

abbrev pub over_families : List WrittenColumn → List WrittenColumn → List Name → List Name → Bool
over_families left_columns right_columns left right = list_any (λ i. not (family_named left_columns (slice_get left i) == family_named right_columns (slice_get right i))) (range_with_len 0 (length left))

abbrev pub family_fault : WrittenTable → WrittenTable → WrittenReference → Option (List Name) → Option ℕ
family_fault child t r None = None
family_fault child t r (Some right) = place_if (over_families child.columns t.columns r.columns right) r.first.at

-- a pair of columns of two families: its REFERENCES
abbrev pub families_differ : List WrittenTable → Option ℕ
families_differ tables = target_fault family_fault tables
