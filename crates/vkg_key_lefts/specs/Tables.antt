-- What tables of a schema have: none where the schema does not have the table.
use Rattle.std.specs.Prelude.{ℕ, Bool, false, List, [], slice_get}
use Rattle.std.specs.List.{list_all}
use Rattle.std.specs.Option.{option_map_or}
use Rattle.vkg_schema.specs.declared.table.Key.{Key}
use Rattle.vkg_schema.specs.declared.table.Reference.{Reference}
use Rattle.vkg_plan.specs.Kinds.{Tables}
use Rattle.vkg_keys.specs.Keys.{is_full_column}

abbrev pub keys_of : Tables → ℕ → List Key
keys_of schema table = option_map_or (λ t. t.keys) (slice_get schema table) []

abbrev pub references_of : Tables → ℕ → List Reference
references_of schema table = option_map_or (λ t. t.references) (slice_get schema table) []

-- SQL-92, 11.7: the table has these columns, or this one, and none of them is NULL
abbrev pub are_full : Tables → ℕ → List ℕ → Bool
are_full schema table columns = option_map_or (λ t. list_all (is_full_column t) columns) (slice_get schema table) false

abbrev pub is_full_at : Tables → ℕ → ℕ → Bool
is_full_at schema table column = option_map_or (λ t. is_full_column t column) (slice_get schema table) false
