-- What tables of a schema have: none where the schema does not have the table.
use Rattle.std.specs.Prelude.{ℕ, List, [], slice_get}
use Rattle.std.specs.Option.{option_map_or}
use Rattle.vkg_schema.specs.declared.table.Key.{Key}
use Rattle.vkg_schema.specs.declared.table.Reference.{Reference}
use Rattle.vkg_plan.specs.Kinds.{Tables}

abbrev pub keys_of : Tables → ℕ → List Key
keys_of schema table = option_map_or (λ t. t.keys) (slice_get schema table) []

abbrev pub references_of : Tables → ℕ → List Reference
references_of schema table = option_map_or (λ t. t.references) (slice_get schema table) []
