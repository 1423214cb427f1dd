-- What holds of the rules over rows of a mapping.
use Rattle.std.specs.Prelude.{◌≡◌, []}
use Rattle.vkg_schema.specs.Meets.{IsWellFormed, MeetsSchema}
use Rattle.vkg_schema.specs.Rows.{Database}
use Rattle.vkg_maps.specs.declared.mapping.Mapping.{Mapping}
use Rattle.vkg_maps.specs.DataFaults.{data_faults}
use Rattle.vkg_plan.specs.Kinds.{Tables}
use Rattle.vkg_row_rules.specs.RowRules.{row_rules}
use Rattle.vkg_maps.specs.Within.{IsWithin}
use Rattle.vkg_unfolded.specs.FineRows.{Meets}
use Rattle.vkg_unfolded.specs.FittingRules.{AreFitting}

-- over a database that meets its schema and has no data error each row of each rule is fine
abbrev pub HasFineRows : Tables → Mapping → Database → Type 0
HasFineRows schema mapping db =
    IsWellFormed schema → IsWithin schema mapping → MeetsSchema schema db → data_faults mapping db ≡ [] →
    Meets schema (row_rules schema mapping) db

-- the rules of a mapping within a well-formed schema fit it
abbrev pub HasFittingRules : Tables → Mapping → Type 0
HasFittingRules schema mapping = IsWellFormed schema → IsWithin schema mapping → AreFitting schema (row_rules schema mapping)
