-- What the rules over rows are for.
use Rattle.std.specs.Prelude.{◌≡◌, []}
use Rattle.vkg_schema.specs.Meets.{MeetsSchema}
use Rattle.vkg_schema.specs.Rows.{Database}
use Rattle.vkg_maps.specs.declared.mapping.Mapping.{Mapping}
use Rattle.vkg_maps.specs.DataFaults.{data_faults}
use Rattle.vkg_maps.specs.Dataset.{dataset}
use Rattle.vkg_plan.specs.Kinds.{Tables}
use Rattle.vkg_row_rules.specs.RowDataset.{dataset_of}
use Rattle.vkg_row_rules.specs.RowRules.{row_rules}
use Rattle.vkg_maps.specs.Within.{IsWithin}

-- R2RML, 11.1: over a database that meets its schema, and of which no term map makes a data error, the quads of the rules over rows
-- are the output dataset of the mapping
abbrev pub GivesDataset : Tables → Mapping → Database → Type 0
GivesDataset schema mapping db =
    IsWithin schema mapping → MeetsSchema schema db → data_faults mapping db ≡ [] → dataset_of schema (row_rules schema mapping) db ≡ dataset mapping db
