-- What the direct mapping of a schema stands for.
use Rattle.std.specs.Prelude.{◌≡◌, ℕ, List, []}
use Rattle.vkg_lists.specs.Sets.{HasSameMembers}
use Rattle.vkg_schema.specs.declared.table.Table.{Table}
use Rattle.vkg_schema.specs.Rows.{Database}
use Rattle.vkg_schema.specs.Meets.{MeetsSchema}
use Rattle.vkg_maps.specs.declared.mapping.Mapping.{Mapping}
use Rattle.vkg_maps.specs.Dataset.{dataset}
use Rattle.vkg_maps.specs.DataFaults.{data_faults}
use Rattle.vkg_direct.specs.DirectGraph.{direct_graph}

-- the mapping's dataset is the direct graph, over each database that meets the schema
abbrev pub GivesDirectGraph : List Table → List ℕ → Mapping → Type 0
GivesDirectGraph tables base mapping = (db : Database) → MeetsSchema tables db → HasSameMembers (dataset mapping db) (direct_graph tables base db)

-- no term of the mapping is a data error, over each database that meets the schema
abbrev pub MakesEachTerm : List Table → Mapping → Type 0
MakesEachTerm tables mapping = (db : Database) → MeetsSchema tables db → data_faults mapping db ≡ []
