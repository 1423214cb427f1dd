-- A mapping that is read is within its schema.
use Rattle.std.specs.Prelude.{◌≡◌, ℕ, List, Ok}
use Rattle.vkg_turtle.specs.declared.triple.Triple.{Triple}
use Rattle.vkg_schema.specs.declared.table.Table.{Table}
use Rattle.vkg_maps.specs.declared.mapping.Mapping.{Mapping}
use Rattle.vkg_maps.specs.Within.{IsWithin}
use Rattle.vkg_r2rml.specs.Mapping.{mapping_of}

-- R2RML, 5.1, 7.2, 7.3 and 8: what the mapping of a graph over a schema names is in the schema
abbrev pub ReadIsWithin : List Triple → List Table → List ℕ → Mapping → Type 0
ReadIsWithin triples schema base mapping = mapping_of triples schema base ≡ Ok mapping → IsWithin schema mapping
