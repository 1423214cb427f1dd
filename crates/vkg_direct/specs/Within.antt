-- The direct mapping is within its schema, and its quads can be written.
use Rattle.std.specs.Prelude.{◌≡◌, ℕ, List, Ok, true}
use Rattle.vkg_terms.specs.Iri.{is_absolute}
use Rattle.vkg_schema.specs.declared.table.Table.{Table}
use Rattle.vkg_schema.specs.Meets.{IsWellFormed}
use Rattle.vkg_maps.specs.declared.mapping.Mapping.{Mapping}
use Rattle.vkg_maps.specs.Within.{IsWithin}
use Rattle.vkg_maps.specs.Writable.{HoldsWritable}
use Rattle.vkg_direct.specs.DirectMapping.{direct_result}

-- what the direct mapping of a well-formed schema names is in the schema
abbrev pub DirectIsWithin : List Table → List ℕ → Mapping → Type 0
DirectIsWithin schema base mapping = IsWellFormed schema → direct_result schema base ≡ Ok mapping → IsWithin schema mapping

-- RDF 1.1 N-Quads, 4: under a base that is an absolute IRI each term map of the direct mapping can be written
abbrev pub DirectIsWritable : List Table → List ℕ → Mapping → Type 0
DirectIsWritable schema base mapping = IsWellFormed schema → is_absolute base ≡ true → direct_result schema base ≡ Ok mapping → HoldsWritable mapping
