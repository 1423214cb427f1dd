-- The dump: the lines of a dataset in strictly ascending order.
use Rattle.std.specs.Prelude.{◌≡◌, ℕ, List, length, map}
use Rattle.std.specs.List.Sorted.{IsStrictlySortedBy}
use Rattle.vkg_lists.specs.Ascending.{ascending_once}
use Rattle.vkg_lists.specs.Sets.{HasSameMembers}
use Rattle.vkg_lists.specs.Texts.{bytes_cmp}
use Rattle.vkg_terms.specs.NQuads.{Quad, line}
use Rattle.vkg_schema.specs.Meets.{MeetsSchema}
use Rattle.vkg_tables.specs.Seen.{Seen}
use Rattle.vkg_maps.specs.declared.mapping.Mapping.{Mapping}
use Rattle.vkg_maps.specs.Dataset.{dataset}
use Rattle.vkg_maps.specs.Writable.{HoldsWritable}

-- RDF 1.1 N-Quads, 4, nquadsDoc: the line of each quad once, ascending by bytes, and no other line
pub record IsDump (lines : List (List ℕ)) (quads : List Quad) : Type 0 where
  pub ascending : IsStrictlySortedBy bytes_cmp lines
  pub each : HasSameMembers (map line quads) lines

-- the one list that is the dump
abbrev pub dump : List Quad → List (List ℕ)
dump quads = ascending_once (map line quads)

-- As many lines as quads, so that no two quads share one: where the database meets its schema, and each term map of the
-- mapping can be written.
abbrev pub HasLineForEach : Mapping → Seen → List (List ℕ) → Type 0
HasLineForEach mapping db lines = MeetsSchema db.schema db.tables → HoldsWritable mapping → length lines ≡ length (dataset mapping db.tables)
