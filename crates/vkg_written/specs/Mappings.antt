-- Mappings that are read, and whether what they make can be written.
use Rattle.std.specs.Prelude.{◌≡◌, ℕ, List, length, Ok}
use Rattle.std.specs.List.{AllByRecursion}
use Rattle.vkg_terms.specs.declared.term.Term.{Term}
use Rattle.vkg_terms.specs.declared.term.Term.TheVariants.{Iri, Blank, Lit}
use Rattle.vkg_terms.specs.Writable.{IsWritable}
use Rattle.vkg_schema.specs.declared.table.Table.{Table}
use Rattle.vkg_maps.specs.declared.mapping.Mapping.{Mapping}
use Rattle.vkg_maps.specs.Dataset.{dataset}
use Rattle.vkg_maps.specs.Writable.{HoldsWritable}
use Rattle.vkg_schema.specs.Meets.{MeetsSchema}
use Rattle.vkg_tables.specs.Seen.{Seen}
use Rattle.vkg_quads.specs.Dump.{dump}
use Rattle.vkg_turtle.specs.declared.triple.Triple.{Triple}
use Rattle.vkg_turtle.specs.Reading.{IsDocumentOf}
use Rattle.vkg_r2rml.specs.Mapping.{mapping_of}

-- a value that a mapping may take over: no blank node of the graph is one (R2RML, 7.1)
abbrev pub IsWritableValue : Term → Type 0
IsWritableValue (Iri iri) = IsWritable (Iri iri)
IsWritableValue (Blank label) = Unit {0}
IsWritableValue (Lit text annotation) = IsWritable (Lit text annotation)

-- each object of the graph
abbrev pub HoldsWritableValues : List Triple → Type 0
HoldsWritableValues triples = AllByRecursion (λ t. IsWritableValue t.object) triples

-- R2RML, 7.1 to 7.6: constants, classes, datatypes and language tags are objects of the graph
abbrev pub ReadIsWritable : List Triple → List Table → List ℕ → Mapping → Type 0
ReadIsWritable triples schema base mapping = HoldsWritableValues triples → mapping_of triples schema base ≡ Ok mapping → HoldsWritable mapping

-- RDF 1.1 Turtle, 6.5 and 7.2: the IRIs of a document are absolute, its strings are texts, its language tags letters, digits and `-`
abbrev pub DocumentIsWritable : List ℕ → List ℕ → List Triple → Type 0
DocumentIsWritable bytes base triples = IsDocumentOf bytes base triples → HoldsWritableValues triples

-- R2RML, 4.1: a mapping document is a graph in Turtle, read against a base; the mapping's base may be another
abbrev pub MappingIsWritable : List ℕ → List ℕ → List Triple → List Table → List ℕ → Mapping → Type 0
MappingIsWritable bytes against triples schema base mapping = IsDocumentOf bytes against triples → mapping_of triples schema base ≡ Ok mapping → HoldsWritable mapping

-- RDF 1.1 N-Quads, 4: over a database that meets its schema, the dump has as many lines as the dataset has quads
abbrev pub HasLines : List ℕ → List ℕ → List Triple → List ℕ → Mapping → Seen → Type 0
HasLines bytes against triples base mapping db =
    IsDocumentOf bytes against triples → mapping_of triples db.schema base ≡ Ok mapping → MeetsSchema db.schema db.tables
    → length (dump (dataset mapping db.tables)) ≡ length (dataset mapping db.tables)
