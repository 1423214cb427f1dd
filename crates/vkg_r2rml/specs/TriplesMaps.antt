-- The triples maps of a mapping graph, each with its table.
use Rattle.std.specs.Prelude.{ℕ, Bool, ◌&&◌, ◌||◌, List, codes, map, filter, Option, position, slice_get}
use Rattle.std.specs.Option.{option_and_then}
use Rattle.std.specs.Result.{result_ok}
use Rattle.vkg_lists.specs.Sets.{distinct}
use Rattle.vkg_terms.specs.declared.term.Term.{Term}
use Rattle.vkg_terms.specs.declared.term.Term.TheVariants.{Iri}
use Rattle.vkg_terms.specs.Vocabulary.{rdf_type}
use Rattle.vkg_terms.specs.Same.{term_eq}
use Rattle.vkg_turtle.specs.declared.triple.Triple.{Triple}
use Rattle.vkg_schema.specs.declared.table.Table.{Table}
use Rattle.vkg_term_maps.specs.Vocabulary.{rr}
use Rattle.vkg_r2rml.specs.declared.map_node.MapNode.{MapNode}
use Rattle.vkg_r2rml.specs.LogicalTable.{table_of}

-- R2RML, 6: the subject has a logical table, or is said to be a triples map
abbrev pub shows_triples_map : Triple → Bool
shows_triples_map t =
    term_eq t.predicate (Iri (rr (codes "logicalTable"))) || (term_eq t.predicate (Iri rdf_type) && term_eq t.object (Iri (rr (codes "TriplesMap"))))

-- each of them once, where it is first shown
abbrev pub nodes_of_maps : List Triple → List Term
nodes_of_maps triples = distinct term_eq (map (λ t. t.subject) (filter shows_triples_map triples))

abbrev pub map_node : List Triple → List Table → Term → MapNode
map_node triples schema node = record { node = node; table = table_of triples schema node }

abbrev pub triples_maps : List Triple → List Table → List MapNode
triples_maps triples schema = map (map_node triples schema) (nodes_of_maps triples)

-- the place of the triples map that a term is
abbrev pub place_of : List MapNode → Term → Option ℕ
place_of maps t = position (λ m. term_eq m.node t) maps

-- the table of the triples map at a place, where no check of it fails
abbrev pub table_at : List MapNode → ℕ → Option ℕ
table_at maps place = option_and_then (λ m. result_ok m.table) (slice_get maps place)
