-- The index of the triples maps.
use Rattle.std.specs.Prelude.{◌≡◌, ℕ, ◌&&◌, List, [], ◌∷◌, ◌++◌, String, is_none, if◌then◌else◌}
use Rattle.std.specs.HashMap.{HashMap, get_by_text}
use Rattle.vkg_terms.specs.declared.term.Term.{Term}
use Rattle.vkg_terms.specs.NQuads.{term_text}
use Rattle.vkg_terms.specs.Writable.{HoldsText}
use Rattle.vkg_turtle.specs.declared.triple.Triple.{Triple}
use Rattle.vkg_schema.specs.declared.table.Table.{Table}
use Rattle.vkg_r2rml.specs.declared.map_node.MapNode.{MapNode}
use Rattle.vkg_r2rml.specs.TriplesMaps.{shows_triples_map, map_node, place_of}

-- under the text of a term stands the place of the triples map that it is
abbrev pub IsIndexOf : {Y S : Type 0} → List MapNode → HashMap (String Y) ℕ S → Type 0
IsIndexOf maps index = (t : Term) → HoldsText t → get_by_text index (term_text t) ≡ place_of maps t

-- one more triple: its subject is put behind, if it is shown to be a triples map and is not there yet
abbrev pub with_triple : List Triple → List Table → List MapNode → Triple → List MapNode
with_triple triples schema maps t =
    if shows_triples_map t && is_none (place_of maps t.subject) then maps ++ map_node triples schema t.subject ∷ [] else maps
