-- The R2RML vocabulary (R2RML, 4.1).
use Rattle.std.specs.Prelude.{ℕ, List, ◌++◌, codes}
use Rattle.vkg_term_maps.specs.declared.place.Role.{Role}
use Rattle.vkg_term_maps.specs.declared.place.Role.TheVariants.{Subject, Predicate, Object, Graph}

abbrev pub rr : List ℕ → List ℕ
rr name = codes "http://www.w3.org/ns/r2rml#" ++ name

-- R2RML, 7.1: the constant shortcut property of a role
abbrev pub shortcut : Role → List ℕ
shortcut Subject = rr (codes "subject")
shortcut Predicate = rr (codes "predicate")
shortcut Object = rr (codes "object")
shortcut Graph = rr (codes "graph")

-- R2RML, 6.1, 6.3 and 9: the property whose values are the nodes of term maps
abbrev pub map_property : Role → List ℕ
map_property Subject = rr (codes "subjectMap")
map_property Predicate = rr (codes "predicateMap")
map_property Object = rr (codes "objectMap")
map_property Graph = rr (codes "graphMap")
