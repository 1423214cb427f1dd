-- Subject maps of which no check fails.
use Rattle.std.specs.Prelude.{◌≡◌, ℕ, List, None}
use Rattle.std.specs.List.{AllByRecursion}
use Rattle.std.specs.Result.{result_err}
use Rattle.vkg_terms.specs.declared.term.Term.{Term}
use Rattle.vkg_turtle.specs.declared.triple.Triple.{Triple}
use Rattle.vkg_schema.specs.declared.table.Table.{Table}
use Rattle.vkg_term_maps.specs.declared.place.Place.TheVariants.{Node}
use Rattle.vkg_r2rml.specs.declared.map_check.Passed.{Passed}
use Rattle.vkg_r2rml.specs.ReferencingMap.{columns_of}
use Rattle.vkg_r2rml.specs.TriplesMap.{subject_at}

-- R2RML, 6.1, 6.2 and 9: no check of this subject map fails over this table
abbrev pub Passes : List Triple → List Table → List ℕ → Term → ℕ → Type 0
Passes triples schema base node table = result_err (subject_at triples (columns_of schema table) base (Node node)) ≡ None

abbrev pub ArePassed : List Triple → List Table → List ℕ → List Passed → Type 0
ArePassed triples schema base passed = AllByRecursion (λ p. Passes triples schema base p.node p.table) passed
