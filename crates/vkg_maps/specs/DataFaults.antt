-- The data errors of a mapping over a database, the least one first.
use Rattle.std.specs.Prelude.{ℕ, List, [], ◌∷◌, ◌++◌, flat_map, map, Option, Some, None, Ok, Err}
use Rattle.std.specs.List.{enumerate_from}
use Rattle.vkg_lists.specs.Firsts.{first_of}
use Rattle.vkg_schema.specs.Rows.{Row, Database, rows_of}
use Rattle.vkg_maps.specs.declared.term_map.TermMap.{TermMap}
use Rattle.vkg_maps.specs.declared.data_fault.TermFault.{TermFault}
use Rattle.vkg_maps.specs.declared.data_fault.TermFault.TheVariants.{NotIri, IllTyped, TooWide}
use Rattle.vkg_maps.specs.declared.data_fault.DataFault.{DataFault}
use Rattle.vkg_maps.specs.declared.mapping.Mapping.{Mapping}
use Rattle.vkg_maps.specs.declared.mapping.TriplesMap.{TriplesMap}
use Rattle.vkg_maps.specs.declared.mapping.ObjectMap.{ObjectMap}
use Rattle.vkg_maps.specs.declared.mapping.ObjectMap.TheVariants as object
use Rattle.vkg_maps.specs.Terms.{Made, term_of}
use Rattle.vkg_maps.specs.declared.mapping.PredicateObjectMap.{PredicateObjectMap}

-- the numbers of the checks, as in the fault codes X01, X02 and X03
abbrev pub check_of : TermFault → ℕ
check_of NotIri = 1
check_of IllTyped = 2
check_of TooWide = 3

-- a referencing object map takes its number and is not asked
abbrev pub asked : ObjectMap → Option TermMap
asked (object.Term t) = Some t
asked (object.Parent parent conditions) = None

-- the term maps of a predicate-object map: its predicates, objects and graphs
abbrev pub pair_maps : PredicateObjectMap → List (Option TermMap)
pair_maps po = map Some po.predicates ++ map asked po.objects ++ map Some po.graphs

-- own: the subject map, its graph maps, then of each predicate-object map its predicates, objects and graphs
abbrev pub term_maps : TriplesMap → List (Option TermMap)
term_maps m = Some m.subject ∷ map Some m.graphs ++ flat_map pair_maps m.predicate_objects

abbrev pub fault_of : Made → List TermFault
fault_of (Ok t) = []
fault_of (Err fault) = fault ∷ []

abbrev pub term_faults : List ℕ → Row → Option TermMap → List TermFault
term_faults base row None = []
term_faults base row (Some t) = fault_of (term_of base t row)

abbrev pub fault_at : ℕ → ℕ → ℕ → TermFault → DataFault
fault_at k r t fault = record { fault = fault; map = k; row = r; term = t }

abbrev pub faults_at : List ℕ → ℕ → (ℕ × Row) → (ℕ × Option TermMap) → List DataFault
faults_at base k r t = map (fault_at k r.0 t.0) (term_faults base r.1 t.1)

-- the faults of a row, by the places of the term maps
abbrev pub row_faults : List ℕ → List (Option TermMap) → ℕ → (ℕ × Row) → List DataFault
row_faults base terms k r = flat_map (faults_at base k r) (enumerate_from 0 terms)

abbrev pub map_faults : List ℕ → Database → (ℕ × TriplesMap) → List DataFault
map_faults base db m = flat_map (row_faults base (term_maps m.1) m.0) (enumerate_from 1 (rows_of db m.1.table))

-- each fault with its places, in the order of map, row and term map: the least is the first
abbrev pub data_faults : Mapping → Database → List DataFault
data_faults mapping db = flat_map (map_faults mapping.base db) (enumerate_from 1 mapping.maps)

-- R2RML, 4.3, data errors: the least, if there is one
abbrev pub least_data_fault : Mapping → Database → Option DataFault
least_data_fault mapping db = first_of (data_faults mapping db)
