-- Which data errors there are, and which is the least, in the subject's own words.
use Rattle.std.specs.Prelude.{◌≡◌, ◌<◌, ◌⊎◌, Contains, Option, Some, None, Err}
use Rattle.std.specs.List.{enumerate_from}
use Rattle.vkg_schema.specs.Rows.{Row, Database, rows_of}
use Rattle.vkg_maps.specs.declared.term_map.TermMap.{TermMap}
use Rattle.vkg_maps.specs.declared.data_fault.DataFault.{DataFault}
use Rattle.vkg_maps.specs.declared.mapping.Mapping.{Mapping}
use Rattle.vkg_maps.specs.declared.mapping.TriplesMap.{TriplesMap}
use Rattle.vkg_maps.specs.Terms.{term_of}
use Rattle.vkg_maps.specs.DataFaults.{term_maps}

-- R2RML, 4.3: at these places a term map makes no term of a row. Maps and rows count from 1, term maps from 0.
pub record IsDataFault (mapping : Mapping) (db : Database) (f : DataFault) : Type 0 where
  pub triples_map : TriplesMap
  pub cells : Row
  pub term_map : TermMap
  pub is_map : Contains (enumerate_from 1 mapping.maps) (f.map, triples_map)
  pub is_row : Contains (enumerate_from 1 (rows_of db triples_map.table)) (f.row, cells)
  pub is_term : Contains (enumerate_from 0 (term_maps triples_map)) (f.term, Some term_map)
  pub fails : term_of mapping.base term_map cells ≡ Err f.fault

-- by the map, then the row, then the term map
abbrev pub Precedes : DataFault → DataFault → Type 0
Precedes f g = (f.map < g.map) ⊎ ((f.map ≡ g.map) × ((f.row < g.row) ⊎ ((f.row ≡ g.row) × (f.term < g.term))))

-- a data error that stands before every other
pub record IsLeastFault (mapping : Mapping) (db : Database) (f : DataFault) : Type 0 where
  pub is : IsDataFault mapping db f
  pub first : (g : DataFault) → IsDataFault mapping db g → (f ≡ g) ⊎ Precedes f g

-- none where there is no data error, else the least
abbrev pub FindsLeast : Mapping → Database → Option DataFault → Type 0
FindsLeast mapping db None = (f : DataFault) → IsDataFault mapping db f → ⊥
FindsLeast mapping db (Some f) = IsLeastFault mapping db f
