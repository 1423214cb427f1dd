-- Without a data error each term map of each row makes its term or none.
use Rattle.std.proofs.Common.{◌≡◌, []}
use Rattle.std.specs.Prelude.{Some, Contains}
use Rattle.std.specs.List.{enumerate_from}
use Rattle.vkg_lists.proofs.Numbered.{numbered}
use Rattle.vkg_lists.proofs.Nothing.{map_nothing, nothing_each}
use Rattle.vkg_schema.specs.Rows.{Database, Row, rows_of}
use Rattle.vkg_maps.specs.declared.mapping.Mapping.{Mapping}
use Rattle.vkg_maps.specs.declared.mapping.TriplesMap.{TriplesMap}
use Rattle.vkg_maps.specs.declared.term_map.TermMap.{TermMap}
use Rattle.vkg_maps.specs.DataFaults.{data_faults, fault_at, faults_at, map_faults, row_faults, term_faults, term_maps}
use Rattle.vkg_maps.specs.Terms.{term_of}
use Rattle.vkg_row_rules.proofs.RowTermValues.{IsMade}

pub all_made : (mapping : Mapping) (db : Database) → data_faults mapping db ≡ [] →
    (m : TriplesMap) → Contains mapping.maps m → (t : TermMap) → Contains (term_maps m) (Some t) → (row : Row) → Contains (rows_of db m.table) row → IsMade (term_of mapping.base t row)
all_made mapping db e m c t d row r =
    let k = numbered 1 mapping.maps m c in
    let n = numbered 1 (rows_of db m.table) row r in
    let i = numbered 0 (term_maps m) (Some t) d in
    let of_map = nothing_each (map_faults mapping.base db) (enumerate_from 1 mapping.maps) e (k.0, m) k.1 in
    let of_row = nothing_each (row_faults mapping.base (term_maps m) k.0) (enumerate_from 1 (rows_of db m.table)) of_map (n.0, row) n.1 in
    let of_term = nothing_each (faults_at mapping.base k.0 (n.0, row)) (enumerate_from 0 (term_maps m)) of_row (i.0, Some t) i.1 in
    map_nothing (fault_at k.0 n.0 i.0) (term_faults mapping.base row (Some t)) of_term
