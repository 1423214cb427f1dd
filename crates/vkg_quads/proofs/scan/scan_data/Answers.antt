use Rattle.std.proofs.Common.{◌≡◌, sym, ◌∙◌, ap, subst, IfOk, flat_map}
use Rattle.std.specs.List.{enumerate_from}
use Rattle.std.proofs.lemmas.Result.{IfOk-weaker}
use Rattle.vkg_lists.specs.Firsts.{first_of}
use Rattle.vkg_maps.specs.DataFaults.{map_faults, least_data_fault}
use Rattle.vkg_maps.specs.LeastFault.{FindsLeast}
use Rattle.vkg_maps.proofs.LeastFault.{finds_least}
use Rattle.vkg_quads.proofs.scan.scan_data.Goals as goal

pub returns-clause-least : goal.returns-clause-least
returns-clause-least c =
    let mapping = c.args.mapping.now in
    let db = c.args.db.now.tables in
    let base : c.as_str.result.now ≡ mapping.base = c.as_str.ensures in
    let maps : c.as_slice.result.now ≡ mapping.maps = c.as_slice.ensures in
    let same : first_of (flat_map (map_faults c.as_str.result.now db) (enumerate_from 1 c.as_slice.result.now)) ≡ least_data_fault mapping db =
    ap (λ b. first_of (flat_map (map_faults b db) (enumerate_from 1 c.as_slice.result.now))) base
    ∙ ap (λ ms. first_of (flat_map (map_faults mapping.base db) (enumerate_from 1 ms))) maps in
    IfOk-weaker c.scan_maps.result (λ found. found ≡ least_data_fault mapping db) (FindsLeast mapping db) (λ found e. subst (FindsLeast mapping db) (sym e) (finds_least mapping db))
    (subst (λ o. IfOk c.scan_maps.result (λ found. found ≡ o)) same c.scan_maps.ensures)
