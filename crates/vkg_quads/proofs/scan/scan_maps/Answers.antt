use Rattle.std.proofs.Common.{◌≡◌, ◌<◌, ◌+◌, ◌∙◌, sym, ap, map, flat_map, length, Some, None, arith}
use Rattle.vkg_lists.specs.Firsts.{first_of}
use Rattle.vkg_maps.specs.DataFaults.{map_faults, row_faults}
use Rattle.std.specs.Option.{option_copied}
use Rattle.std.specs.List.{enumerate_from}
use Rattle.vkg_schema.specs.Rows.{rows_of}
use Rattle.vkg_lists.proofs.Firsts.{scan_some, scan_none}
use Rattle.vkg_quads.proofs.scan.scan_maps.Goals as goal

pub returns-in-Some : goal.returns-in-Some
returns-in-Some c =
    let i = c.loop-k.k in
    let inside : i < length c.args.maps.now = omega arith in
    let found : first_of (map_faults c.args.base.now c.args.db.now.tables (i + 1, c.index-maps-k.result)) ≡ Some c.in-Some.fault =
    ap (λ ts. first_of (flat_map (row_faults c.args.base.now ts (i + 1)) (enumerate_from 1 (rows_of c.args.db.now.tables c.index-maps-k.result.table)))) (sym (ap (λ ts. map option_copied ts) c.deref.ensures.value ∙ c.in_ok-terms.ensures))
    ∙ (ap (λ rs. first_of (flat_map (row_faults c.args.base.now (map option_copied c.deref.result.now) (i + 1)) (enumerate_from 1 rs))) (sym c.table.ensures.rows)
    ∙ (sym c.in_ok-found.ensures ∙ c.in-Some.is)) in
    sym (c.loop-k.invariant ∙ scan_some (map_faults c.args.base.now c.args.db.now.tables) c.args.maps.now (i + 1) i c.index-maps-k.result _ inside c.index-maps-k.is found)

pub loop-k-preserved : goal.loop-k-preserved
loop-k-preserved c =
    let i = c.loop-k.k in
    let inside : i < length c.args.maps.now = omega arith in
    let found : first_of (map_faults c.args.base.now c.args.db.now.tables (i + 1, c.index-maps-k.result)) ≡ None =
    ap (λ ts. first_of (flat_map (row_faults c.args.base.now ts (i + 1)) (enumerate_from 1 (rows_of c.args.db.now.tables c.index-maps-k.result.table)))) (sym (ap (λ ts. map option_copied ts) c.deref.ensures.value ∙ c.in_ok-terms.ensures))
    ∙ (ap (λ rs. first_of (flat_map (row_faults c.args.base.now (map option_copied c.deref.result.now) (i + 1)) (enumerate_from 1 rs))) (sym c.table.ensures.rows)
    ∙ (sym c.in_ok-found.ensures ∙ c.in-None.is)) in
    c.loop-k.invariant ∙ scan_none (map_faults c.args.base.now c.args.db.now.tables) c.args.maps.now (i + 1) i c.index-maps-k.result inside c.index-maps-k.is found
