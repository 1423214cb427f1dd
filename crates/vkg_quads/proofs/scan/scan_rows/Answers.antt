use Rattle.std.proofs.Common.{◌≡◌, ◌+◌, ◌∙◌, sym, map, get_or, Some, None}
use Rattle.std.specs.Option.{option_copied}
use Rattle.std.proofs.lemmas.Option.{get_or_from_slice_get, slice_get_within}
use Rattle.vkg_lists.specs.Firsts.{first_of}
use Rattle.vkg_maps.specs.DataFaults.{row_faults}
use Rattle.vkg_lists.proofs.Firsts.{scan_some, scan_none}
use Rattle.vkg_quads.proofs.scan.scan_rows.Goals as goal

pub returns-in-Some : goal.returns-in-Some
returns-in-Some c =
    let i = c.loop-k.k in
    let row = c.row-row.result in
    let here : row ≡ get_or c.args.rows.now i row = sym (get_or_from_slice_get c.args.rows.now i row row c.row-row.ensures) in
    let found : first_of (row_faults c.args.base.now (map option_copied c.args.terms.now) c.args.place (i + 1, row)) ≡ Some c.in-Some.fault = sym c.in_ok-found.ensures ∙ c.in-Some.is in
    sym (c.loop-k.invariant ∙ scan_some (row_faults c.args.base.now (map option_copied c.args.terms.now) c.args.place) c.args.rows.now (i + 1) i row _ (slice_get_within c.args.rows.now i row c.row-row.ensures) here found)

pub loop-k-preserved : goal.loop-k-preserved
loop-k-preserved c =
    let i = c.loop-k.k in
    let row = c.row-row.result in
    let here : row ≡ get_or c.args.rows.now i row = sym (get_or_from_slice_get c.args.rows.now i row row c.row-row.ensures) in
    let found : first_of (row_faults c.args.base.now (map option_copied c.args.terms.now) c.args.place (i + 1, row)) ≡ None = sym c.in_ok-found.ensures ∙ c.in-None.is in
    c.loop-k.invariant ∙ scan_none (row_faults c.args.base.now (map option_copied c.args.terms.now) c.args.place) c.args.rows.now (i + 1) i row (slice_get_within c.args.rows.now i row c.row-row.ensures) here found
