use Rattle.std.proofs.Common.{◌≡◌, ◌<◌, ◌∙◌, sym, length, Some, None, arith}
use Rattle.std.specs.Option.{option_copied}
use Rattle.vkg_lists.specs.Firsts.{first_of}
use Rattle.vkg_maps.specs.DataFaults.{faults_at, fault_at, term_faults}
use Rattle.vkg_lists.proofs.Firsts.{scan_some_by, scan_none_by, first_of-map_some, first_of-map_none}
use Rattle.vkg_quads.proofs.scan.scan_row.Goals as goal

pub returns-in-Some : goal.returns-in-Some
returns-in-Some c =
    let i = c.loop-term.term in
    let inside : i < length c.args.terms.now = omega arith in
    let found : first_of (term_faults c.args.base.now c.args.cells.now (option_copied c.index-terms-term.result)) ≡ Some c.in-Some.fault = sym c.in_ok-fault.ensures ∙ c.in-Some.is in
    sym (c.loop-term.invariant ∙ scan_some_by (faults_at c.args.base.now c.args.place (c.args.row, c.args.cells.now)) option_copied c.args.terms.now i i c.index-terms-term.result _ inside c.index-terms-term.is (first_of-map_some (fault_at c.args.place c.args.row i) _ _ found))

pub loop-term-preserved : goal.loop-term-preserved
loop-term-preserved c =
    let i = c.loop-term.term in
    let inside : i < length c.args.terms.now = omega arith in
    let found : first_of (term_faults c.args.base.now c.args.cells.now (option_copied c.index-terms-term.result)) ≡ None = sym c.in_ok-fault.ensures ∙ c.in-None.is in
    c.loop-term.invariant ∙ scan_none_by (faults_at c.args.base.now c.args.place (c.args.row, c.args.cells.now)) option_copied c.args.terms.now i i c.index-terms-term.result inside c.index-terms-term.is (first_of-map_none (fault_at c.args.place c.args.row i) _ found)
