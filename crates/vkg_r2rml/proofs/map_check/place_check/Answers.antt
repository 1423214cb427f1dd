use Rattle.std.proofs.Common.{◌∙◌, ◌==◌, ◌&&◌, ap, sym}
use Rattle.std.specs.List.{list_any}
use Rattle.std.specs.Result.{result_err}
use Rattle.vkg_terms.specs.Same.{term_eq}
use Rattle.vkg_r2rml.specs.declared.map_check.Passed.{Passed}
use Rattle.vkg_r2rml.specs.ReferencingMap.{columns_of}
use Rattle.vkg_r2rml.specs.TriplesMap.{subject_at}
use Rattle.vkg_r2rml.proofs.PassedLemmas.{was_passed}
use Rattle.vkg_r2rml.proofs.map_check.place_check.Goals as goal

pub returns-then-has_passed-clause-check : goal.returns-then-has_passed-clause-check
returns-then-has_passed-clause-check c =
    let triples = c.args.graph.now in
    let schema = c.args.schema.now in
    let base = c.args.base.now in
    let node = c.in-Node.node in
    let found = ap (list_any (λ (p : Passed). p.table == c.args.table && term_eq p.node node)) (sym c.as_slice.ensures) ∙ sym c.has_passed.ensures ∙ c.if-has_passed.true in
    sym (ap (λ p. result_err (subject_at triples (columns_of schema c.args.table) base p)) c.in-Node.is
    ∙ was_passed triples schema base c.args.passed.now node c.args.table found c.requires)
