use Rattle.std.proofs.Common.{◌∙◌, Ok, Err}
use Rattle.std.proofs.lemmas.Result.{err_from_is_err_and}
use Rattle.vkg_plain.proofs.QuadLemmas.{at_subject, at_predicate, at_object}
use Rattle.vkg_plain.proofs.reader.found_quad.Goals as goal

pub returns-in_err-subject-clause-value : goal.returns-in_err-subject-clause-value
returns-in_err-subject-clause-value c = λ q rest w h e.
    let r = err_from_is_err_and c.from_residual.result c.from_residual.ensures.1 in
    rw (r.1, r.2) (at_subject c.args.text.now (Err c.in_err-subject.field-0.0) c.in_err-subject.ensures.value q rest w h e)

pub returns-in_err-predicate-clause-value : goal.returns-in_err-predicate-clause-value
returns-in_err-predicate-clause-value c = λ q rest w h e.
    let s = at_subject c.args.text.now (Ok (c.in_ok-subject.subject, c.in_ok-subject.text)) c.in_ok-subject.ensures.value q rest w h e in
    let r = err_from_is_err_and c.from_residual-in_err-predicate.result c.from_residual-in_err-predicate.ensures.1 in
    rw (r.1, r.2) (at_predicate c.in_ok-subject.text.now (Err c.in_err-predicate.field-0.0) c.in_err-predicate.ensures.value q rest w h s.1)

pub returns-in_err-object-clause-value : goal.returns-in_err-object-clause-value
returns-in_err-object-clause-value c = λ q rest w h e.
    let s = at_subject c.args.text.now (Ok (c.in_ok-subject.subject, c.in_ok-subject.text)) c.in_ok-subject.ensures.value q rest w h e in
    let p = at_predicate c.in_ok-subject.text.now (Ok (c.in_ok-predicate.predicate, c.in_ok-predicate.text)) c.in_ok-predicate.ensures.value q rest w h s.1 in
    let r = err_from_is_err_and c.from_residual-in_err-object.result c.from_residual-in_err-object.ensures.1 in
    rw (r.1, r.2) (at_object c.in_ok-predicate.text.now (Err c.in_err-object.field-0.0) c.in_err-object.ensures.value q rest w h p.1)

pub returns-in_err-graph-clause-value : goal.returns-in_err-graph-clause-value
returns-in_err-graph-clause-value c = λ q rest w h e.
    let s = at_subject c.args.text.now (Ok (c.in_ok-subject.subject, c.in_ok-subject.text)) c.in_ok-subject.ensures.value q rest w h e in
    let p = at_predicate c.in_ok-subject.text.now (Ok (c.in_ok-predicate.predicate, c.in_ok-predicate.text)) c.in_ok-predicate.ensures.value q rest w h s.1 in
    let o = at_object c.in_ok-predicate.text.now (Ok (c.in_ok-object.object, c.in_ok-object.text)) c.in_ok-object.ensures.value q rest w h p.1 in
    let r = err_from_is_err_and c.from_residual-in_err-graph.result c.from_residual-in_err-graph.ensures.1 in
    rw (r.1, r.2) (c.in_err-graph.ensures.value q.graph rest w.graph h.graph o.1)

pub returns-clause-value : goal.returns-clause-value
returns-clause-value c = λ q rest w h e.
    let s = at_subject c.args.text.now (Ok (c.in_ok-subject.subject, c.in_ok-subject.text)) c.in_ok-subject.ensures.value q rest w h e in
    let p = at_predicate c.in_ok-subject.text.now (Ok (c.in_ok-predicate.predicate, c.in_ok-predicate.text)) c.in_ok-predicate.ensures.value q rest w h s.1 in
    let o = at_object c.in_ok-predicate.text.now (Ok (c.in_ok-object.object, c.in_ok-object.text)) c.in_ok-object.ensures.value q rest w h p.1 in
    let g = c.in_ok-graph.ensures.value q.graph rest w.graph h.graph o.1 in
    (c.new.ensures ∙ (λ i. record { subject = s.0 i; predicate = p.0 i; object = o.0 i; graph = g.0 i }), g.1)
