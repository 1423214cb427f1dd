use Rattle.std.proofs.Common.{None, Ok, Err, lit<}
use Rattle.std.proofs.lemmas.Result.{err_from_is_err_and}
use Rattle.std.proofs.lemmas.Str.Pattern.{strip_prefix_char}
use Rattle.vkg_plain.proofs.TermLemmas.{uncut, by_name}
use Rattle.vkg_plain.proofs.term_reader.term.Goals as goal

pub returns-in_default-cut-clause-value : goal.returns-in_default-cut-clause-value
returns-in_default-cut-clause-value c = λ t rest w h e.
    absurd (uncut c.args.text.now (strip_prefix_char 34 c.args.text.now None c.in_default.ensures.cases (lit< tt)) c.in_default-cut.ensures.value t rest w e)

pub returns-in_err-term-clause-value : goal.returns-in_err-term-clause-value
returns-in_err-term-clause-value c = λ t rest w h e.
    let unquoted = strip_prefix_char 34 c.args.text.now None c.in_default.ensures.cases (lit< tt) in
    let p = err_from_is_err_and c.from_residual.result c.from_residual.ensures.1 in
    rw (p.1, p.2) (by_name c.args.text.now c.in-Some-cut.front.now c.in-Some-cut.rest.now (Err c.in_err-term.field-0.0) unquoted c.in-Some-cut.ensures.value c.in_err-term.ensures.iri c.in_err-term.ensures.blank t rest w e)

pub returns-clause-value : goal.returns-clause-value
returns-clause-value c = λ t rest w h e.
    let unquoted = strip_prefix_char 34 c.args.text.now None c.in_default.ensures.cases (lit< tt) in
    by_name c.args.text.now c.in-Some-cut.front.now c.in-Some-cut.rest.now (Ok c.in_ok-term.term) unquoted c.in-Some-cut.ensures.value c.in_ok-term.ensures.iri c.in_ok-term.ensures.blank t rest w e
