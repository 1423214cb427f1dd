use Rattle.std.proofs.Common.{◌∙◌, sym, length, rules}
use Rattle.std.proofs.lemmas.Result.{err_from_is_err_and}
use Rattle.std.proofs.lemmas.Bool.{eqb-true, eqb-false}
use Rattle.vkg_plain.proofs.QuadLemmas.{found_more, found_fault, found_all}
use Rattle.vkg_plain.proofs.reader.found_quads.Goals as goal

pub returns-in_err-quad : goal.returns-in_err-quad
returns-in_err-quad c = λ quads w h e.
    let some = eqb-false (length c.loop-rest.rest.now) 0 (sym c.is_empty.ensures ∙ c.loop-rest-test.true) in
    let r = err_from_is_err_and c.from_residual.result c.from_residual.ensures.1 in
    rw (r.1, r.2) (found_fault c.args.text.now c.loop-rest.rest.now c.loop-rest.quads c.in_err-quad.field-0.0 c.loop-rest.invariant.found some c.in_err-quad.ensures.value quads w h e)

pub loop-rest-preserved : goal.loop-rest-preserved
loop-rest-preserved c = record {
  text = search rules;
  found = found_more c.args.text.now c.loop-rest.rest.now c.in_ok-quad.behind c.loop-rest.quads _ c.in_ok-quad.quad c.loop-rest.invariant.found (eqb-false (length c.loop-rest.rest.now) 0 (sym c.is_empty.ensures ∙ c.loop-rest-test.true)) c.in_ok-quad.ensures.value c.in_ok-push.ensures.ok;
}

pub returns : goal.returns
returns c = λ quads w h e.
    found_all c.args.text.now c.loop-rest.rest.now c.loop-rest.quads c.loop-rest.invariant.found (eqb-true (length c.loop-rest.rest.now) 0 (sym c.is_empty.ensures ∙ c.loop-rest-test.false)) quads w h e
