use Rattle.std.proofs.Common.{◌∙◌, refl, subst, sym}
use Rattle.vkg_r2rml.specs.Passed.{ArePassed}
use Rattle.vkg_r2rml.specs.TriplesMap.{triples_map}
use Rattle.vkg_r2rml.proofs.InOrder.{next_passes, next_fails, none_fails}
use Rattle.vkg_r2rml.proofs.past_limit.first_fault.Goals as goal

pub loop-k-init : goal.loop-k-init
loop-k-init c = record {
  faults = refl;
  passed = subst (ArePassed c.args.graph.now c.args.schema.now c.args.base.now) (sym c.new-passed.ensures) tt;
}

pub loop-k-preserved : goal.loop-k-preserved
loop-k-preserved c =
    let f = triples_map c.args.graph.now c.args.schema.now c.args.base.now c.args.maps.now in
    record {
      faults =
          c.loop-k.invariant.faults
          ∙ next_passes f c.args.maps.now c.as_slice-nodes.result.now c.loop-k.k c.index-nodes-k.result c.as_slice-nodes.ensures c.loop-k-test.true c.index-nodes-k.is (sym c.in_ok-check.ensures.check ∙ c.in_default.is);
      passed = c.in_ok-check.ensures.passed;
    }

pub returns-in-Some : goal.returns-in-Some
returns-in-Some c =
    let f = triples_map c.args.graph.now c.args.schema.now c.args.base.now c.args.maps.now in
    sym (c.loop-k.invariant.faults
    ∙ next_fails f c.args.maps.now c.as_slice-nodes.result.now c.loop-k.k c.index-nodes-k.result c.in-Some.check c.as_slice-nodes.ensures c.loop-k-test.true c.index-nodes-k.is (sym c.in_ok-check.ensures.check ∙ c.in-Some.is))

pub returns : goal.returns
returns c =
    let f = triples_map c.args.graph.now c.args.schema.now c.args.base.now c.args.maps.now in
    sym (c.loop-k.invariant.faults ∙ none_fails f c.args.maps.now c.as_slice-nodes.result.now c.loop-k.k c.as_slice-nodes.ensures c.loop-k-test.false)
