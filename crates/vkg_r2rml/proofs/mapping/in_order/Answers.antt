use Rattle.std.proofs.Common.{◌≡◌, ◌∙◌, ◌+◌, ap, arith, drop, map, subst, sym}
use Rattle.std.specs.Prelude.{sum_by}
use Rattle.vkg_lists.specs.Results.{followed_by}
use Rattle.vkg_maps.specs.QuadRules.{rule_limit}
use Rattle.vkg_r2rml.specs.Mapping.{in_order, of_maps, IsFault}
use Rattle.vkg_r2rml.specs.RuleCount.{rules_of_map}
use Rattle.vkg_r2rml.specs.TriplesMap.{triples_map}
use Rattle.vkg_r2rml.proofs.InOrder.{begins, left_behind, next_map, failed_map, no_map, behind_limit}
use Rattle.vkg_r2rml.proofs.mapping.in_order.Goals as goal

pub loop-k-init : goal.loop-k-init
loop-k-init c = record {
  maps = begins _ c.new-read.result c.new-read.ensures;
  rules = ap (λ r. rule_limit + sum_by rules_of_map r) c.new-read.ensures;
}

pub loop-k-preserved : goal.loop-k-preserved
loop-k-preserved c =
    let f = triples_map c.args.graph.now c.args.schema.now c.args.base.now c.args.maps.now in
    let maps = c.args.maps.now in
    let read = c.loop-k.read in
    let made = c.in-Ok.made in
    record {
      maps =
          subst (λ r. in_order 1 (map f maps) ≡ followed_by r (in_order (c.loop-k.k + 1 + 1) (map f (drop (c.loop-k.k + 1) maps)))) (sym c.in_ok-push-in-Some.ensures.ok)
          (next_map f maps c.as_slice-m-items.result.now c.loop-k.k (in_order 1 (map f maps)) read c.m-item.result made c.as_slice-m-items.ensures c.loop-k-test.true c.m-item.is (sym c.in_ok-made.ensures ∙ c.in-Ok.is) c.loop-k.invariant.maps);
      rules =
          subst (λ r. c.in-Some.rest + sum_by rules_of_map r ≡ rule_limit) (sym c.in_ok-push-in-Some.ensures.ok)
          (left_behind read made c.loop-k.left c.in-Some.rest c.in-Some.ensures.0 c.in-Some.ensures.1 c.loop-k.invariant.rules);
    }

pub returns-in-None-clause-err : goal.returns-in-None-clause-err
returns-in-None-clause-err c =
    let f = triples_map c.args.graph.now c.args.schema.now c.args.base.now c.args.maps.now in
    let maps = c.args.maps.now in
    let read = c.loop-k.read in
    let made = c.in-Ok.made in
    let first = in_order 1 (map f maps) in
    let behind = in_order (c.loop-k.k + 1 + 1) (map f (drop (c.loop-k.k + 1) maps)) in
    let next = next_map f maps c.as_slice-m-items.result.now c.loop-k.k first read c.m-item.result made c.as_slice-m-items.ensures c.loop-k-test.true c.m-item.is (sym c.in_ok-made.ensures ∙ c.in-Ok.is) c.loop-k.invariant.maps in
    subst (λ w. IsFault w c.past_limit.result) (behind_limit c.args.base.now first read made c.loop-k.left behind next c.in-None.ensures c.loop-k.invariant.rules) c.past_limit.ensures

pub returns-in-Err-clause-err : goal.returns-in-Err-clause-err
returns-in-Err-clause-err c =
    let f = triples_map c.args.graph.now c.args.schema.now c.args.base.now c.args.maps.now in
    let maps = c.args.maps.now in
    ap (of_maps c.args.base.now)
    (failed_map f maps c.as_slice-m-items.result.now c.loop-k.k (in_order 1 (map f maps)) c.loop-k.read c.m-item.result c.in-Err.check c.as_slice-m-items.ensures c.loop-k-test.true c.m-item.is (sym c.in_ok-made.ensures ∙ c.in-Err.is) c.loop-k.invariant.maps)

pub returns-clause-ok : goal.returns-clause-ok
returns-clause-ok c =
    let f = triples_map c.args.graph.now c.args.schema.now c.args.base.now c.args.maps.now in
    let maps = c.args.maps.now in
    (no_map f maps c.as_slice-m-items.result.now c.loop-k.k (in_order 1 (map f maps)) c.loop-k.read c.as_slice-m-items.ensures c.loop-k-test.false c.loop-k.invariant.maps, omega (arith, c.loop-k.invariant.rules))
