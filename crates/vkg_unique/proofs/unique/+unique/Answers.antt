-- A member of a union that does not pass, one more that does, and the last one.
use Rattle.std.proofs.Common.{◌∙◌, ◌+◌, take, sym, ap, arith}
use Rattle.vkg_plan.specs.Seen.{plan_seen}
use Rattle.vkg_rules.specs.StepSeen.{plans_seen}
use Rattle.vkg_unique.specs.Earlier.{is_apart_from_each}
use Rattle.vkg_unique.proofs.Earlier.{all_good, good_more, not_apart, not_unique}
use Rattle.vkg_unique.proofs.unique.+unique.Goals as goal

pub are_unique_apart-returns-then-not-fine : goal.are_unique_apart-returns-then-not-fine
are_unique_apart-returns-then-not-fine t c =
    sym (not_unique c.args.schema.now c.args.ps.now c.loop-p.p-index c.p-item.result (omega arith) c.p-item.is (sym c.in_ok-fine.ensures ∙ c.if-not-fine.true))

pub are_unique_apart-returns-then-not-apart : goal.are_unique_apart-returns-then-not-apart
are_unique_apart-returns-then-not-apart t c =
    let s = c.args.schema.now in
    let ps = c.args.ps.now in
    let p = c.p-item.result in
    sym (not_apart s ps c.loop-p.p-index p (omega arith) c.p-item.is
    (ap (λ n. is_apart_from_each s (plans_seen (take n ps)) (plan_seen p)) (sym c.loop-p.invariant.count) ∙ sym c.in_ok-apart.ensures ∙ c.if-not-apart.true))

pub are_unique_apart-loop-p-preserved : goal.are_unique_apart-loop-p-preserved
are_unique_apart-loop-p-preserved t c =
    let s = c.args.schema.now in
    let ps = c.args.ps.now in
    let i = c.loop-p.p-index in
    let p = c.p-item.result in
    let apart = ap (λ n. is_apart_from_each s (plans_seen (take n ps)) (plan_seen p)) (sym c.loop-p.invariant.count) ∙ sym c.in_ok-apart.ensures ∙ c.if-not-apart.false in
    record {
      count = ap (λ n. n + 1) c.loop-p.invariant.count;
      good = good_more s ps i p (omega arith) c.p-item.is c.loop-p.invariant.good (sym c.in_ok-fine.ensures ∙ c.if-not-fine.false) apart;
    }

pub are_unique_apart-returns : goal.are_unique_apart-returns
are_unique_apart-returns t c = sym (all_good c.args.schema.now c.args.ps.now c.loop-p.p-index (omega arith) c.loop-p.invariant.good)
