use Rattle.std.proofs.Common.{length, sym, ap, ◌∙◌, arith}
use Rattle.vkg_plan.specs.Seen.{plan_seen}
use Rattle.vkg_chains.specs.Fix.{foremost, run}
use Rattle.vkg_chains.specs.FixLaw.{run-none, run-some, typed-kept}
use Rattle.vkg_chains.proofs.fix.to_the_end.Goals as goal

pub loop-fell-smaller : goal.loop-fell-smaller
loop-fell-smaller g c =
    let r = g.R.Rewrite.becomes c.args.rule.now in
    let s = c.args.schema.now in
    let is = rw c.in-Some.is at c.in_ok-fell.ensures in
    let e = run-some r (g.met.R.Rewrite.keeps c.args.rule.now) (g.met.R.Rewrite.falls c.args.rule.now) s c.requires.form (plan_seen c.loop-fell.current) (plan_seen c.step.new.plan, c.in-Some.fell) c.loop-fell.invariant.typed is in
    omega (arith, ap (λ y. length y.0) e)

pub loop-fell-preserved : goal.loop-fell-preserved
loop-fell-preserved g c =
    let r = g.R.Rewrite.becomes c.args.rule.now in
    let s = c.args.schema.now in
    let is = rw c.in-Some.is at c.in_ok-fell.ensures in
    let keeps = g.met.R.Rewrite.keeps c.args.rule.now in
    let p = plan_seen c.loop-fell.current in
    let q = plan_seen c.step.new.plan in
    let e = run-some r keeps (g.met.R.Rewrite.falls c.args.rule.now) s c.requires.form p (q, c.in-Some.fell) c.loop-fell.invariant.typed is in
    record {
      typed = typed-kept s p q c.loop-fell.invariant.typed (keeps s c.requires.form p (q, c.in-Some.fell) c.loop-fell.invariant.typed is).kinds;
      same = c.loop-fell.invariant.same ∙ ap (λ y. y.1) e;
      least = c.loop-fell.invariant.least ∙ ap (λ y. foremost c.loop-fell.least y.0) e ∙ ap (λ f. foremost f (run r s q).0) (sym c.foremost_of-least.ensures);
    }

pub returns : goal.returns
returns g c =
    let r = g.R.Rewrite.becomes c.args.rule.now in
    let s = c.args.schema.now in
    let p = plan_seen c.loop-fell.current in
    let at_end = rw c.in_default.is at c.in_ok-fell.ensures in
    let e = run-none r (g.met.R.Rewrite.keeps c.args.rule.now) (g.met.R.Rewrite.falls c.args.rule.now) s c.requires.form p c.loop-fell.invariant.typed at_end.0 in
    let plan = ap plan_seen at_end.1 ∙ sym (ap (λ y. y.1) e) ∙ sym c.loop-fell.invariant.same in
    let least = sym (c.loop-fell.invariant.least ∙ ap (λ y. foremost c.loop-fell.least y.0) e) in
    λ i. (plan i, least i)
