use Rattle.std.proofs.Common.{◌≡◌, Some, None, sym, ap, ◌∙◌}
use Rattle.std.specs.Prelude.{option_map}
use Rattle.vkg_plan.specs.Seen.{plan_seen}
use Rattle.vkg_rules.specs.Steps.{Step}
use Rattle.vkg_rules.specs.StepSeen.{step_seen}
use Rattle.vkg_chains.specs.Fix.{fixed_by}
use Rattle.vkg_chains.specs.FixLaw.{run-none, run-some, typed-kept}
use Rattle.vkg_chains.proofs.fix.FixRewrite.apply.Goals as goal

pub finish-requires-clause-typed : goal.finish-requires-clause-typed
finish-requires-clause-typed g c =
    let s = c.args.schema.now in
    let p = plan_seen c.args.plan.now in
    let y : Step = (plan_seen c.in-Some.q, c.in-Some.fell) in
    let e : g.R.Rewrite.becomes c.args.self.now.rule s p ≡ Some y = sym c.in_ok-apply.ensures ∙ ap (option_map step_seen) c.in-Some.is in
    typed-kept s p y.0 c.requires (g.met.R.Rewrite.keeps c.args.self.now.rule s c.tables-over.ensures.form p y c.requires e).kinds

pub returns-in-None : goal.returns-in-None
returns-in-None g c =
    let s = c.args.schema.now in
    let p = plan_seen c.args.plan.now in
    let r = c.args.self.now.rule in
    let e : g.R.Rewrite.becomes r s p ≡ None = sym c.in_ok-apply.ensures ∙ ap (option_map step_seen) c.in-None.is in
    sym (ap fixed_by (run-none (g.R.Rewrite.becomes r) (g.met.R.Rewrite.keeps r) (g.met.R.Rewrite.falls r) s c.tables-over.ensures.form p c.requires e))

pub returns-in_ok-finish-in-Some : goal.returns-in_ok-finish-in-Some
returns-in_ok-finish-in-Some g c =
    let s = c.args.schema.now in
    let p = plan_seen c.args.plan.now in
    let r = c.args.self.now.rule in
    let y : Step = (plan_seen c.in-Some.q, c.in-Some.fell) in
    let e : g.R.Rewrite.becomes r s p ≡ Some y = sym c.in_ok-apply.ensures ∙ ap (option_map step_seen) c.in-Some.is in
    let runs = ap fixed_by (run-some (g.R.Rewrite.becomes r) (g.met.R.Rewrite.keeps r) (g.met.R.Rewrite.falls r) s c.tables-over.ensures.form p y c.requires e) in
    ap (λ (x : Step). Some x) c.in_ok-finish-in-Some.ensures ∙ sym runs
