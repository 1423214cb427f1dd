-- A step beside the plan is one of the whole; where there is none, the node of the plan and of a side is without one too.
use Rattle.std.proofs.Common.{◌≡◌, ◌∙◌, [], ◌∷◌, Option, sym, ap, subst}
use Rattle.std.specs.Prelude.{IfOk, reverse}
use Rattle.std.proofs.lemmas.List.{map-append}
use Rattle.vkg_lists.proofs.Results.{some_of}
use Rattle.vkg_plan.specs.Seen.{plan_seen}
use Rattle.vkg_rules.specs.declared.rewrite.Fell.{Fell}
use Rattle.vkg_rules.specs.Everywhere.{everywhere}
use Rattle.vkg_rules.specs.Steps.{IsTyped}
use Rattle.vkg_rules.proofs.Outcomes.{outcome-none}
use Rattle.vkg_steps.specs.Sides.{side_seen, sides_seen}
use Rattle.vkg_steps.specs.Spine.{AllRest, over, within}
use Rattle.vkg_steps.proofs.SpineLemmas.{none-there, popped, some-known, step-told, typed-within}
use Rattle.vkg_steps.proofs.spine.climb.Goals as goal

pub step_beside-requires-clause-typed : goal.step_beside-requires-clause-typed
step_beside-requires-clause-typed g c =
    let s = c.args.schema.now in
    let r = g.R.Rewrite.becomes c.args.rule.now s in
    let side = c.in-Some.side in
    let left = c.pop.new.self in
    let p = plan_seen c.loop-side.plan in
    let b = popped s r (sides_seen c.loop-side.around) (sides_seen left) (side_seen side) p (within (sides_seen c.args.around.now) (plan_seen c.args.plan))
    (ap sides_seen c.in-Some.ensures ∙ map-append side_seen left (side ∷ [])) c.loop-side.invariant.whole c.loop-side.invariant.rest in
    typed-within s (sides_seen left) (over (side_seen side) p) (subst (IsTyped s) (sym b.0) c.requires.typed)

pub step_beside-requires-clause-rest : goal.step_beside-requires-clause-rest
step_beside-requires-clause-rest g c =
    let s = c.args.schema.now in
    let r = g.R.Rewrite.becomes c.args.rule.now s in
    let side = c.in-Some.side in
    let left = c.pop.new.self in
    (popped s r (sides_seen c.loop-side.around) (sides_seen left) (side_seen side) (plan_seen c.loop-side.plan) (within (sides_seen c.args.around.now) (plan_seen c.args.plan))
    (ap sides_seen c.in-Some.ensures ∙ map-append side_seen left (side ∷ [])) c.loop-side.invariant.whole c.loop-side.invariant.rest).2

pub returns-then-is_some : goal.returns-then-is_some
returns-then-is_some g c =
    let a = c.args.rule.now in
    let r = g.R.Rewrite.becomes a in
    let s = c.args.schema.now in
    let whole = within (sides_seen c.args.around.now) (plan_seen c.args.plan) in
    let side = c.in-Some.side in
    let left = c.pop.new.self in
    let p = plan_seen c.loop-side.plan in
    let n = over (side_seen side) p in
    let x = c.in_ok-stepped.stepped in
    let q = plan_seen x.plan in
    let b = popped s (r s) (sides_seen c.loop-side.around) (sides_seen left) (side_seen side) p whole (ap sides_seen c.in-Some.ensures ∙ map-append side_seen left (side ∷ [])) c.loop-side.invariant.whole c.loop-side.invariant.rest in
    let fell = some_of x.fell (sym c.is_some.ensures ∙ c.if-is_some.true) in
    let k = some-known r (g.met.R.Rewrite.keeps a) (g.met.R.Rewrite.falls a) s c.requires.form whole (sides_seen left) q fell.0 x.fell x.place c.requires.typed fell.1 (n, b.0, b.1, c.in_ok-stepped.ensures) in
    step-told s (r s) whole (sides_seen left) (λ y. plan_seen y.plan) (λ y. y.fell) (λ y. reverse y.place) k.0 q fell.0 (reverse x.place) (sides_seen c.surface.new.around) c.surface.result k.1 k.2 k.3 c.surface.ensures.raised
    (subst (λ (o : Option Fell). IfOk c.surface.result (λ y. y.fell ≡ o)) fell.1 c.surface.ensures.fell)

pub loop-side-preserved : goal.loop-side-preserved
loop-side-preserved g c =
    let s = c.args.schema.now in
    let r = g.R.Rewrite.becomes c.args.rule.now s in
    let side = c.in-Some.side in
    let left = c.pop.new.self in
    let p = plan_seen c.loop-side.plan in
    let n = over (side_seen side) p in
    let x = c.in_ok-stepped.stepped in
    let q = plan_seen x.plan in
    let b = popped s r (sides_seen c.loop-side.around) (sides_seen left) (side_seen side) p (within (sides_seen c.args.around.now) (plan_seen c.args.plan)) (ap sides_seen c.in-Some.ensures ∙ map-append side_seen left (side ∷ []))
    c.loop-side.invariant.whole c.loop-side.invariant.rest in
    let none = none-there x.fell (sym c.is_some.ensures ∙ c.if-is_some.false) in
    let same = outcome-none n q (everywhere r n) (ap (λ (o : Option Fell). (q, o)) (sym none) ∙ c.in_ok-stepped.ensures.0) in
    record {
      whole = ap (within (sides_seen left)) same.1 ∙ b.0;
      rest = subst (AllRest s r (sides_seen left)) (sym same.1) b.1;
      none = ap (everywhere r) same.1 ∙ same.0;
    }
