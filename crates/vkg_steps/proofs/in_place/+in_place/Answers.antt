-- Each member that is asked is one before which nothing is left to do; the first that is changed is put back in its place.
use Rattle.std.proofs.Common.{◌≡◌, ℕ, List, [], ◌∷◌, ◌++◌, map, length, get_or, Option, Some, None, sym, ap, ◌∙◌, subst, arith}
use Rattle.std.specs.Prelude.{IfOk, reverse, slice_set}
use Rattle.std.proofs.lemmas.List.{length-map, map-set}
use Rattle.std.proofs.Math.Seq.{map-set_same}
use Rattle.std.proofs.lemmas.Result.{IfOk-weaker}
use Rattle.vkg_plan.proofs.SeenParts.{seen-Project, seen-Select}
use Rattle.vkg_plan.specs.Seen.{plan_seen}
use Rattle.vkg_expr.specs.Seen.{expr_seen}
use Rattle.vkg_plan.specs.Plan.{Plan, Select, Project, Distinct, Left, AntiJoin, plans}
use Rattle.vkg_rules.specs.declared.rewrite.Fell.{Fell}
use Rattle.vkg_rules.specs.Everywhere.{everywhere}
use Rattle.vkg_rules.specs.StepSeen.{plans_seen}
use Rattle.vkg_rules.proofs.Inside.{nodes}
use Rattle.vkg_rules.proofs.Seen.{seen-Distinct}
use Rattle.vkg_steps.specs.Outcomes.{IsInside, IsListStep, IsNext, IsStep}
use Rattle.vkg_steps.proofs.MemberLemmas.{fewer_nodes}
use Rattle.vkg_rules.proofs.Outcomes.{outcome-none, outcome-some}
use Rattle.vkg_steps.proofs.OutcomeLemmas.{at_root, first_behind, in_against, in_alone, in_distinct, in_left, in_list, in_none, in_project, in_right, in_select, member_at, member_behind, next_behind, told, told_next, typed_at}
use Rattle.vkg_steps.proofs.PlaceLemmas.{nothing_behind}
use Rattle.vkg_steps.proofs.in_place.+in_place.Goals as goal

pub step_from-step_member-requires : goal.step_from-step_member-requires
step_from-step_member-requires g t c κs within =
    let s = c.args.schema.now in
    let r = g.R.Rewrite.becomes c.args.rule.now s in
    let ps = map plan_seen c.args.members.now in
    let ms = c.loop-at.members in
    let i = c.loop-at.at in
    let d = c.index-members-at.result in
    let p = plan_seen (get_or ms i d) in
    let same = c.loop-at.invariant.same in
    let here = member_at ms ps i d same (omega arith) in
    let less = fewer_nodes ms ps i d same (omega arith) in
    (omega (arith, less), (within, (typed_at s ps i p c.loop-at.invariant.typed here, member_behind r ps i (reverse c.loop-at.below.now) p c.loop-at.invariant.behind here)))

pub step_from-loop-at-preserved : goal.step_from-loop-at-preserved
step_from-loop-at-preserved g t c =
    let r = g.R.Rewrite.becomes c.args.rule.now c.args.schema.now in
    let ps = map plan_seen c.args.members.now in
    let ms = c.loop-at.members in
    let i = c.loop-at.at in
    let d = c.index-members-at.result in
    let p = plan_seen (get_or ms i d) in
    let q = c.step_member.new.member in
    let same = c.loop-at.invariant.same in
    let here = member_at ms ps i d same (omega arith) in
    let none = outcome-none p (plan_seen q) (everywhere r p) (ap (λ (x : Option Fell). (plan_seen q, x)) (sym c.in_default.is) ∙ c.in_ok-fell.ensures.0) in
    record {
      behind = next_behind r ps i (reverse c.loop-at.below.now) p c.loop-at.invariant.behind here none.0;
      typed = c.loop-at.invariant.typed;
      same = map-set_same plan_seen ms i q d none.1 ∙ same;
    }

pub step_from-returns-in-Some : goal.step_from-returns-in-Some
step_from-returns-in-Some g t c =
    let r = g.R.Rewrite.becomes c.args.rule.now c.args.schema.now in
    let ps = map plan_seen c.args.members.now in
    let ms = c.loop-at.members in
    let i = c.loop-at.at in
    let d = c.index-members-at.result in
    let p = plan_seen (get_or ms i d) in
    let q = c.step_member.new.member in
    let same = c.loop-at.invariant.same in
    let here = member_at ms ps i d same (omega arith) in
    let is = subst (λ (f : Option Fell). IsStep r p (plan_seen q) f c.in_ok-fell.there) c.in-Some.is c.in_ok-fell.ensures in
    let ys = map plan_seen (slice_set ms i q) in
    let put = map-set plan_seen ms i q ∙ ap (λ l. slice_set l i (plan_seen q)) same in
    let place = c.in_ok-fell.there ++ i ∷ [] in
    let found = in_list r ps ys i (reverse c.loop-at.below.now) c.in_ok-fell.there p (plan_seen q) c.in-Some.fell c.loop-at.invariant.behind here is put in
    subst (λ (n : List ℕ). IsListStep r (plans ps) (plans ys) (Some c.in-Some.fell) n) {x = place} (sym c.in_ok-push.ensures.ok) found

pub step_from-returns : goal.step_from-returns
step_from-returns g t c =
    let r = g.R.Rewrite.becomes c.args.rule.now c.args.schema.now in
    let ps = map plan_seen c.args.members.now in
    let ms = c.loop-at.members in
    let same = c.loop-at.invariant.same in
    let e = ap length same in
    let n = length-map ms plan_seen in
    subst (λ (place : List ℕ). IsListStep r (plans ps) (plans (map plan_seen ms)) None place) (sym c.new.ensures)
    (in_none r ps (map plan_seen ms) c.loop-at.at (reverse c.loop-at.below.now) c.loop-at.invariant.behind (omega (arith, e, n)) same)

-- ---- without a place, and behind a side without a change

pub step_left-step_sides-requires : goal.step_left-step_sides-requires
step_left-step_sides-requires g t c κs within =
    let r = g.R.Rewrite.becomes c.args.rule.now c.args.schema.now in
    (omega arith, (within, (c.requires.p, (c.requires.q, (c.requires.none, nothing_behind r (plan_seen c.args.p))))))

pub step_members-step_from-requires : goal.step_members-step_from-requires
step_members-step_from-requires g t c κs within =
    let r = g.R.Rewrite.becomes c.args.rule.now c.args.schema.now in
    (omega arith, (within, (c.requires.typed, first_behind r (plans_seen c.args.members.now))))

pub step_sides-step_right-requires : goal.step_sides-step_right-requires
step_sides-step_right-requires g t c κs within =
    let r = g.R.Rewrite.becomes c.args.rule.now c.args.schema.now in
    let p = plan_seen c.args.p in
    let q = plan_seen c.in-Ok.x.plan in
    let none = outcome-none p q (everywhere r p) (ap (λ (x : Option Fell). (q, x)) (sym c.in-None.is) ∙ c.in-Ok.ensures.0) in
    let as_many = ap nodes none.1 in
    let left = ap (λ (x : Plan). r (Left x (plan_seen c.args.q) (expr_seen c.args.c))) none.1 ∙ c.requires.none in
    (omega (arith, as_many), (within, (ap (everywhere r) none.1 ∙ none.0, (c.requires.q, (left, nothing_behind r (plan_seen c.args.q))))))

-- ---- a change at the root, and one below it at each node

pub step_in-returns-in-Some : goal.step_in-returns-in-Some
step_in-returns-in-Some g t c =
    let r = g.R.Rewrite.becomes c.args.rule.now c.args.schema.now in
    let p = plan_seen c.args.plan in
    let asked = c.in_ok-asked.asked in
    let q = plan_seen asked.plan in
    let f = c.in-Some.field-0 in
    let e = outcome-some p q f (r p) (ap (λ (o : Option Fell). (q, o)) (sym c.in-Some.is) ∙ c.in_ok-asked.ensures.value) in
    told_next (λ z k n. IsStep r p z k n) (λ n. IsNext (reverse c.args.place.now) asked.dropped (reverse n)) (λ y. plan_seen y.plan) (λ y. y.fell) (λ y. y.place) q (Some f) c.changed.result
    (IfOk-weaker c.changed.result (λ y. y.plan ≡ asked.plan) (λ y. plan_seen y.plan ≡ q) (λ y h. ap plan_seen h) c.changed.ensures.plan)
    (subst (λ (o : Option Fell). IfOk c.changed.result (λ y. y.fell ≡ o)) c.in-Some.is c.changed.ensures.fell)
    c.changed.ensures.place
    (λ n h. at_root r (reverse c.args.place.now) (reverse n) asked.dropped p q f e c.requires.behind c.in_ok-asked.ensures.dropped h)

pub step_below-returns-in-Ok : goal.step_below-returns-in-Ok
step_below-returns-in-Ok g t c =
    let r = g.R.Rewrite.becomes c.args.rule.now c.args.schema.now in
    let d = expr_seen c.in-Select.c in
    let p = plan_seen c.in-Select.p in
    let x = c.in-Ok.x in
    let e : plan_seen c.args.plan ≡ Select d p = ap plan_seen c.in-Select.is ∙ seen-Select c.in-Select.c c.in-Select.p in
    told (λ z k n. IsInside r (plan_seen c.args.plan) z k n) (λ y. plan_seen y.plan) (λ y. y.fell) (λ y. y.place) (Select d (plan_seen x.plan)) x.fell x.place c.selected.result
    c.selected.ensures.plan c.selected.ensures.fell c.selected.ensures.place
    (subst (λ (w : Plan). IsInside r w (Select d (plan_seen x.plan)) x.fell x.place) (sym e) (in_select r d p (plan_seen x.plan) x.fell x.place (ap r (sym e) ∙ c.requires.none) c.in-Ok.ensures))

pub step_below-returns-in_ok-step_in-in-Project : goal.step_below-returns-in_ok-step_in-in-Project
step_below-returns-in_ok-step_in-in-Project g t c =
    let r = g.R.Rewrite.becomes c.args.rule.now c.args.schema.now in
    let es = map expr_seen c.in-Project.es in
    let p = plan_seen c.in-Project.p in
    let x = c.in_ok-step_in-in-Project.field-0 in
    let e : plan_seen c.args.plan ≡ Project es p = ap plan_seen c.in-Project.is ∙ seen-Project c.in-Project.es c.in-Project.p in
    told (λ z k n. IsInside r (plan_seen c.args.plan) z k n) (λ y. plan_seen y.plan) (λ y. y.fell) (λ y. y.place) (Project es (plan_seen x.plan)) x.fell x.place c.projected.result
    c.projected.ensures.plan c.projected.ensures.fell c.projected.ensures.place
    (subst (λ (w : Plan). IsInside r w (Project es (plan_seen x.plan)) x.fell x.place) (sym e) (in_project r es p (plan_seen x.plan) x.fell x.place (ap r (sym e) ∙ c.requires.none) c.in_ok-step_in-in-Project.ensures))

pub step_below-returns-in_ok-step_in-in-Distinct : goal.step_below-returns-in_ok-step_in-in-Distinct
step_below-returns-in_ok-step_in-in-Distinct g t c =
    let r = g.R.Rewrite.becomes c.args.rule.now c.args.schema.now in
    let p = plan_seen c.in-Distinct.p in
    let x = c.in_ok-step_in-in-Distinct.field-0 in
    let e : plan_seen c.args.plan ≡ Distinct p = ap plan_seen c.in-Distinct.is ∙ seen-Distinct c.in-Distinct.p in
    told (λ z k n. IsInside r (plan_seen c.args.plan) z k n) (λ y. plan_seen y.plan) (λ y. y.fell) (λ y. y.place) (Distinct (plan_seen x.plan)) x.fell x.place c.each_once.result
    c.each_once.ensures.plan c.each_once.ensures.fell c.each_once.ensures.place
    (subst (λ (w : Plan). IsInside r w (Distinct (plan_seen x.plan)) x.fell x.place) (sym e) (in_distinct r p (plan_seen x.plan) x.fell x.place (ap r (sym e) ∙ c.requires.none) c.in_ok-step_in-in-Distinct.ensures))

pub step_right-returns-in-Ok : goal.step_right-returns-in-Ok
step_right-returns-in-Ok g t c =
    let r = g.R.Rewrite.becomes c.args.rule.now c.args.schema.now in
    let p = plan_seen c.args.p in
    let q = plan_seen c.args.q in
    let d = expr_seen c.args.c in
    let x = c.in-Ok.x in
    told (λ z k n. IsInside r (Left p q d) z k n) (λ y. plan_seen y.plan) (λ y. y.fell) (λ y. y.place) (Left p (plan_seen x.plan) d) x.fell (x.place ++ 1 ∷ []) c.on_right.result
    c.on_right.ensures.plan c.on_right.ensures.fell c.on_right.ensures.place
    (in_right r p q (plan_seen x.plan) d x.fell x.place c.requires.p c.requires.none c.in-Ok.ensures)

pub step_sides-returns-in-Some : goal.step_sides-returns-in-Some
step_sides-returns-in-Some g t c =
    let r = g.R.Rewrite.becomes c.args.rule.now c.args.schema.now in
    let p = plan_seen c.args.p in
    let q = plan_seen c.args.q in
    let d = expr_seen c.args.c in
    let x = c.in-Ok.x in
    let f = c.in-Some.field-0 in
    told (λ z k n. IsInside r (Left p q d) z k n) (λ y. plan_seen y.plan) (λ y. y.fell) (λ y. y.place) (Left (plan_seen x.plan) q d) (Some f) (x.place ++ 0 ∷ []) c.on_left.result
    c.on_left.ensures.plan (subst (λ (o : Option Fell). IfOk c.on_left.result (λ y. y.fell ≡ o)) c.in-Some.is c.on_left.ensures.fell) c.on_left.ensures.place
    (in_left r p q (plan_seen x.plan) d f x.place c.requires.none (subst (λ (o : Option Fell). IsStep r p (plan_seen x.plan) o x.place) c.in-Some.is c.in-Ok.ensures))

-- ---- the same at an anti join

pub step_anti-step_anti_sides-requires : goal.step_anti-step_anti_sides-requires
step_anti-step_anti_sides-requires g t c κs within =
    let r = g.R.Rewrite.becomes c.args.rule.now c.args.schema.now in
    (omega arith, (within, (c.requires.p, (c.requires.q, (c.requires.none, nothing_behind r (plan_seen c.args.p))))))

pub step_anti_sides-step_anti_right-requires : goal.step_anti_sides-step_anti_right-requires
step_anti_sides-step_anti_right-requires g t c κs within =
    let r = g.R.Rewrite.becomes c.args.rule.now c.args.schema.now in
    let p = plan_seen c.args.p in
    let q = plan_seen c.in-Ok.x.plan in
    let none = outcome-none p q (everywhere r p) (ap (λ (x : Option Fell). (q, x)) (sym c.in-None.is) ∙ c.in-Ok.ensures.0) in
    let as_many = ap nodes none.1 in
    let left = ap (λ (x : Plan). r (AntiJoin x (plan_seen c.args.q) (expr_seen c.args.c))) none.1 ∙ c.requires.none in
    (omega (arith, as_many), (within, (ap (everywhere r) none.1 ∙ none.0, (c.requires.q, (left, nothing_behind r (plan_seen c.args.q))))))

pub step_anti_right-returns-in-Ok : goal.step_anti_right-returns-in-Ok
step_anti_right-returns-in-Ok g t c =
    let r = g.R.Rewrite.becomes c.args.rule.now c.args.schema.now in
    let p = plan_seen c.args.p in
    let q = plan_seen c.args.q in
    let d = expr_seen c.args.c in
    let x = c.in-Ok.x in
    told (λ z k n. IsInside r (AntiJoin p q d) z k n) (λ y. plan_seen y.plan) (λ y. y.fell) (λ y. y.place) (AntiJoin p (plan_seen x.plan) d) x.fell (x.place ++ 1 ∷ []) c.on_anti_right.result
    c.on_anti_right.ensures.plan c.on_anti_right.ensures.fell c.on_anti_right.ensures.place
    (in_against r p q (plan_seen x.plan) d x.fell x.place c.requires.p c.requires.none c.in-Ok.ensures)

pub step_anti_sides-returns-in-Some : goal.step_anti_sides-returns-in-Some
step_anti_sides-returns-in-Some g t c =
    let r = g.R.Rewrite.becomes c.args.rule.now c.args.schema.now in
    let p = plan_seen c.args.p in
    let q = plan_seen c.args.q in
    let d = expr_seen c.args.c in
    let x = c.in-Ok.x in
    let f = c.in-Some.field-0 in
    told (λ z k n. IsInside r (AntiJoin p q d) z k n) (λ y. plan_seen y.plan) (λ y. y.fell) (λ y. y.place) (AntiJoin (plan_seen x.plan) q d) (Some f) (x.place ++ 0 ∷ []) c.on_anti_left.result
    c.on_anti_left.ensures.plan (subst (λ (o : Option Fell). IfOk c.on_anti_left.result (λ y. y.fell ≡ o)) c.in-Some.is c.on_anti_left.ensures.fell) c.on_anti_left.ensures.place
    (in_alone r p q (plan_seen x.plan) d f x.place c.requires.none (subst (λ (o : Option Fell). IsStep r p (plan_seen x.plan) o x.place) c.in-Some.is c.in-Ok.ensures))
