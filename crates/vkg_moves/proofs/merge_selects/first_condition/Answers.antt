-- The condition is that of the first Select.
use Rattle.std.proofs.Common.{◌≡◌, ◌∙◌, ◌+◌, length, length-append, drop, sym, ap, subst, arith}
use Rattle.std.specs.Prelude.{option_map}
use Rattle.vkg_expr.specs.Seen.{expr_seen}
use Rattle.vkg_plan.specs.Kinds.{width}
use Rattle.vkg_plan.specs.Seen.{plan_seen}
use Rattle.vkg_rules.proofs.Members.{drop_here}
use Rattle.vkg_rules.specs.Parts.{AreTyped, typed_more}
use Rattle.vkg_rules.specs.StepSeen.{plans_seen}
use Rattle.vkg_moves.proofs.FirstSelect.{condition_here, kinds_wide, no_condition_here}
use Rattle.vkg_moves.specs.MergeSelects.{Part, part_behind}
use Rattle.vkg_moves.proofs.merge_selects.first_condition.Goals as goal

pub returns-in-Some : goal.returns-in-Some
returns-in-Some c =
    let p = c.index-ps-i.result in
    let part = ap (option_map expr_seen) (sym c.in-Some.is) ∙ c.in_ok-c.ensures ∙ ap (λ ks. option_map (λ (x : Part). x.1) (part_behind (length ks) (plan_seen p))) c.as_slice.ensures in
    condition_here c.args.schema.now c.args.ps.now c.loop-i.i (length c.loop-i.before) p (expr_seen c.in-Some.c) (omega arith) c.index-ps-i.is part c.loop-i.invariant.found

pub loop-i-preserved : goal.loop-i-preserved
loop-i-preserved c =
    let s = c.args.schema.now in
    let ps = c.args.ps.now in
    let i = c.loop-i.i in
    let p = c.index-ps-i.result in
    let n = length c.loop-i.before in
    let here = drop_here ps i p (omega arith) c.index-ps-i.is in
    let none = ap (option_map expr_seen) (sym c.in_default.is) ∙ c.in_ok-c.ensures ∙ ap (λ ks. option_map (λ (x : Part). x.1) (part_behind (length ks) (plan_seen p))) c.as_slice.ensures in
    let wider : length c.append.new.self ≡ n + width s (plan_seen p) =
    ap length c.in_ok-append.ensures.ok ∙ length-append c.loop-i.before c.in_ok-kinds.field-0 ∙ ap (λ k. n + k) (ap length c.in_ok-kinds.ensures ∙ kinds_wide s (plan_seen p)) in
    record {
      found = no_condition_here s ps i n (length c.append.new.self) p (omega arith) c.index-ps-i.is none wider c.loop-i.invariant.found;
      typed = (typed_more s (plan_seen p) (plans_seen (drop (i + 1) ps)) (subst (λ l. AreTyped s (plans_seen l)) here c.loop-i.invariant.typed)).1;
    }
