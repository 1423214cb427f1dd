-- The first Project's expressions are those of its place.
use Rattle.std.proofs.Common.{◌∙◌, ◌+◌, drop, map, sym, ap, subst, arith}
use Rattle.std.specs.Prelude.{option_map}
use Rattle.vkg_expr.specs.Seen.{expr_seen}
use Rattle.vkg_plan.specs.Seen.{plan_seen}
use Rattle.vkg_rules.proofs.Members.{drop_here}
use Rattle.vkg_rules.specs.Parts.{AreTyped, typed_more}
use Rattle.vkg_rules.specs.StepSeen.{plans_seen}
use Rattle.vkg_lifts.proofs.FirstProject.{project_here, no_project_here}
use Rattle.vkg_lifts.proofs.OwnColumns.{rest-all}
use Rattle.vkg_lifts.specs.BelowProjects.{exprs_between}
use Rattle.vkg_lifts.specs.LiftedSeen.{exprs_seen}
use Rattle.vkg_lifts.specs.LiftProjects.{widths}
use Rattle.vkg_lifts.proofs.members.exprs_of_members.Goals as goal

pub returns-in-Some : goal.returns-in-Some
returns-in-Some c =
    let s = c.args.schema.now in
    let ps = c.args.ps.now in
    let i = c.loop-i.i in
    let p = c.index-ps-i.result in
    let n = c.loop-i.before in
    let parts = ap (option_map exprs_seen) (sym c.in-Some.is) ∙ c.in_ok-es.ensures ∙ (λ j. exprs_between s n (widths s (plans_seen (rest-all ps (i + 1) j))) (plan_seen p)) in
    project_here s ps i n p (map expr_seen c.in-Some.es) (omega arith) c.index-ps-i.is parts c.loop-i.invariant.found

pub loop-i-preserved : goal.loop-i-preserved
loop-i-preserved c =
    let s = c.args.schema.now in
    let ps = c.args.ps.now in
    let i = c.loop-i.i in
    let p = c.index-ps-i.result in
    let n = c.loop-i.before in
    let here = drop_here ps i p (omega arith) c.index-ps-i.is in
    let none = ap (option_map exprs_seen) (sym c.in_default.is) ∙ c.in_ok-es.ensures ∙ (λ j. exprs_between s n (widths s (plans_seen (rest-all ps (i + 1) j))) (plan_seen p)) in
    let wider = c.in_ok-before.ensures ∙ ap (λ k. n + k) c.in_ok-width.ensures in
    record {
      found = no_project_here s ps i n _ p (omega arith) c.index-ps-i.is none wider c.loop-i.invariant.found;
      typed = (typed_more s (plan_seen p) (plans_seen (drop (i + 1) ps)) (subst (λ l. AreTyped s (plans_seen l)) here c.loop-i.invariant.typed)).1;
    }
