-- Where members are left they are the union.
use Rattle.std.proofs.Common.{◌∙◌, Some, sym, ap, arith}
use Rattle.std.specs.Prelude.{option_map}
use Rattle.vkg_plan.proofs.SeenParts.{seen-UnionAll}
use Rattle.vkg_plan.specs.Kinds.{plan_kinds}
use Rattle.vkg_plan.specs.Plan.{Plan}
use Rattle.vkg_plan.specs.Seen.{plan_seen}
use Rattle.vkg_rules.specs.declared.rewrite.Fell.TheVariants as fell
use Rattle.vkg_rules.specs.StepSeen.{plans_seen}
use Rattle.vkg_shapes.specs.PropagateEmpty.{united}
use Rattle.vkg_shapes.proofs.Several.{united-more}
use Rattle.vkg_shapes.proofs.propagate_empty.united.Goals as goal

pub returns-else-len-eq0 : goal.returns-else-len-eq0
returns-else-len-eq0 c =
    let some = c.if-len-eq0.false in
    let long = c.len.ensures in
    let kinds = plan_kinds c.args.schema.now (plan_seen c.args.plan.now) in
    ap (λ (q : Plan). Some (q, fell.Weight)) (seen-UnionAll c.in-Some.rest)
    ∙ united-more kinds c.in-Some.rest (omega (arith, some, long))
    ∙ ap (λ o. united kinds (option_map plans_seen o)) (sym c.in-Some.is)
