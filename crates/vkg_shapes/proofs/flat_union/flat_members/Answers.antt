-- Of two members or more the first union is opened.
use Rattle.std.proofs.Common.{◌∙◌, ap}
use Rattle.std.specs.Prelude.{option_map}
use Rattle.vkg_plan.specs.Plan.{Plans, UnionAll}
use Rattle.vkg_rules.specs.declared.rewrite.Fell.TheVariants as fell
use Rattle.vkg_shapes.proofs.Several.{flat-many}
use Rattle.vkg_shapes.proofs.flat_union.flat_members.Goals as goal

pub returns-in_ok-opened-in-len2-up : goal.returns-in_ok-opened-in-len2-up
returns-in_ok-opened-in-len2-up c =
    c.united.ensures
    ∙ ap (option_map (λ (qs : Plans). (UnionAll qs, fell.Weight))) c.in_ok-opened-in-len2-up.ensures
    ∙ flat-many c.args.ps.now c.in-len2-up.len_at_least
