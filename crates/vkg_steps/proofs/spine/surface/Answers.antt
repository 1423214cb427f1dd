-- The innermost side is taken, and the plan is its node.
use Rattle.std.proofs.Common.{◌∙◌, [], ◌∷◌, ap}
use Rattle.std.specs.Prelude.{reverse}
use Rattle.std.proofs.lemmas.List.{map-append}
use Rattle.vkg_plan.specs.Seen.{plan_seen}
use Rattle.vkg_steps.specs.Sides.{side_seen, sides_seen}
use Rattle.vkg_steps.proofs.SpineLemmas.{raised-told}
use Rattle.vkg_steps.proofs.spine.surface.Goals as goal

pub returns-in-Some-clause-raised : goal.returns-in-Some-clause-raised
returns-in-Some-clause-raised c =
    let side = c.in-Some.side in
    let left = c.pop.new.self in
    raised-told (λ y. plan_seen y.plan) (λ y. reverse y.place) (sides_seen c.args.around.now) (sides_seen left) (side_seen side) (plan_seen c.args.stepped.plan) (reverse c.args.stepped.place) c.over.result
    (ap sides_seen c.in-Some.ensures ∙ map-append side_seen left (side ∷ [])) c.over.ensures.plan c.over.ensures.place
