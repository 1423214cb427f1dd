-- The kinds that a well-typed plan's nodes give are those of its columns.
use Rattle.std.proofs.Common.{◌≡◌, ◌∙◌}
use Rattle.std.proofs.lemmas.Result.{IfOk-weaker}
use Rattle.vkg_plan.proofs.GivenKinds.{given_kinds-typed}
use Rattle.vkg_plan.specs.GivenKinds.{given_kinds}
use Rattle.vkg_plan.specs.Seen.{plan_seen}
use Rattle.vkg_rules.specs.Measure.{kinds_or_none}
use Rattle.vkg_moves.proofs.kinds.kinds.Goals as goal

pub returns : goal.returns
returns c =
    let s = c.args.schema.now in
    let p = plan_seen c.args.p.now in
    IfOk-weaker c.given_kinds.result (λ ks. ks ≡ given_kinds s p) (λ ks. ks ≡ kinds_or_none s p) (λ ks h. h ∙ given_kinds-typed s p c.requires) c.given_kinds.ensures
