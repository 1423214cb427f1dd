-- A union has the kinds of its first member.
use Rattle.std.proofs.Common.{◌≡◌, ◌∙◌, map}
use Rattle.std.proofs.lemmas.Result.{IfOk-weaker}
use Rattle.vkg_plan.specs.GivenKinds.{given_kinds}
use Rattle.vkg_plan.specs.Plan.{UnionAll, plans}
use Rattle.vkg_plan.specs.Seen.{plan_seen}
use Rattle.vkg_plan.proofs.GivenKinds.{of_first}
use Rattle.vkg_plan.proofs.given.+given.Goals as goal

pub given_by_first-returns-in-len1-up : goal.given_by_first-returns-in-len1-up
given_by_first-returns-in-len1-up t c =
    let s = c.args.schema.now in
    let ps = c.args.ps.now in
    IfOk-weaker c.given_kinds.result (λ ks. ks ≡ given_kinds s (plan_seen c.p-item.result)) (λ ks. ks ≡ given_kinds s (UnionAll (plans (map plan_seen ps))))
    (λ ks h. h ∙ of_first s ps c.p-item.result c.in-len1-up.len_at_least c.p-item.is) c.given_kinds.ensures
