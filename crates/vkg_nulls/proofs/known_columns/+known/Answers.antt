-- A union has as many columns as its first member.
use Rattle.std.proofs.Common.{◌≡◌, ◌∙◌, map, ap}
use Rattle.std.proofs.lemmas.Result.{IfOk-weaker}
use Rattle.vkg_plan.specs.Plan.{UnionAll, plans}
use Rattle.vkg_plan.specs.Seen.{plan_seen}
use Rattle.vkg_nulls.specs.KnownColumns.{known_columns, unsaid}
use Rattle.vkg_nulls.proofs.Lists.{of_first}
use Rattle.vkg_nulls.proofs.known_columns.+known.Goals as goal

pub unsaid_of_first-returns-in_ok-known_columns-in-len1-up : goal.unsaid_of_first-returns-in_ok-known_columns-in-len1-up
unsaid_of_first-returns-in_ok-known_columns-in-len1-up t c =
    let s = c.args.schema.now in
    let ps = c.args.ps.now in
    let flags = c.in_ok-known_columns-in-len1-up in
    IfOk-weaker c.none_known.result (λ fs. fs ≡ unsaid flags.field-0) (λ fs. fs ≡ known_columns s (UnionAll (plans (map plan_seen ps))))
    (λ fs h. h ∙ ap (λ x. unsaid x) flags.ensures ∙ of_first s ps c.p-item.result c.in-len1-up.len_at_least c.p-item.is) c.none_known.ensures
