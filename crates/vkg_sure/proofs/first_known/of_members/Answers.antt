-- Of two or more members one goes.
use Rattle.std.proofs.Common.{◌≡◌, ◌∙◌, map}
use Rattle.std.specs.Prelude.{option_map}
use Rattle.std.proofs.lemmas.Result.{IfOk-weaker}
use Rattle.vkg_expr.specs.Seen.{expr_seen}
use Rattle.vkg_sure.specs.FirstKnown.{coalesce_of, of_members}
use Rattle.vkg_sure.proofs.Found.{of_many}
use Rattle.vkg_sure.proofs.first_known.of_members.Goals as goal

pub returns-in_ok-shorter-in-len2-up : goal.returns-in_ok-shorter-in-len2-up
returns-in_ok-shorter-in-len2-up c =
    let list = c.args.list.now in
    IfOk-weaker c.coalesce_if.result
    (λ o. option_map expr_seen o ≡ option_map (coalesce_of c.any_makes_term.result) (option_map (map expr_seen) c.in_ok-shorter-in-len2-up.field-0))
    (λ o. option_map expr_seen o ≡ of_members c.args.own.now (map expr_seen list))
    (λ o h. h ∙ (λ i. option_map (coalesce_of (c.any_makes_term.ensures i)) (c.in_ok-shorter-in-len2-up.ensures i)) ∙ of_many c.args.own.now list c.in-len2-up.len_at_least)
    c.coalesce_if.ensures
