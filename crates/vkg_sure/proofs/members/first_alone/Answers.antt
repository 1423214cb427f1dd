-- The first value alone is that of the first member.
use Rattle.std.proofs.Common.{◌≡◌, ◌∙◌, [], ◌∷◌, map, sym, ap}
use Rattle.std.specs.Prelude.{option_map}
use Rattle.std.proofs.lemmas.Result.{IfOk-weaker}
use Rattle.vkg_expr.specs.Expr.{Expr}
use Rattle.vkg_expr.specs.Seen.{expr_seen}
use Rattle.vkg_sure.specs.FirstKnown.{first_alone}
use Rattle.vkg_sure.proofs.Lists.{head_alone}
use Rattle.vkg_sure.proofs.members.first_alone.Goals as goal

pub returns-in_ok-first_value-in-len1-up : goal.returns-in_ok-first_value-in-len1-up
returns-in_ok-first_value-in-len1-up c =
    let list = c.args.list.now in
    IfOk-weaker c.alone.result
    (λ o. option_map (map expr_seen) o ≡ option_map (λ (d : Expr). d ∷ []) (option_map expr_seen c.in_ok-first_value-in-len1-up.field-0))
    (λ o. option_map (map expr_seen) o ≡ first_alone c.args.own.now (map expr_seen list))
    (λ o h. h ∙ ap (option_map (λ (d : Expr). d ∷ [])) c.in_ok-first_value-in-len1-up.ensures ∙ sym (head_alone c.args.own.now list c.e-item.result c.in-len1-up.len_at_least c.e-item.is))
    c.alone.ensures
