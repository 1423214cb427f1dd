-- Of two or more the first nested one is spread.
use Rattle.std.proofs.Common.{◌≡◌, ◌∙◌, ap, map}
use Rattle.std.specs.Prelude.{option_map}
use Rattle.std.proofs.lemmas.Result.{IfOk-weaker}
use Rattle.vkg_expr.specs.Seen.{expr_seen}
use Rattle.vkg_conditions.specs.Cases.{is_junction, junction_of}
use Rattle.vkg_conditions.specs.Conditions.{flattened}
use Rattle.vkg_conditions.proofs.ListLemmas.{flat_many}
use Rattle.vkg_conditions.proofs.cases.flattened.Goals as goal

pub returns-in_ok-spread-in-len2-up : goal.returns-in_ok-spread-in-len2-up
returns-in_ok-spread-in-len2-up c =
    let sort = c.args.sort in
    let list = c.args.list.now in
    IfOk-weaker c.rejoined.result
    (λ o. option_map expr_seen o ≡ option_map (junction_of sort) (option_map (map expr_seen) c.in_ok-spread-in-len2-up.field-0))
    (λ o. option_map expr_seen o ≡ flattened (junction_of sort) (is_junction sort) (map expr_seen list))
    (λ o h. h ∙ ap (option_map (junction_of sort)) c.in_ok-spread-in-len2-up.ensures ∙ flat_many sort list c.in-len2-up.len_at_least)
    c.rejoined.ensures
