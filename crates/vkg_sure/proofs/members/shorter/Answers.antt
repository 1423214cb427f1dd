-- Where the first member has a value, it is that one alone, else fewer members.
use Rattle.std.proofs.Common.{◌≡◌, ◌∙◌, List, [], Option, Some, None, map, sym, ap}
use Rattle.std.specs.Prelude.{option_map}
use Rattle.std.specs.Option.{option_or}
use Rattle.std.proofs.lemmas.Result.{IfOk-weaker}
use Rattle.vkg_expr.specs.Expr.{Expr}
use Rattle.vkg_expr.specs.Seen.{expr_seen}
use Rattle.vkg_sure.specs.FirstKnown.{fewer, first_alone, shorter}
use Rattle.vkg_sure.proofs.members.shorter.Goals as goal

pub returns-in-Some : goal.returns-in-Some
returns-in-Some c =
    let flags = c.args.own.now in
    let es = map expr_seen c.args.list.now in
    let given : first_alone flags es ≡ Some (map expr_seen c.in-Some.one) = sym c.in_ok-one.ensures ∙ ap (option_map (map expr_seen)) c.in-Some.is in
    sym (ap (λ (o : Option (List Expr)). option_or o (fewer flags [] es)) given)

pub returns-in-None : goal.returns-in-None
returns-in-None c =
    let flags = c.args.own.now in
    let es = map expr_seen c.args.list.now in
    let given : first_alone flags es ≡ None = sym c.in_ok-one.ensures ∙ ap (option_map (map expr_seen)) c.in-None.is in
    IfOk-weaker c.fewer.result
    (λ o. option_map (map expr_seen) o ≡ fewer flags [] es)
    (λ o. option_map (map expr_seen) o ≡ shorter flags es)
    (λ o h. h ∙ sym (ap (λ (x : Option (List Expr)). option_or x (fewer flags [] es)) given))
    c.fewer.ensures
