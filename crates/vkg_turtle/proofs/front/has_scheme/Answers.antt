use Rattle.std.proofs.Common.{◌≡◌, IfOk, sym, subst}
use Rattle.vkg_turtle.proofs.Placing.{no_colon_told, scheme_told}
use Rattle.vkg_turtle.proofs.front.has_scheme.Goals as goal

pub returns-in-Some : goal.returns-in-Some
returns-in-Some c =
    subst (λ t. IfOk c.is_scheme.result (λ b. b ≡ t)) (scheme_told c.args.text.now _ (c.in-Some.scheme, c.in-Some.field-0-1) c.split_once.ensures.cases c.in-Some.is) c.is_scheme.ensures

pub returns-in-None : goal.returns-in-None
returns-in-None c = sym (no_colon_told c.args.text.now _ c.split_once.ensures.cases c.in-None.is)
