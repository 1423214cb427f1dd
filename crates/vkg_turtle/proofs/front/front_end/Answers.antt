use Rattle.std.proofs.Common.{◌∙◌, refl, sym}
use Rattle.vkg_turtle.proofs.Placing.{colon_cut, front_found}
use Rattle.vkg_turtle.proofs.front.front_end.Goals as goal

pub returns : goal.returns
returns c =
    let cut = colon_cut c.args.text.now _ (c.in-Some.scheme, c.in-Some.rest) c.split_once.ensures.cases c.in-Some.is in
    front_found c.args.text.now c.in-Some.scheme.now c.in-Some.rest.now c.before_query-hierarchy.result.now c.path_of-path.result.now c.behind_slash-end.result _
    cut.0 cut.1 (sym c.in_ok-is_scheme.ensures ∙ c.if-not-branch.false)
    c.before_query-hierarchy.ensures.front c.path_of-path.ensures.path c.behind_slash-end.ensures c.if-end-eq0.false
    (sym c.in_ok-has_dots.ensures ∙ c.if-branch.false) refl
