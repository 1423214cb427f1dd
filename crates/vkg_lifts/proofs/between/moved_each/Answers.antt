-- Columns from one on put in are columns moved.
use Rattle.std.proofs.Common.{◌≡◌, ◌∙◌, ap, map}
use Rattle.std.proofs.lemmas.Result.{IfOk-weaker}
use Rattle.vkg_expr.specs.Seen.{expr_seen}
use Rattle.vkg_expr.specs.Strict.{moved, put}
use Rattle.vkg_columns.specs.Columns.{at_place}
use Rattle.vkg_lifts.proofs.OwnColumns.{moved-within}
use Rattle.vkg_lifts.proofs.between.moved_each.Goals as goal

pub returns : goal.returns
returns c =
    let es = c.args.es.now in
    let before = c.args.before in
    IfOk-weaker c.put_each.result
    (λ r. map expr_seen r ≡ map (λ e. put (at_place (map expr_seen c.as_slice.result.now)) (expr_seen e)) es)
    (λ r. map expr_seen r ≡ map (moved before) (map expr_seen es))
    (λ r i. i ∙ ap (λ by. map (λ e. put (at_place by) (expr_seen e)) es) (ap (map expr_seen) c.as_slice.ensures ∙ c.in_ok-by.ensures) ∙ moved-within before c.args.own es c.requires)
    c.put_each.ensures
