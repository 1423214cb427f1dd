-- Columns from one on put in are columns moved.
use Rattle.std.proofs.Common.{◌≡◌, ◌∙◌, ap, length, map}
use Rattle.std.proofs.lemmas.Result.{IfOk-weaker}
use Rattle.vkg_lists.proofs.Results.{some_of}
use Rattle.vkg_expr.specs.Seen.{expr_seen}
use Rattle.vkg_expr.specs.Strict.{moved, put}
use Rattle.vkg_expr.specs.Typing.{kind_of}
use Rattle.vkg_columns.specs.Columns.{at_place}
use Rattle.vkg_columns.proofs.MovedColumns.{moved-put}
use Rattle.vkg_columns.proofs.OnColumns.{columns-in_range}
use Rattle.vkg_columns.proofs.moving.moved.Goals as goal

pub returns : goal.returns
returns c =
    let e = expr_seen c.args.e.now in
    let before = length c.args.before.now in
    let own = c.args.own.now in
    let k = some_of (kind_of e own) c.requires in
    IfOk-weaker c.put.result
    (λ r. expr_seen r ≡ put (at_place (map expr_seen c.as_slice.result.now)) e)
    (λ r. expr_seen r ≡ moved before e)
    (λ r i. i ∙ ap (λ es. put (at_place es) e) (ap (map expr_seen) c.as_slice.ensures ∙ c.in_ok-by.ensures) ∙ moved-put before (length own) e (columns-in_range e own k.0 k.1))
    c.put.ensures
