-- At the end each of the list was passed.
use Rattle.std.proofs.Common.{◌∙◌, ap, arith, map}
use Rattle.std.proofs.lemmas.List.{take_all}
use Rattle.vkg_expr.specs.Seen.{expr_seen}
use Rattle.vkg_expr.specs.Strict.{put}
use Rattle.vkg_columns.specs.Columns.{at_place}
use Rattle.vkg_columns.proofs.Lists.{put_all}
use Rattle.vkg_columns.proofs.putting.+put.Goals as goal

pub put_list-returns : goal.put_list-returns
put_list-returns t c =
    let f = at_place (map expr_seen c.args.by.now) in
    put_all f c.loop-e.done c.args.list.now
    (c.loop-e.invariant ∙ ap (map (λ e. put f (expr_seen e))) (take_all c.loop-e.e-index c.args.list.now (omega arith)))
