use Rattle.std.proofs.Common.{◌∙◌, ◌<◌, Some, length, slice_get, sym, ap, arith}
use Rattle.vkg_store.specs.Stored.{ColumnNumbers, stored}
use Rattle.vkg_store.proofs.RowLemmas.{cell-there, column-long}
use Rattle.vkg_store.proofs.column.Column.get.Goals as goal

pub returns : goal.returns
returns c =
    let s = c.self.inside in
    let kept : ColumnNumbers = record { kind = s.kind; numbers = s.numbers.now } in
    let long = column-long s.texts.now kept s.rows in
    let within : c.args.row < s.rows = omega (arith, c.requires, long, ap length c.self.view_is) in
    ap (λ cs. slice_get cs c.args.row) (sym c.self.view_is) ∙ cell-there s.texts.now kept s.rows c.args.row within
    ∙ ap Some (sym (c.lend.ensures ∙ ap (stored s.texts.now s.kind) c.number_at.ensures))
