use Rattle.std.proofs.Common.{◌∙◌, ◌<◌, length, map, slice_get, sym, ap, arith}
use Rattle.vkg_store.specs.Held.{held}
use Rattle.vkg_store.proofs.RowLemmas.{row-there, seen-long}
use Rattle.vkg_store.proofs.table_row.TableRows.row.Goals as goal

pub returns : goal.returns
returns c =
    let s = c.self.inside in
    let long = seen-long s.texts.now (map (held s.rows) s.columns.now) s.rows in
    let within : c.args.at < s.rows = omega (arith, c.requires, long, ap length c.self.view_is) in
    ap (λ rs. slice_get rs c.args.at) (sym c.self.view_is) ∙ row-there s.texts.now s.rows c.args.at s.columns.now within
