use Rattle.std.proofs.Common.{◌∙◌, length, map, sym, ap}
use Rattle.vkg_store.specs.Held.{held}
use Rattle.vkg_store.proofs.RowLemmas.{seen-long}
use Rattle.vkg_store.proofs.table_row.TableRows.len.Goals as goal

pub returns : goal.returns
returns c =
    let s = c.self.inside in
    sym (seen-long s.texts.now (map (held s.rows) s.columns.now) s.rows) ∙ ap length c.self.view_is
