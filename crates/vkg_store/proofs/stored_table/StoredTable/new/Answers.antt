use Rattle.std.proofs.Common.{map}
use Rattle.vkg_store.specs.Held.{held}
use Rattle.vkg_store.proofs.HeldLemmas.{none-held}
use Rattle.vkg_store.proofs.stored_table.StoredTable.new.Goals as goal

pub returns-clause-stored : goal.returns-clause-stored
returns-clause-stored c texts = none-held texts c.args.columns.now (map (held 0) c.in_ok-columns.columns.items) c.requires c.in_ok-columns.ensures
