use Rattle.vkg_store.specs.Held.{ArePut}
use Rattle.vkg_store.specs.Stored.{Extends}
use Rattle.vkg_store.proofs.stored_column.put_row.Given as goal

abbrev pub invariant-loop-k : goal.invariant-loop-k
invariant-loop-k l = record {
  put : ArePut l.texts l.rows l.k l.fn.columns.items l.row l.columns.items;
  extends : Extends l.fn.texts l.texts;
}
