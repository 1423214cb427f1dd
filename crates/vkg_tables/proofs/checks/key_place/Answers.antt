use Rattle.vkg_tables.specs.Checks.{repeats}
use Rattle.vkg_tables.proofs.Places.{least_place-first}
use Rattle.vkg_tables.proofs.checks.key_place.Goals as goal

pub loop-k-init : goal.loop-k-init
loop-k-init c = rw c.as_slice-key-items.ensures (least_place-first (λ key before row. repeats key.columns before row) c.args.table.now.keys c.args.rows.now)
