use Rattle.vkg_schema.specs.Rows.{rows_of}
use Rattle.vkg_tables.specs.Checks.{is_orphan}
use Rattle.vkg_tables.specs.Kept.{tables_seen}
use Rattle.vkg_tables.proofs.Places.{least_place-first}
use Rattle.vkg_tables.proofs.checks.reference_place.Goals as goal

pub loop-k-init : goal.loop-k-init
loop-k-init c = rw c.as_slice-reference-items.ensures
    (least_place-first (λ reference before row. is_orphan reference.pairs (rows_of (tables_seen c.args.texts.now c.args.tables.now) reference.table) row) c.args.table.now.references c.args.rows.now)
