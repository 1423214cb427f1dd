use Rattle.vkg_r2rml.specs.ReferencingMap.{column_if_known}
use Rattle.vkg_r2rml.proofs.GatheredLemmas.{all_read}
use Rattle.vkg_r2rml.proofs.referencing_map.each_column.Goals as goal

pub returns : goal.returns
returns c = all_read (column_if_known c.args.schema.now c.args.table) _ _ _ c.loop-value-test.false (c.all.ensures _ c.loop-value.invariant)
