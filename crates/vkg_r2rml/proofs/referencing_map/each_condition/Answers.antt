use Rattle.vkg_r2rml.specs.ReferencingMap.{condition}
use Rattle.vkg_r2rml.proofs.GatheredLemmas.{all_read}
use Rattle.vkg_r2rml.proofs.referencing_map.each_condition.Goals as goal

pub returns : goal.returns
returns c = all_read (condition c.args.graph.now c.args.schema.now c.args.table c.args.parent) _ _ _ c.loop-node-test.false (c.all.ensures _ c.loop-node.invariant)
