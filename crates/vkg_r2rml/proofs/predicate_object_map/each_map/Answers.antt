use Rattle.vkg_r2rml.specs.TriplesMap.{predicate_object_map}
use Rattle.vkg_r2rml.proofs.GatheredLemmas.{all_read}
use Rattle.vkg_r2rml.proofs.predicate_object_map.each_map.Goals as goal

pub returns : goal.returns
returns c = all_read (predicate_object_map c.args.graph.now c.args.schema.now c.args.base.now c.args.maps.now c.args.table) _ _ _ c.loop-node-test.false (c.all.ensures _ c.loop-node.invariant)
