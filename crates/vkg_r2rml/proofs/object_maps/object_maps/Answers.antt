use Rattle.vkg_r2rml.specs.TriplesMap.{object_map}
use Rattle.vkg_r2rml.proofs.GatheredLemmas.{all_read}
use Rattle.vkg_r2rml.proofs.object_maps.object_maps.Goals as goal

pub returns : goal.returns
returns c = all_read (object_map c.args.graph.now c.args.schema.now c.args.base.now c.args.maps.now c.args.table) _ _ _ c.loop-place-test.false (c.all.ensures _ c.loop-place.invariant)
