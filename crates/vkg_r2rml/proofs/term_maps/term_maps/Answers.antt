use Rattle.vkg_r2rml.specs.TriplesMap.{term_map}
use Rattle.vkg_r2rml.proofs.GatheredLemmas.{all_read}
use Rattle.vkg_r2rml.proofs.term_maps.term_maps.Goals as goal

pub returns : goal.returns
returns c = all_read (term_map c.args.graph.now c.args.columns.now c.args.base.now c.args.role) _ _ _ c.loop-place-test.false (c.all.ensures _ c.loop-place.invariant)
