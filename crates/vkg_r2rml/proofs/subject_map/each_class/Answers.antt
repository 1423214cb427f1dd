use Rattle.vkg_r2rml.specs.TriplesMap.{class}
use Rattle.vkg_r2rml.proofs.GatheredLemmas.{all_read}
use Rattle.vkg_r2rml.proofs.subject_map.each_class.Goals as goal

pub returns : goal.returns
returns c = all_read class _ _ _ c.loop-class-test.false (c.all.ensures _ c.loop-class.invariant)
