use Rattle.vkg_terms.specs.DotSegments.{piece_text}
use Rattle.vkg_terms.proofs.DotSegmentsLemmas.{popped}
use Rattle.vkg_terms.proofs.dot_segments.drop_last.Goals as goal

pub returns : goal.returns
returns c = popped piece_text _ _ _ _ _ _ c.pop.ensures.items c.pop.ensures.cases c.pop.ensures.rest
