use Rattle.vkg_terms.proofs.DotSegmentsLemmas.{kept_step}
use Rattle.vkg_terms.proofs.dot_segments.without_dots.Goals as goal

pub loop-i-preserved-then-started : goal.loop-i-preserved-then-started
loop-i-preserved-then-started c = (
  kept_step c.loop-i.started _ _ c.args.segments.now c.loop-i.i _ _ c.if-started.true c.loop-i-test.true c.loop-i.invariant.0 c.in_ok-push_segment.ensures,
  λ f. cc (c.if-started.true),
)
