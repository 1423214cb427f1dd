use Rattle.std.proofs.Common.{ap}
use Rattle.vkg_laws.proofs.RemoveDots.{dot_segments_removed}
use Rattle.vkg_laws.proofs.dot_segments.dot_segments_are_removed.Goals as goal

pub returns-clause-ends : goal.returns-clause-ends
returns-clause-ends c = λ path. ap (λ b. b.input) (dot_segments_removed path)

pub returns-clause-value : goal.returns-clause-value
returns-clause-value c = λ path. ap (λ b. b.output) (dot_segments_removed path)
