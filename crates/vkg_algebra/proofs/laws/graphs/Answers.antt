use Rattle.vkg_algebra.proofs.Graphs.{is_graph}
use Rattle.vkg_algebra.proofs.laws.graphs.Goals as goal

pub returns : goal.returns
returns c = λ template vs ss. is_graph template vs ss
