use Rattle.vkg_algebra.proofs.InstanceLemmas.{has_instances}
use Rattle.vkg_algebra.proofs.laws.basic_graph_patterns.Goals as goal

pub returns : goal.returns
returns c = λ n ps d g h. has_instances n ps d g h
