use Rattle.vkg_algebra.proofs.CardLemmas.{has_cardinality}
use Rattle.vkg_algebra.proofs.MapLemmas.{is_left_join}
use Rattle.vkg_algebra.proofs.laws.left_joins.Goals as goal

pub returns-clause-members : goal.returns-clause-members
returns-clause-members c = λ holds ls rs. is_left_join holds ls rs

pub returns-clause-bag : goal.returns-clause-bag
returns-clause-bag c = λ holds ls rs m. has_cardinality holds ls rs m
