use Rattle.vkg_row_rules.proofs.Bridge.{gives_dataset}
use Rattle.vkg_row_rules.proofs.laws.datasets.Goals as goal

pub returns : goal.returns
returns c = λ schema mapping db. gives_dataset schema mapping db
