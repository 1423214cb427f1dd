use Rattle.vkg_fine_rules.proofs.FineRows.{has_fine_rows}
use Rattle.vkg_fine_rules.proofs.laws.fine_rows.Goals as goal

pub returns : goal.returns
returns c = λ schema mapping db. has_fine_rows schema mapping db
