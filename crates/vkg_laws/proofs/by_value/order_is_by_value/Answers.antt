use Rattle.vkg_laws.proofs.ByValue.{by-value}
use Rattle.vkg_laws.proofs.by_value.order_is_by_value.Goals as goal

pub returns : goal.returns
returns c = by-value
