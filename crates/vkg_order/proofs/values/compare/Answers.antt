use Rattle.vkg_order.proofs.ByOperator.{by-operator}
use Rattle.vkg_order.proofs.Totals.{value-total}
use Rattle.vkg_order.proofs.values.compare.Goals as goal

pub returns-clause-total : goal.returns-clause-total
returns-clause-total c = value-total

pub returns-clause-operator : goal.returns-clause-operator
returns-clause-operator c = by-operator
