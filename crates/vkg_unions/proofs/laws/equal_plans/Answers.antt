use Rattle.vkg_unions.specs.SamePlanLaw.{plans_apart}
use Rattle.vkg_unions.proofs.laws.equal_plans.Goals as goal

pub returns : goal.returns
returns c = λ p q. plans_apart.decides p q
