use Rattle.vkg_lists.proofs.Results.{some_of}
use Rattle.vkg_plan.specs.Kinds.{plan_kinds}
use Rattle.vkg_unique.specs.UniqueLaw.{unique-rows}
use Rattle.vkg_unique.proofs.laws.unique_rows.Goals as goal

pub returns : goal.returns
returns c = λ schema form p t u db meets. let k = some_of (plan_kinds schema p) t in unique-rows schema db form meets p k.0 k.1 u
