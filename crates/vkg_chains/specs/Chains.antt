-- The steps from a plan to one where a rule gives none.
use Rattle.std.specs.Prelude.{◌≡◌, [], Option, Some, None}
use Rattle.vkg_plan.specs.Plan.{Plan}
use Rattle.vkg_rules.specs.Steps.{Step}
use Rattle.vkg_chains.specs.Fix.{Run, more}

pub data Chain (r : Plan → Option Step) : Plan → Run → Type 0 where
  ended : (p : Plan) → r p ≡ None → Chain r p ([], p)
  after : (p : Plan) (x : Step) (y : Run) → r p ≡ Some x → Chain r x.0 y → Chain r p (more x.1 y)
