-- The first of some cases that applies.
use Rattle.std.proofs.Common.{◌≡◌, ℕ, List, drop, Option, Some, None, refl}
use Rattle.std.specs.Prelude.{option_map}
use Rattle.std.specs.Option.{option_or}
use Rattle.vkg_plan.specs.Plan.{Plan}
use Rattle.vkg_conditions.specs.declared.cases.Case.{Case}
use Rattle.vkg_conditions.specs.Cases.{first_case, smaller}

-- no case before i applies
abbrev pub Tried : Plan → List Case → ℕ → Type 0
Tried p cases i = first_case cases p ≡ first_case (drop i cases) p

pub first_does_not : (own rest : Option Plan) → None ≡ option_map smaller own → option_or own rest ≡ rest
first_does_not None rest h = refl
first_does_not (Some q) rest h = cc
