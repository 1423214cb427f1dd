-- Its laws: no row of such a plan goes.
use Rattle.std.proofs.Common.{◌≡◌, Some, refl, subst, arith}
use Rattle.vkg_lists.proofs.Bags.{bag_same}
use Rattle.vkg_lists.proofs.Distinct.{distinct_itself}
use Rattle.vkg_lists.proofs.Results.{some_of, then_given}
use Rattle.vkg_schema.specs.Meets.{IsWellFormed}
use Rattle.vkg_plan.specs.Kinds.{Tables, plan_kinds}
use Rattle.vkg_plan.specs.Plan.{Plan, Distinct}
use Rattle.vkg_plan.specs.Rows.{one_row, rows_of}
use Rattle.vkg_rules.specs.declared.rewrite.Fell.TheVariants as fell
use Rattle.vkg_rules.specs.Steps.{Falls, FallsAll, IsTyped, Keeps, KeepsAll, Step}
use Rattle.vkg_unique.specs.DistinctUnique.{distinct_unique}
use Rattle.vkg_unique.specs.Unique.{is_unique}
use Rattle.vkg_unique.specs.UniqueLaw.{unique-rows}

distinct-keeps : (s : Tables) → IsWellFormed s → (p : Plan) (x : Step) → IsTyped s (Distinct p) → distinct_unique s (Distinct p) ≡ Some x → Keeps s (Distinct p) x.0
distinct-keeps s form p x t e =
    let w = then_given (is_unique s p) (p, fell.Weight) x e in
    let k = some_of (plan_kinds s p) t in
    subst (λ (z : Step). Keeps s (Distinct p) z.0) w.1
    (record { kinds = refl; rows = λ db m. bag_same (distinct_itself one_row (rows_of s p db) (unique-rows s db form m p k.0 k.1 w.0)) })

distinct-falls : (s : Tables) (p : Plan) (x : Step) → distinct_unique s (Distinct p) ≡ Some x → Falls s (Distinct p) x
distinct-falls s p x e = subst (Falls s (Distinct p)) (then_given (is_unique s p) (p, fell.Weight) x e).1 (omega arith)

pub distinct_unique-keeps : KeepsAll distinct_unique
distinct_unique-keeps s form (Distinct p) x t e = distinct-keeps s form p x t e
distinct_unique-keeps s form _ x t e = cc

pub distinct_unique-falls : FallsAll distinct_unique
distinct_unique-falls s form (Distinct p) x t e = distinct-falls s p x e
distinct_unique-falls s form _ x t e = cc
