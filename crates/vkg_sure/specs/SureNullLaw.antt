-- The laws of the rule: the plan's columns and rows stay, and the size of its expressions falls.
use Rattle.std.proofs.Common.{◌≡◌, List, [], ◌∷◌, subst}
use Rattle.std.specs.Prelude.{Some}
use Rattle.std.specs.List.{AllByRecursion}
use Rattle.vkg_lists.proofs.Onto.{map_given}
use Rattle.vkg_schema.specs.Rows.{Row}
use Rattle.vkg_expr.specs.Laws.{FitsRow}
use Rattle.vkg_plan.specs.Kinds.{Tables}
use Rattle.vkg_plan.specs.Plan.{Plan}
use Rattle.vkg_rules.specs.InNodes.{IsLawful}
use Rattle.vkg_rules.specs.Steps.{FallsAll, IsTyped, KeepsAll, Step}
use Rattle.vkg_conditions.specs.Cases.{smaller}
use Rattle.vkg_conditions.specs.NodesLaw.{AreOwn, own-fit, own_rows}
use Rattle.vkg_conditions.specs.SimplifyCondition.{in_own}
use Rattle.vkg_conditions.specs.SimplifyConditionLaw.{own-lawful}
use Rattle.vkg_nulls.specs.KnownColumnsLaw.{HasKnown}
use Rattle.vkg_nulls.specs.NullTests.{known_column}
use Rattle.vkg_nulls.specs.NullTestsLaw.{Known, known-good}
use Rattle.vkg_sure.specs.NeverNull.{own_never_null}
use Rattle.vkg_sure.specs.NeverNullLaw.{own-never}
use Rattle.vkg_sure.specs.SureNull.{sure_null}

both-hold : (P Q : Row → Type 0) (rows : List Row) → AllByRecursion P rows → AllByRecursion Q rows → AllByRecursion (λ row. P row × Q row) rows
both-hold P Q [] h k = tt
both-hold P Q (row ∷ rows) h k = ((h.0, k.0), both-hold P Q rows h.1 k.1)

-- the rows over which a plan's own expressions are taken are of their columns' kinds, and not NULL in those columns
pub own-known : (s : Tables) (p : Plan) → AreOwn (Known (own_never_null s p)) s p
own-known s p ks e db m = both-hold (FitsRow ks) (HasKnown (own_never_null s p)) (own_rows s p db) (own-fit s p ks e db m) (own-never s db m p ks e)

lawful : (s : Tables) (p : Plan) (x : Step) → IsTyped s p → sure_null s p ≡ Some x → IsLawful s p x
unfolding sure_null
lawful s p x t h =
    let flags = own_never_null s p in
    let m = map_given smaller (in_own (known_column flags) p) x h in
    subst (IsLawful s p) m.2 (own-lawful (Known flags) (known_column flags) (known-good flags) s p m.0 (own-known s p) t m.1)

pub sure_null-keeps : KeepsAll sure_null
sure_null-keeps s form p x t h = let l = lawful s p x t h in record { kinds = l.kinds; rows = l.rows }

pub sure_null-falls : FallsAll sure_null
sure_null-falls s form p x t h = (lawful s p x t h).falls
