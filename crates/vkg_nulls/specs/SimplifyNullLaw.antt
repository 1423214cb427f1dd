-- The laws of the rule: the plan's columns and rows stay, and the size of its expressions falls.
use Rattle.std.proofs.Common.{◌≡◌, inl, inr, List, [], ◌∷◌, subst}
use Rattle.std.specs.Prelude.{Option, Some}
use Rattle.std.specs.List.{AllByRecursion}
use Rattle.vkg_lists.proofs.Onto.{map_given}
use Rattle.vkg_schema.specs.Rows.{Row}
use Rattle.vkg_expr.specs.Expr.{Expr}
use Rattle.vkg_expr.specs.Laws.{FitsRow}
use Rattle.vkg_plan.specs.Kinds.{Kinds, Tables}
use Rattle.vkg_plan.specs.Plan.{Plan}
use Rattle.vkg_rules.specs.InNodes.{IsLawful}
use Rattle.vkg_rules.specs.Steps.{FallsAll, IsTyped, KeepsAll, Step}
use Rattle.vkg_conditions.specs.Cases.{smaller}
use Rattle.vkg_conditions.specs.FirstPlace.{or_cases}
use Rattle.vkg_conditions.specs.NodesLaw.{AreOwn, own-fit, own_rows}
use Rattle.vkg_conditions.specs.SimplifyCondition.{in_own}
use Rattle.vkg_conditions.specs.SimplifyConditionLaw.{IsGoodOn, own-lawful}
use Rattle.vkg_nulls.specs.KnownColumns.{own_known}
use Rattle.vkg_nulls.specs.KnownColumnsLaw.{HasKnown, own-known}
use Rattle.vkg_nulls.specs.NullTests.{known_column, of_constant, of_strict}
use Rattle.vkg_nulls.specs.NullTestsLaw.{Known, constant-good, known-good, strict-good}
use Rattle.vkg_nulls.specs.SimplifyNull.{changed_by, simplify_null}

both-hold : (P Q : Row → Type 0) (rows : List Row) → AllByRecursion P rows → AllByRecursion Q rows → AllByRecursion (λ row. P row × Q row) rows
both-hold P Q [] h k = tt
both-hold P Q (row ∷ rows) h k = ((h.0, k.0), both-hold P Q rows h.1 k.1)

own-both : (s : Tables) (p : Plan) → AreOwn (Known (own_known s p)) s p
own-both s p ks e db m = both-hold (FitsRow ks) (HasKnown (own_known s p)) (own_rows s p db) (own-fit s p ks e db m) (own-known s db m p ks e)

changed-lawful : (On : Kinds → Row → Type 0) (f : Expr → Option Expr) → IsGoodOn On f → (s : Tables) (p : Plan) (x : Step) → AreOwn On s p → IsTyped s p → changed_by f p ≡ Some x → IsLawful s p x
changed-lawful On f good s p x own t h = let m = map_given smaller (in_own f p) x h in subst (IsLawful s p) m.2 (own-lawful On f good s p m.0 own t m.1)

lawful : (s : Tables) (p : Plan) (x : Step) → IsTyped s p → simplify_null s p ≡ Some x → IsLawful s p x
unfolding simplify_null
lawful s p x t h = elim (or_cases (changed_by (known_column (own_known s p)) p) _ x h) [
  | inl i ↦ changed-lawful (Known (own_known s p)) (known_column (own_known s p)) (known-good (own_known s p)) s p x (own-both s p) t i
  | inr a ↦ elim (or_cases (changed_by of_constant p) _ x a) [
    | inl i ↦ changed-lawful FitsRow of_constant constant-good s p x (own-fit s p) t i
    | inr i ↦ changed-lawful FitsRow of_strict strict-good s p x (own-fit s p) t i
  ]
]

pub simplify_null-keeps : KeepsAll simplify_null
simplify_null-keeps s form p x t h = let l = lawful s p x t h in record { kinds = l.kinds; rows = l.rows }

pub simplify_null-falls : FallsAll simplify_null
simplify_null-falls s form p x t h = (lawful s p x t h).falls
