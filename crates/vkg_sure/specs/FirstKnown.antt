-- The rule: the members of a COALESCE that are never its value go: all where the first is never NULL, else one at a time.
use Rattle.std.specs.Prelude.{Bool, false, ◌&&◌, ◌||◌, not, List, [], ◌∷◌, ◌++◌, Option, Some, None, option_map, if◌then◌else◌}
use Rattle.std.specs.List.{list_any}
use Rattle.std.specs.Option.{option_or}
use Rattle.vkg_lists.specs.Lists.{is_empty}
use Rattle.vkg_schema.specs.Rows.{is_null}
use Rattle.vkg_expr.specs.Expr.{Expr, Exprs, Const, Coalesce, Nil, More, each, exprs}
use Rattle.vkg_expr.specs.Typing.{is_column}
use Rattle.vkg_rules.specs.Steps.{Rule}
use Rattle.vkg_same.specs.SameExpr.{same_expr}
use Rattle.vkg_conditions.specs.Conditions.{if_so}
use Rattle.vkg_nulls.specs.SimplifyNull.{changed_by}
use Rattle.vkg_equalities.specs.Decided.{makes_term}
use Rattle.vkg_sure.specs.NeverNull.{is_known, own_never_null}

abbrev pub is_null_constant : Expr → Bool
is_null_constant (Const c k) = is_null c
is_null_constant e = false

-- SQL-92, 6.9, COALESCE: its value is the first that is not NULL. So it is never that of NULL itself, or of a member that stands before
abbrev pub adds_nothing : List Expr → Expr → Bool
adds_nothing before e = is_null_constant e || list_any (same_expr e) before

-- nor that of one behind a member that is never NULL
abbrev pub fewer : List Bool → List Expr → List Expr → Option (List Expr)
fewer flags before [] = None
fewer flags before (e ∷ es) =
    if adds_nothing before e then Some es
    else (if is_known flags e && not (is_empty es) then Some (e ∷ []) else option_map (λ ds. e ∷ ds) (fewer flags (before ++ e ∷ []) es))

-- the list of the members before one, the one and those behind it, if one goes for that one's sake
abbrev pub fewer_at : List Bool → List Expr → Expr → List Expr → Option (List Expr)
fewer_at flags before e behind = if adds_nothing before e then Some (before ++ behind) else (if is_known flags e && not (is_empty behind) then Some (before ++ e ∷ []) else None)

-- what an expression is that is never NULL: itself, or, of a COALESCE, what its first member is
abbrev mutual
  pub first_value : List Bool → Expr → Option Expr
  first_value flags (Coalesce es) = of_first flags es
  first_value flags e = if_so (is_known flags e) e

  pub of_first : List Bool → Exprs → Option Expr
  of_first flags Nil = None
  of_first flags (More e es) = first_value flags e

abbrev pub first_alone : List Bool → List Expr → Option (List Expr)
first_alone flags [] = None
first_alone flags (e ∷ es) = option_map (λ d. d ∷ []) (first_value flags e)

-- the first value alone, where the first member has one, or else fewer members
abbrev pub shorter : List Bool → List Expr → Option (List Expr)
shorter flags es = option_or (first_alone flags es) (fewer flags [] es)

-- the COALESCE of some. Of one it is that one; but a column may be a text, and the parts of a CONCAT are no columns, so a column stays in it
-- where it is not said that they are terms
abbrev pub coalesce_of : Bool → List Expr → Expr
coalesce_of terms (e ∷ []) = if terms || not (is_column e) then e else Coalesce (exprs (e ∷ []))
coalesce_of terms es = Coalesce (exprs es)

-- the members are of one kind, so where one makes a term each is one
abbrev pub of_members : List Bool → List Expr → Option Expr
of_members flags [] = None
of_members flags (e ∷ []) = if_so (not (is_column e)) e
of_members flags (e ∷ f ∷ es) = option_map (coalesce_of (list_any makes_term (e ∷ f ∷ es))) (shorter flags (e ∷ f ∷ es))

abbrev pub first_known_of : List Bool → Expr → Option Expr
first_known_of flags (Coalesce es) = of_members flags (each es)
first_known_of flags e = None

-- at the first such COALESCE in the plan's own expressions
unfoldable pub first_known : Rule
first_known schema p = changed_by (first_known_of (own_never_null schema p)) p
