-- Plans that have no row in common, by the verdict on two of their terms.
use Rattle.std.specs.Prelude.{Bool, false, not, ◌&&◌, ◌||◌, ◌++◌, List, [], ◌∷◌, length}
use Rattle.std.specs.Option.{option_map_or}
use Rattle.vkg_cells.specs.declared.cell.Cell.TheVariants as cell
use Rattle.vkg_expr.specs.Expr.{Expr, Const, Same}
use Rattle.vkg_expr.specs.Strict.{put}
use Rattle.vkg_columns.specs.Columns.{at_place, columns_from}
use Rattle.vkg_plan.specs.Kinds.{Kinds, Tables}
use Rattle.vkg_plan.specs.Plan.{Plan, Project}
use Rattle.vkg_rules.specs.Measure.{kinds_or_none}
use Rattle.vkg_equalities.specs.Decided.{decided}
use Rattle.vkg_equalities.specs.TableColumns.{flag_at, table_columns}
use Rattle.vkg_unique.specs.Sure.{is_sure, sure_columns}

-- the constant false
abbrev pub is_false : Expr → Bool
is_false (Const (cell.Bool b) k) = not b
is_false e = false

-- the verdict on the equality of the two is never
abbrev pub is_never : List Bool → Kinds → Expr → Expr → Bool
is_never tables ks e f = option_map_or is_false (decided (flag_at tables) ks (Same e f)) false

-- over one row the two have never one value: the verdict is never, and they are not both NULL
abbrev pub differ : List Bool → List Bool → Kinds → Expr → Expr → Bool
differ tables sure ks e f = (is_sure sure e || is_sure sure f) && is_never tables ks e f

-- at one place the two lists pass
abbrev pub any_pair : (Expr → Expr → Bool) → List Expr → List Expr → Bool
any_pair test [] fs = false
any_pair test (e ∷ es) [] = false
any_pair test (e ∷ es) (f ∷ fs) = test e f || any_pair test es fs

-- so it is for two lists, the second's expressions with others in the place of their columns
unfoldable pub lists_differ : List Bool → List Bool → Kinds → List Expr → List Expr → List Expr → Bool
lists_differ tables sure ks by es fs = any_pair (λ e f. differ tables sure ks e (put (at_place by) f)) es fs

-- R2RML, 7.3 and 11.2, and SQL-92, 7.10: two projections that make terms at one place that are never the same, where the columns of the
-- second plan stand behind those of the first
abbrev pub are_apart : Tables → Plan → Plan → Bool
are_apart schema (Project es p) (Project fs q) =
    lists_differ (table_columns schema p ++ table_columns schema q) (sure_columns schema p ++ sure_columns schema q) (kinds_or_none schema p ++ kinds_or_none schema q)
    (columns_from (length (kinds_or_none schema p)) (length (kinds_or_none schema q))) es fs
are_apart schema p q = false
