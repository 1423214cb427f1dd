-- A left join whose right side is a join with a table that stands in the left side already, by a key: that member goes, and its columns are
-- named in the left.
use Rattle.std.specs.Prelude.{ℕ, ◌+◌, ◌-◌, Bool, true, not, ◌&&◌, ◌||◌, List, [], drop, length, map, Option, None, nat_eq, nat_le, nat_lt}
use Rattle.std.specs.Bool.{then_some}
use Rattle.std.specs.List.{list_all, list_any}
use Rattle.vkg_columns.specs.Columns.{at_place, columns_from}
use Rattle.vkg_expr.specs.Expr.{Expr}
use Rattle.vkg_expr.specs.Logic.{and_then, truth_const}
use Rattle.vkg_expr.specs.Strict.{columns, is_strict, put}
use Rattle.vkg_plan.specs.Kinds.{Tables, width}
use Rattle.vkg_plan.specs.Plan.{Plan, Scan, Project, Join, Left, each, plans}
use Rattle.vkg_rules.specs.declared.rewrite.Fell.TheVariants as fell
use Rattle.vkg_rules.specs.Steps.{Rule, Step}
use Rattle.vkg_keys.specs.Members.{Place, first_made, others, renamed, scans, widths}
use Rattle.vkg_key_lefts.specs.SelfLeft.{ties_key}
use Rattle.vkg_key_lefts.specs.declared.standing.StandingScan.{StandingScan}
use Rattle.vkg_key_lefts.specs.Standing.{standing}

-- ---- what is used of the member

-- the column is one of w behind m others
abbrev pub is_between : ℕ → ℕ → ℕ → Bool
is_between m w at = nat_le m at && nat_lt (at - m) w

-- an expression that is NULL where the columns behind the first n are: it is strict and names one of them
abbrev pub is_null_behind : ℕ → Expr → Bool
is_null_behind n e = is_strict e && list_any (nat_le n) (columns e)

-- it names no column of the member, or it is, with these named in the left, NULL where those of the right that stay are
abbrev pub is_kept : List Expr → ℕ → ℕ → ℕ → Expr → Bool
is_kept names n m w e = not (list_any (is_between m w) (columns e)) || is_null_behind n (put (at_place names) e)

-- ---- the rule

-- how many columns stand before those of the member
abbrev pub columns_before : Tables → Plan → Place → ℕ
columns_before schema p y = width schema p + widths schema y.before

-- the columns of both sides, those of the member as they stand on the left
abbrev pub named_left : Tables → Plan → Place → StandingScan → List Expr
named_left schema p y x = renamed (columns_before schema p y) (columns_from (length x.before) (width schema (Scan y.table))) (widths schema y.after)

-- the condition of the right side and that of the left join, over these for the columns of both sides, of which n are left
abbrev pub both_conditions : List Expr → ℕ → Expr → Expr → Expr
both_conditions names n d c = and_then (put (at_place (drop n names)) d) (put (at_place names) c)

-- there are other members, the condition ties a key of the table, and of the member's columns none is used as it was
abbrev pub is_again : Tables → List Expr → Plan → Expr → Place → StandingScan → Bool
is_again schema es p c y x =
    nat_eq x.table y.table
    && (nat_lt 0 (length (others y))
    && (ties_key schema (columns_before schema p y) c x
    && list_all (is_kept (named_left schema p y x) (width schema p) (columns_before schema p y) (width schema (Scan y.table))) es))

-- the left join with the other members, all of whose conditions have become its own
abbrev pub over_others : List Expr → List Expr → Plan → ℕ → List Plan → Expr → Expr → Step
over_others names es p n ps d c = (Project (map (put (at_place names)) es) (Left p (Join (plans ps) (truth_const true)) (both_conditions names n d c)), fell.Weight)

-- SQL-92, 4.10.2 and 7.5: of the rows of the member the one that stands in the left row alone can be part of its partners
abbrev pub without_again : Tables → List Expr → Plan → Expr → Expr → Place → StandingScan → Option Step
without_again schema es p d c y x = then_some (is_again schema es p c y x) (over_others (named_left schema p y x) es p (width schema p) (others y) d c)

abbrev pub with_right : Tables → List Expr → Plan → Expr → Plan → Option Step
with_right schema es p c (Join ps d) = first_made (λ y. first_made (without_again schema es p d c y) (standing schema [] p)) (scans [] (each ps))
with_right schema es p c q = None

abbrev pub over_left : Tables → List Expr → Plan → Option Step
over_left schema es (Left p q c) = with_right schema es p c q
over_left schema es p = None

abbrev pub self_left_member : Rule
self_left_member schema (Project es p) = over_left schema es p
self_left_member schema p = None
