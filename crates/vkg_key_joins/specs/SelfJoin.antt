-- A table twice in a join, where rows of the two Scans agree on a key: the second Scan goes, and its columns are named in the first.
use Rattle.std.specs.Prelude.{ℕ, Bool, not, ◌&&◌, List, length, Option, None, nat_eq, nat_le}
use Rattle.std.specs.Bool.{then_some}
use Rattle.std.specs.List.{list_any}
use Rattle.vkg_columns.specs.Columns.{at_place, columns_from}
use Rattle.vkg_expr.specs.Expr.{Expr}
use Rattle.vkg_expr.specs.Strict.{put}
use Rattle.vkg_plan.specs.Kinds.{Tables, width}
use Rattle.vkg_plan.specs.Plan.{Plan, Scan, Project, Join, each, plans}
use Rattle.vkg_rules.specs.declared.rewrite.Fell.TheVariants as fell
use Rattle.vkg_rules.specs.Steps.{Rule, Step}
use Rattle.vkg_shapes.specs.Without.{without_at}
use Rattle.vkg_keys.specs.Keys.{with_itself}
use Rattle.vkg_keys.specs.Members.{Place, first_two, others, renamed, widths}
use Rattle.vkg_keys.specs.Ties.{all_tied}
use Rattle.vkg_key_joins.specs.Tables.{keys_of}

-- the first stands before the second
abbrev pub stands_before : Place → Place → Bool
stands_before x y = not (nat_le (length y.before) (length x.before))

-- the condition ties each column of a key of the table, behind n columns, to the same column behind m
abbrev pub ties_key : Tables → ℕ → Expr → ℕ → ℕ → Bool
ties_key schema table c n m = list_any (λ key. all_tied c n m (with_itself key.columns)) (keys_of schema table)

-- one table at two places, the first of which stands before the second
abbrev pub is_twice : Place → Place → Bool
is_twice x y = stands_before x y && nat_eq x.table y.table

-- rows of the two are to agree on a key
abbrev pub is_again : Tables → Expr → Place → Place → Bool
is_again schema c x y = is_twice x y && ties_key schema x.table c (widths schema x.before) (widths schema y.before)

-- the columns of all members, those of the second Scan named in the first
abbrev pub named_in_first : Tables → Place → Place → List Expr
named_in_first schema x y = renamed (widths schema y.before) (columns_from (widths schema x.before) (width schema (Scan x.table))) (widths schema y.after)

-- a Join, its condition too, over these expressions for the columns that there were
abbrev pub over_others : List Expr → List Plan → Expr → Step
over_others names ps c = (Project names (Join (plans ps) (put (at_place names) c)), fell.Weight)

-- SQL-92, 4.10.2: rows of a table that agree on a key are one row. What the condition says of the key stays, so that a row with NULL in it, which
-- agrees with none, is not kept.
abbrev pub self_joined : Tables → Expr → Place → Place → Option Step
self_joined schema c x y = then_some (is_again schema c x y) (over_others (named_in_first schema x y) (others y) c)

abbrev pub self_join : Rule
self_join schema (Join ps c) = first_two (self_joined schema c) (each ps)
self_join schema p = None

-- The expressions above a Join, and put into its condition, without the member at a place. Other plans, which have no member, stay.
abbrev pub over_rest : List Expr → ℕ → Plan → Plan
over_rest names at (Join ps c) = Project names (Join (without_at at ps) (put (at_place names) c))
over_rest names at p = p
