-- A left join to a table that stands in its left side already, by a key, that asks for nothing but columns that are not NULL: it goes,
-- and the columns of the right are named in the left.
use Rattle.std.specs.Prelude.{ℕ, ◌-◌, Bool, false, ◌&&◌, ◌||◌, List, [], length, map, Option, None, nat_eq, nat_le, nat_lt}
use Rattle.std.specs.Bool.{then_some}
use Rattle.std.specs.List.{list_all, list_any}
use Rattle.vkg_columns.specs.Columns.{at_place, columns_from}
use Rattle.vkg_expr.specs.Expr.{Expr, Col, IsNull, Not, Same}
use Rattle.vkg_expr.specs.Logic.{conjuncts}
use Rattle.vkg_expr.specs.Strict.{columns, is_strict, put}
use Rattle.vkg_plan.specs.Kinds.{Tables, width}
use Rattle.vkg_plan.specs.Plan.{Plan, Scan, Project, Left}
use Rattle.vkg_rules.specs.declared.rewrite.Fell.TheVariants as fell
use Rattle.vkg_rules.specs.Steps.{Rule, Step}
use Rattle.vkg_keys.specs.Keys.{with_itself}
use Rattle.vkg_keys.specs.Members.{first_made, renamed}
use Rattle.vkg_keys.specs.Ties.{all_tied, is_column}
use Rattle.vkg_key_lefts.specs.declared.standing.StandingScan.{StandingScan}
use Rattle.vkg_key_lefts.specs.Standing.{standing}
use Rattle.vkg_key_lefts.specs.Tables.{is_full_at, keys_of}

-- ---- conditions that ask for columns that are not NULL, and for nothing else

-- the column is one of these, or the Scan's own and without NULL
abbrev pub is_known : Tables → StandingScan → List ℕ → ℕ → Bool
is_known schema x names at = list_any (nat_eq at) names || (nat_le (length x.before) at && is_full_at schema x.table (at - length x.before))

-- SQL-92, 8.2: a column is equal to itself where it is not NULL
abbrev pub is_itself : (ℕ → Bool) → Expr → Expr → Bool
is_itself known (Col at) e = is_column at e && known at
is_itself known d e = false

-- SQL-92, 8.6
abbrev pub tests_known : (ℕ → Bool) → Expr → Bool
tests_known known (IsNull e) = is_strict e && list_all known (columns e)
tests_known known e = false

-- it is true on a row without NULL in the known columns
abbrev pub says_known : (ℕ → Bool) → Expr → Bool
says_known known (Same d e) = is_itself known d e
says_known known (Not e) = tests_known known e
says_known known c = false

-- ---- what is used of the right side

-- each column that it names is one of the first n
unfoldable pub is_left : ℕ → Expr → Bool
is_left n e = list_all (λ at. nat_lt at n) (columns e)

-- an expression over the left is NULL on each row where the condition over the left is not true
unfoldable pub is_null_unless : Tables → StandingScan → Expr → Expr → Bool
is_null_unless schema x c e = is_strict e && list_all (says_known (is_known schema x (columns e))) (conjuncts c)

-- it names left columns alone, or, with the columns named in the left, it is NULL where the condition is not true, as it is without a partner
abbrev pub is_kept : Tables → StandingScan → List Expr → ℕ → Expr → Expr → Bool
is_kept schema x names n c e = is_left n e || is_null_unless schema x (put (at_place names) c) (put (at_place names) e)

-- ---- the rule

-- n left columns, and behind them those of the table as they stand on the left
abbrev pub named_left : Tables → ℕ → StandingScan → List Expr
named_left schema n x = renamed n (columns_from (length x.before) (width schema (Scan x.table))) 0

-- the condition ties a key of the table
abbrev pub ties_key : Tables → ℕ → Expr → StandingScan → Bool
ties_key schema n c x = list_any (λ key. all_tied c (length x.before) n (with_itself key.columns)) (keys_of schema x.table)

abbrev pub is_again : Tables → List Expr → ℕ → ℕ → Expr → StandingScan → Bool
is_again schema es n table c x = nat_eq x.table table && (ties_key schema n c x && list_all (is_kept schema x (named_left schema n x) n c) es)

-- SQL-92, 4.10.2 and 7.5: rows of a table that agree on a key are one row, so a left row has itself as its partner, or none
abbrev pub without_again : Tables → List Expr → Plan → ℕ → Expr → StandingScan → Option Step
without_again schema es p table c x =
    then_some (is_again schema es (width schema p) table c x) (Project (map (put (at_place (named_left schema (width schema p) x))) es) p, fell.Weight)

abbrev pub with_right : Tables → List Expr → Plan → Expr → Plan → Option Step
with_right schema es p c (Scan table) = first_made (without_again schema es p table c) (standing schema [] p)
with_right schema es p c q = None

abbrev pub over_left : Tables → List Expr → Plan → Option Step
over_left schema es (Left p q c) = with_right schema es p c q
over_left schema es p = None

abbrev pub self_left : Rule
self_left schema (Project es p) = over_left schema es p
self_left schema p = None
