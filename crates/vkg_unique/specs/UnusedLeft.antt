-- A left join to at most one row of a table, of which nothing is used, goes.
use Rattle.std.specs.Prelude.{ℕ, Bool, ◌&&◌, List, [], None, Option, nat_lt, slice_get}
use Rattle.std.specs.Bool.{then_some}
use Rattle.std.specs.List.{list_all, list_any}
use Rattle.std.specs.Option.{option_map_or}
use Rattle.vkg_schema.specs.declared.table.Key.{Key}
use Rattle.vkg_expr.specs.Expr.{Expr}
use Rattle.vkg_expr.specs.Strict.{columns}
use Rattle.vkg_plan.specs.Kinds.{Tables, width}
use Rattle.vkg_plan.specs.Plan.{Plan, Scan, Project, Left}
use Rattle.vkg_rules.specs.declared.rewrite.Fell.TheVariants as fell
use Rattle.vkg_rules.specs.Steps.{Rule, Step}
use Rattle.vkg_keys.specs.Ties.{all_valued}

-- each column that it names is one of the first n
unfoldable pub is_over_first : ℕ → Expr → Bool
is_over_first n e = list_all (λ at. nat_lt at n) (columns e)

-- the condition says that each column of one of the keys, counted from n on, is equal to an expression over the first n columns
unfoldable pub ties_key : ℕ → Expr → List Key → Bool
ties_key n c keys = list_any (λ k. all_valued (is_over_first n) c n k.columns) keys

-- the keys of a table, and none where the schema does not have it
abbrev pub keys_of : Tables → ℕ → List Key
keys_of schema table = option_map_or (λ t. t.keys) (slice_get schema table) []

-- the projection over the left side alone
abbrev pub without_right : Tables → List Expr → Plan → Expr → Plan → Option Step
without_right schema es p c (Scan table) =
    then_some (ties_key (width schema p) c (keys_of schema table) && list_all (is_over_first (width schema p)) es) (Project es p, fell.Weight)
without_right schema es p c q = None

abbrev pub over_left : Tables → List Expr → Plan → Option Step
over_left schema es (Left p q c) = without_right schema es p c q
over_left schema es p = None

-- SQL-92, 4.10.2 and 7.5: each left row has at most one partner, so it makes one row
abbrev pub unused_left : Rule
unused_left schema (Project es p) = over_left schema es p
unused_left schema p = None
