-- A left join to a table by exactly a foreign key of its left side that has no NULL: it is a join.
use Rattle.std.specs.Prelude.{ℕ, ◌+◌, Bool, ◌&&◌, List, [], ◌∷◌, length, Option, None, nat_eq}
use Rattle.std.specs.Bool.{then_some}
use Rattle.std.specs.List.{list_all, list_any}
use Rattle.vkg_expr.specs.Expr.{Expr}
use Rattle.vkg_expr.specs.Logic.{conjuncts}
use Rattle.vkg_schema.specs.declared.table.Reference.{Reference}
use Rattle.vkg_schema.specs.Meets.{child_columns}
use Rattle.vkg_plan.specs.Kinds.{Tables, width}
use Rattle.vkg_plan.specs.Plan.{Plan, Scan, Join, Left, plans}
use Rattle.vkg_rules.specs.declared.rewrite.Fell.TheVariants as fell
use Rattle.vkg_rules.specs.Steps.{Rule, Step}
use Rattle.vkg_keys.specs.Ties.{ties}
use Rattle.vkg_key_lefts.specs.declared.standing.StandingScan.{StandingScan}
use Rattle.vkg_key_lefts.specs.Standing.{standing}
use Rattle.vkg_key_lefts.specs.Tables.{are_full, references_of}

-- SQL-92, 8.2: it says that the columns of one of the pairs are equal, the one behind n columns and the other behind m
abbrev pub ties_pair : ℕ → ℕ → List (ℕ × ℕ) → Expr → Bool
ties_pair n m pairs c = list_any (λ p. ties (n + p.0) (m + p.1) c) pairs

-- The foreign key is to this table, whose columns stand behind n others. No column of it is NULL, and it is all that the condition asks for.
abbrev pub is_reference : Tables → ℕ → ℕ → Expr → StandingScan → Reference → Bool
is_reference schema table n c x reference =
    nat_eq reference.table table && (are_full schema x.table (child_columns reference) && list_all (ties_pair (length x.before) n reference.pairs) (conjuncts c))

-- a Scan that stands in the plan has such a foreign key
abbrev pub refers : Tables → Plan → ℕ → Expr → Bool
refers schema p table c = list_any (λ x. list_any (is_reference schema table (width schema p) c x) (references_of schema x.table)) (standing schema [] p)

-- SQL:1999, 11.8, MATCH SIMPLE, and SQL-92, 7.5: each left row has a row that it refers to, so none is filled up with NULLs
abbrev pub with_right : Tables → Plan → Expr → Plan → Option Step
with_right schema p c (Scan table) = then_some (refers schema p table c) (Join (plans (p ∷ Scan table ∷ [])) c, fell.Weight)
with_right schema p c q = None

abbrev pub reference_left : Rule
reference_left schema (Left p q c) = with_right schema p c q
reference_left schema p = None
