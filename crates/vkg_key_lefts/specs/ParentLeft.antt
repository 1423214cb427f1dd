-- A left join to a table by a foreign key of its left side, that asks for nothing else and of which nothing is used but the columns of the foreign
-- key: it goes, and these are named in the left.
use Rattle.std.specs.Prelude.{ℕ, ◌+◌, ◌-◌, Bool, false, ◌&&◌, ◌||◌, List, [], length, map, Option, None, nat_eq, nat_le}
use Rattle.std.specs.Bool.{then_some}
use Rattle.std.specs.List.{list_all, list_any}
use Rattle.vkg_columns.specs.Columns.{at_place, columns_from}
use Rattle.vkg_expr.specs.Expr.{Expr, Not}
use Rattle.vkg_expr.specs.Logic.{conjuncts}
use Rattle.vkg_expr.specs.Strict.{columns, is_strict, put}
use Rattle.vkg_schema.specs.declared.table.Reference.{Reference}
use Rattle.vkg_schema.specs.Kinds.{columns_of}
use Rattle.vkg_plan.specs.Kinds.{Tables, width}
use Rattle.vkg_plan.specs.Plan.{Plan, Scan, Project, Left}
use Rattle.vkg_rules.specs.declared.rewrite.Fell.TheVariants as fell
use Rattle.vkg_rules.specs.Steps.{Rule, Step}
use Rattle.vkg_keys.specs.Keys.{is_of_one_kind}
use Rattle.vkg_keys.specs.Members.{first_made, renamed}
use Rattle.vkg_keys.specs.Ties.{all_tied}
use Rattle.vkg_key_joins.specs.ParentJoin.{all_tied_to, names_given}
use Rattle.vkg_key_lefts.specs.declared.standing.StandingScan.{StandingScan}
use Rattle.vkg_key_lefts.specs.ReferenceLeft.{ties_pair}
use Rattle.vkg_key_lefts.specs.SelfLeft.{is_left, tests_known}
use Rattle.vkg_key_lefts.specs.Standing.{standing}
use Rattle.vkg_key_lefts.specs.Tables.{is_full_at, references_of}

-- ---- what is used of the table

-- it is the column k behind n others
abbrev pub is_at : ℕ → ℕ → ℕ → Bool
is_at n k at = nat_le n at && nat_eq (at - n) k

-- the column k of the Scan is not NULL, or is one of these
abbrev pub is_known_child : Tables → StandingScan → List ℕ → ℕ → Bool
is_known_child schema x names k = is_full_at schema x.table k || list_any (is_at (length x.before) k) names

-- an expression over the left is NULL on each row with NULL in the foreign key
abbrev pub is_null_without : Tables → StandingScan → List (ℕ × ℕ) → Expr → Bool
is_null_without schema x pairs e = is_strict e && list_all (λ p. is_known_child schema x (columns e) p.0) pairs

-- It names left columns alone, or of the table's columns those alone that the foreign key refers to, and, with these named in the left, it is NULL
-- where the foreign key has NULL.
abbrev pub is_kept : Tables → StandingScan → List (ℕ × ℕ) → List Expr → ℕ → ℕ → Expr → Bool
is_kept schema x pairs names n w e = is_left n e || (names_given n w pairs e && is_null_without schema x pairs (put (at_place names) e))

-- ---- the rule

-- n left columns, and behind them those of the table as they are named in the Scan
abbrev pub named_left : Tables → ℕ → ℕ → StandingScan → List (ℕ × ℕ) → List Expr
named_left schema n table x pairs = renamed n (all_tied_to (columns_from (length x.before) (width schema (Scan x.table))) pairs 0 (width schema (Scan table))) 0

-- the column is one of the foreign key, behind n others
abbrev pub is_child : ℕ → List (ℕ × ℕ) → ℕ → Bool
is_child n pairs at = list_any (λ p. nat_eq at (n + p.0)) pairs

-- SQL-92, 8.6: columns of the foreign key are not NULL
abbrev pub tests_child : ℕ → List (ℕ × ℕ) → Expr → Bool
tests_child n pairs (Not e) = tests_known (is_child n pairs) e
tests_child n pairs c = false

-- the conjunct says that the columns of one of the pairs are equal, or no more than that columns of the foreign key are not NULL
abbrev pub asks_no_more : ℕ → ℕ → List (ℕ × ℕ) → Expr → Bool
asks_no_more n m pairs c = ties_pair n m pairs c || tests_child n pairs c

-- The foreign key is to this table, all of it is tied, and the condition asks for nothing else; each two columns are of one kind.
abbrev pub is_parent : Tables → ℕ → ℕ → Expr → StandingScan → Reference → Bool
is_parent schema n table c x reference =
    nat_eq reference.table table
    && (all_tied c (length x.before) n reference.pairs
    && (list_all (asks_no_more (length x.before) n reference.pairs) (conjuncts c)
    && list_all (is_of_one_kind (columns_of schema x.table) (columns_of schema table)) reference.pairs))

abbrev pub is_unused : Tables → List Expr → ℕ → ℕ → Expr → StandingScan → Reference → Bool
is_unused schema es n table c x reference =
    is_parent schema n table c x reference && list_all (is_kept schema x reference.pairs (named_left schema n table x reference.pairs) n (width schema (Scan table))) es

-- SQL:1999, 11.8, MATCH SIMPLE, and SQL-92, 4.10.2 and 7.5: a left row without NULL in the foreign key has the row that it refers to as its partner, each other
-- has none
abbrev pub without_parent : Tables → List Expr → Plan → ℕ → Expr → StandingScan → Reference → Option Step
without_parent schema es p table c x reference =
    then_some (is_unused schema es (width schema p) table c x reference) (Project (map (put (at_place (named_left schema (width schema p) table x reference.pairs))) es) p, fell.Weight)

abbrev pub with_right : Tables → List Expr → Plan → Expr → Plan → Option Step
with_right schema es p c (Scan table) = first_made (λ x. first_made (without_parent schema es p table c x) (references_of schema x.table)) (standing schema [] p)
with_right schema es p c q = None

abbrev pub over_left : Tables → List Expr → Plan → Option Step
over_left schema es (Left p q c) = with_right schema es p c q
over_left schema es p = None

abbrev pub parent_left : Rule
parent_left schema (Project es p) = over_left schema es p
parent_left schema p = None
