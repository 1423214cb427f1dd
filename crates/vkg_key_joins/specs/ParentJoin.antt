-- A table in a join with the one that it refers to, of which nothing is used but the columns of the foreign key: that one goes.
use Rattle.std.specs.Prelude.{ℕ, zero, suc, ◌-◌, Bool, true, ◌&&◌, ◌||◌, List, [], ◌∷◌, length, map, Option, None, option_map, nat_eq, nat_le, if◌then◌else◌}
use Rattle.std.specs.List.{find, list_all, list_any}
use Rattle.vkg_cells.specs.declared.cell.Cell.TheVariants as cell
use Rattle.vkg_cells.specs.declared.cell.SqlType.TheVariants as kind
use Rattle.vkg_columns.specs.Columns.{at_place, columns_from}
use Rattle.vkg_expr.specs.Expr.{Expr, Const, IsNull, Not}
use Rattle.vkg_expr.specs.Logic.{and_then}
use Rattle.vkg_expr.specs.Strict.{columns, put}
use Rattle.vkg_schema.specs.declared.table.Reference.{Reference}
use Rattle.vkg_schema.specs.Kinds.{columns_of}
use Rattle.vkg_plan.specs.Kinds.{Tables, width}
use Rattle.vkg_plan.specs.Plan.{Plan, Scan, Project, Join, each, plans}
use Rattle.vkg_rules.specs.declared.rewrite.Fell.TheVariants as fell
use Rattle.vkg_rules.specs.Steps.{Rule, Step}
use Rattle.vkg_keys.specs.Keys.{is_of_one_kind}
use Rattle.vkg_keys.specs.Members.{Place, first_two, others, renamed, widths}
use Rattle.vkg_keys.specs.Ties.{all_tied}
use Rattle.vkg_key_joins.specs.Tables.{references_of}

-- ---- what is used of the parent

-- of the columns behind the first b: none of the next n, or one of those second in the pairs
abbrev pub is_given_behind : ℕ → List (ℕ × ℕ) → ℕ → Bool
is_given_behind n pairs y = nat_le n y || list_any (λ p. nat_eq p.1 y) pairs

abbrev pub is_given : ℕ → ℕ → List (ℕ × ℕ) → ℕ → Bool
is_given b n pairs at = if nat_le b at then is_given_behind n pairs (at - b) else true

-- so each column that the expression names
abbrev pub names_given : ℕ → ℕ → List (ℕ × ℕ) → Expr → Bool
names_given b n pairs e = list_all (is_given b n pairs) (columns e)

-- The foreign key is to the table at y. The condition ties each pair of its columns, of one kind each, and of the columns at y no others are named.
abbrev pub is_unused : Tables → List Expr → Expr → Place → Place → Reference → Bool
is_unused schema es c x y reference =
    nat_eq reference.table y.table
    && (all_tied c (widths schema x.before) (widths schema y.before) reference.pairs
    && (list_all (is_of_one_kind (columns_of schema x.table) (columns_of schema y.table)) reference.pairs
    && list_all (names_given (widths schema y.before) (width schema (Scan y.table)) reference.pairs) (c ∷ es)))

-- ---- without the parent

-- how many columns stand before the child's when those of the parent are gone
abbrev pub first_left : Tables → Place → Place → ℕ
first_left schema x y = if nat_le (length x.before) (length y.before) then widths schema x.before else widths schema x.before - width schema (Scan y.table)

-- the columns of the child there
abbrev pub child_left : Tables → Place → Place → List Expr
child_left schema x y = columns_from (first_left schema x y) (width schema (Scan x.table))

-- of the child's columns the one that is tied to the parent's column y; the others are not named
abbrev pub tied_to : List Expr → List (ℕ × ℕ) → ℕ → Expr
tied_to child [] y = Const cell.Null kind.Text
tied_to child (p ∷ pairs) y = if nat_eq p.1 y then at_place child p.0 else tied_to child pairs y

-- n columns of the parent from one on, named in the child
abbrev pub all_tied_to : List Expr → List (ℕ × ℕ) → ℕ → ℕ → List Expr
all_tied_to child pairs y zero = []
all_tied_to child pairs y (suc n) = tied_to child pairs y ∷ all_tied_to child pairs (suc y) n

-- the columns of all members, those of the parent named in the child
abbrev pub named_in_child : Tables → Place → Place → Reference → List Expr
named_in_child schema x y reference = renamed (widths schema y.before) (all_tied_to (child_left schema x y) reference.pairs 0 (width schema (Scan y.table))) (widths schema y.after)

-- the condition, and each of the child's columns in the pairs is not NULL
abbrev pub known_too : List Expr → Expr → List (ℕ × ℕ) → Expr
known_too child c [] = c
known_too child c (p ∷ pairs) = known_too child (and_then c (Not (IsNull (at_place child p.0)))) pairs

-- expressions over a Join by a condition, all with these expressions in the place of columns
abbrev pub left_joined : List Expr → List Expr → List Plan → List Expr → Expr → List (ℕ × ℕ) → Step
left_joined names es ps child c pairs = (Project (map (put (at_place names)) es) (Join (plans ps) (known_too child (put (at_place names) c) pairs)), fell.Weight)

-- SQL:1999, 11.8, MATCH SIMPLE, and SQL-92, 4.10.2: a row without NULL in the foreign key has exactly one row that it refers to, and each other row has none
abbrev pub without_parent : Tables → List Expr → Expr → Place → Place → Reference → Step
without_parent schema es c x y reference = left_joined (named_in_child schema x y reference) es (others y) (child_left schema x y) c reference.pairs

-- ---- the rule

-- the child at x and the parent at another place, by the first foreign key of which nothing else is used
abbrev pub parent_joined : Tables → List Expr → Expr → Place → Place → Option Step
parent_joined schema es c x y =
    if nat_eq (length x.before) (length y.before) then None else option_map (without_parent schema es c x y) (find (is_unused schema es c x y) (references_of schema x.table))

abbrev pub over_join : Tables → List Expr → Plan → Option Step
over_join schema es (Join ps c) = first_two (parent_joined schema es c) (each ps)
over_join schema es p = None

abbrev pub parent_join : Rule
parent_join schema (Project es p) = over_join schema es p
parent_join schema p = None
