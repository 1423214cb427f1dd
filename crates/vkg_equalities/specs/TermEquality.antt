-- The rule: the first conjunct of a condition that asks two terms over columns of tables to be the same becomes its verdict.
use Rattle.std.specs.Prelude.{Bool, List, [], ◌∷◌, ◌++◌, Option, None, option_and_then, option_map}
use Rattle.std.specs.Option.{option_or}
use Rattle.vkg_lists.specs.Options.{joined}
use Rattle.vkg_expr.specs.Expr.{Expr}
use Rattle.vkg_expr.specs.Logic.{and_of, conjuncts}
use Rattle.vkg_plan.specs.Kinds.{Kinds, Tables, plan_kinds}
use Rattle.vkg_plan.specs.Plan.{Plan, Select, Join, Left, AntiJoin}
use Rattle.vkg_rules.specs.declared.rewrite.Fell.TheVariants as fell
use Rattle.vkg_rules.specs.Steps.{Rule}
use Rattle.vkg_equalities.specs.Decided.{decided}
use Rattle.vkg_equalities.specs.TableColumns.{flag_at, table_columns}

-- the list with the first changed that f changes, if there is one
abbrev pub first_changed : (Expr → Option Expr) → List Expr → Option (List Expr)
first_changed f [] = None
first_changed f (c ∷ cs) = option_or (option_map (λ d. d ∷ cs) (f c)) (option_map (λ ds. c ∷ ds) (first_changed f cs))

-- a condition over columns of these kinds in which a conjunct is decided
unfoldable pub decided_in : List Bool → Kinds → Expr → Option Expr
decided_in flags ks c = option_map and_of (first_changed (decided (flag_at flags) ks) (conjuncts c))

-- the columns over which the condition of a plan's first node is: the plan's own, and of an anti join those of both its sides
abbrev pub condition_kinds : Tables → Plan → Option Kinds
condition_kinds schema (AntiJoin p q c) = joined (plan_kinds schema p) (plan_kinds schema q)
condition_kinds schema p = plan_kinds schema p

abbrev pub condition_columns : Tables → Plan → List Bool
condition_columns schema (AntiJoin p q c) = table_columns schema p ++ table_columns schema q
condition_columns schema p = table_columns schema p

-- the condition of a plan's first node
abbrev pub node_decided : Tables → Plan → Expr → Option Expr
node_decided schema p c = option_and_then (λ ks. decided_in (condition_columns schema p) ks c) (condition_kinds schema p)

-- SQL-92, 7.5 and 7.6: a row or a pair passes where each conjunct is true
abbrev pub term_equality : Rule
term_equality schema (Select c p) = option_map (λ d. (Select d p, fell.Equalities)) (node_decided schema (Select c p) c)
term_equality schema (Join ps c) = option_map (λ d. (Join ps d, fell.Equalities)) (node_decided schema (Join ps c) c)
term_equality schema (Left p q c) = option_map (λ d. (Left p q d, fell.Equalities)) (node_decided schema (Left p q c) c)
term_equality schema (AntiJoin p q c) = option_map (λ d. (AntiJoin p q d, fell.Equalities)) (node_decided schema (AntiJoin p q c) c)
term_equality schema p = None
