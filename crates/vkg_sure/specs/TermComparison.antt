-- The rule: the first conjunct of a condition that compares two terms over columns of tables, of which one is no literal, becomes the
-- verdict on them, where that is smaller.
use Rattle.std.specs.Prelude.{ℕ, Bool, true, false, ◌||◌, not, List, Option, None, option_and_then, nat_lt}
use Rattle.vkg_cells.specs.declared.cell.Cell.{Cell}
use Rattle.vkg_cells.specs.declared.cell.Cell.TheVariants as cell
use Rattle.vkg_cells.specs.declared.cell.SqlType.{SqlType}
use Rattle.vkg_values.specs.declared.operator.Compare.TheVariants as asks
use Rattle.vkg_values.specs.Operators.{is_literal}
use Rattle.vkg_expr.specs.declared.expr.Operator.{Operator}
use Rattle.vkg_expr.specs.declared.expr.Operator.TheVariants as op
use Rattle.vkg_expr.specs.Expr.{Expr, Exprs, Const, MakeIri, MakeBlank, Same, Sparql, Nil, More}
use Rattle.vkg_plan.specs.Kinds.{Kinds, Tables}
use Rattle.vkg_plan.specs.Plan.{Plan}
use Rattle.vkg_rules.specs.declared.rewrite.Fell.TheVariants as fell
use Rattle.vkg_rules.specs.Measure.{size}
use Rattle.vkg_rules.specs.Steps.{Rule}
use Rattle.vkg_conditions.specs.Conditions.{if_so}
use Rattle.vkg_conditions.specs.NodeCondition.{condition_of, conditioned}
use Rattle.vkg_conditions.specs.SimplifyCondition.{in_conjuncts}
use Rattle.vkg_equalities.specs.Decided.{decided}
use Rattle.vkg_equalities.specs.TableColumns.{flag_at}
use Rattle.vkg_equalities.specs.TermEquality.{condition_columns, condition_kinds}

-- a term that is no literal, and an expression that makes one or NULL
abbrev pub holds_no_literal : Cell → Bool
holds_no_literal (cell.Term t) = not (is_literal t)
holds_no_literal c = false

abbrev pub makes_no_literal : Expr → Bool
makes_no_literal (Const c k) = holds_no_literal c
makes_no_literal (MakeIri e) = true
makes_no_literal (MakeBlank e) = true
makes_no_literal e = false

-- SPARQL 1.1 Query, 17.3 and 17.4.1.7: `=` asks two terms of which one is no literal to be the same
abbrev pub same_terms : Exprs → Option Expr
same_terms (More a (More b Nil)) = if_so (makes_no_literal a || makes_no_literal b) (Same a b)
same_terms es = None

abbrev pub same_by : Operator → Exprs → Option Expr
same_by (op.Compare asks.Equal) es = same_terms es
same_by o es = None

abbrev pub as_same : Expr → Option Expr
as_same (Sparql o es) = same_by o es
as_same c = None

-- so it becomes what such an equality does, over columns of these kinds of which some are columns of tables
abbrev pub if_smaller : Expr → Expr → Option Expr
if_smaller c d = if_so (nat_lt (size d) (size c)) d

abbrev pub compared : (ℕ → Bool) → List SqlType → Expr → Option Expr
compared is_column ks c = option_and_then (if_smaller c) (option_and_then (decided is_column ks) (as_same c))

-- a condition over columns of these kinds in which a conjunct is compared
unfoldable pub compared_in : List Bool → Kinds → Expr → Option Expr
compared_in flags ks c = in_conjuncts (compared (flag_at flags) ks) c

-- the condition of a plan's first node
abbrev pub node_compared : Tables → Plan → Expr → Option Expr
node_compared schema p c = option_and_then (λ ks. compared_in (condition_columns schema p) ks c) (condition_kinds schema p)

-- SQL-92, 7.5 and 7.6: a row or a pair passes where each conjunct is true
abbrev pub term_comparison : Rule
term_comparison schema p = conditioned fell.Size p (option_and_then (node_compared schema p) (condition_of p))
