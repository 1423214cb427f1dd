-- When the expressions of rules fit the tables: then the plan of every algebra over them is well typed.
use Rattle.std.specs.Prelude.{◌≡◌, ⊤, ℕ, false, List, ◌++◌, length, replicate, slice_get, Option, Some, None, IfSome}
use Rattle.std.specs.List.{AllByRecursion}
use Rattle.vkg_cells.specs.declared.cell.SqlType.TheVariants as kind
use Rattle.vkg_schema.specs.Kinds.{table_kinds}
use Rattle.vkg_maps.specs.declared.quad_rule.Join.{Join}
use Rattle.vkg_sparql.specs.Query.{Query}
use Rattle.vkg_algebra.specs.Algebra.{Algebra}
use Rattle.vkg_algebra.specs.Visible.{visible}
use Rattle.vkg_expr.specs.declared.term_expr.Piece.{Piece}
use Rattle.vkg_expr.specs.declared.term_expr.Piece.TheVariants.{Chars, Hole}
use Rattle.vkg_expr.specs.declared.term_expr.TermExpr.{TermExpr}
use Rattle.vkg_expr.specs.declared.term_expr.TermExpr.TheVariants.{Fixed, Made, Resolved}
use Rattle.vkg_expr.specs.Typing.{equality_kind, same_kind}
use Rattle.vkg_plan.specs.Kinds.{Kinds, Tables, plan_kinds}
use Rattle.vkg_row_rules.specs.declared.row_rule.RowRule.{RowRule}
use Rattle.vkg_unfolded.specs.declared.mode.Mode.{Mode}
use Rattle.vkg_unfolded.specs.Unfolded.{answer_width, columns_in, start_plan, unfolded}
use Rattle.vkg_maps.specs.Within.{kinds_at}

-- a hole is a column of its kind, which holds no terms
abbrev pub FitsPiece : Kinds → Piece → Type 0
FitsPiece ks (Chars text) = ⊤
FitsPiece ks (Hole at k) = (slice_get ks at ≡ Some k) × (same_kind kind.Term k ≡ false)

abbrev pub FitsTerm : Kinds → TermExpr → Type 0
FitsTerm ks (Fixed t) = ⊤
FitsTerm ks (Made sort ps) = AllByRecursion (FitsPiece ks) ps
FitsTerm ks (Resolved base at k) = FitsPiece ks (Hole at k)

abbrev pub FitsGraph : Kinds → Option TermExpr → Type 0
FitsGraph ks o = IfSome o (FitsTerm ks)

-- the schema has the table
abbrev pub IsTable : Tables → ℕ → Type 0
IsTable schema table = table_kinds schema table ≡ Some (kinds_at schema table)

-- SQL-92, 8.2: the columns of a join condition are there and comparable
abbrev pub FitsCondition : Kinds → Kinds → ℕ × ℕ → Type 0
FitsCondition ks ls c = equality_kind (slice_get ks c.0) (slice_get ls c.1) ≡ Some kind.Bool

abbrev pub FitsJoin : Tables → ℕ → Option Join → Type 0
FitsJoin schema child o =
    IfSome o (λ (join : Join). IsTable schema join.table × AllByRecursion (FitsCondition (kinds_at schema child) (kinds_at schema join.table)) join.conditions)

-- each rule's join fits
abbrev pub FitJoins : Tables → List RowRule → Type 0
FitJoins schema rules = AllByRecursion (λ (rule : RowRule). FitsJoin schema rule.table rule.join) rules

-- the kinds of a rule's rows: the parent's columns stand behind the child's
abbrev pub rule_kinds : Tables → ℕ → Option Join → Kinds
rule_kinds schema child None = kinds_at schema child
rule_kinds schema child (Some join) = kinds_at schema child ++ kinds_at schema join.table

pub record IsFitting (schema : Tables) (rule : RowRule) : Type 0 where
  pub table : IsTable schema rule.table
  pub join : FitsJoin schema rule.table rule.join
  pub subject : FitsTerm (kinds_at schema rule.table) rule.subject
  pub predicate : FitsTerm (kinds_at schema rule.table) rule.predicate
  pub object : FitsTerm (rule_kinds schema rule.table rule.join) rule.object
  pub graph : FitsGraph (kinds_at schema rule.table) rule.graph

abbrev pub AreFitting : Tables → List RowRule → Type 0
AreFitting schema rules = AllByRecursion (IsFitting schema) rules

-- the plan of each algebra has a column of terms for each variable, and in mode each one for the graph
abbrev pub HasTermColumns : Tables → List RowRule → Type 0
HasTermColumns schema rules =
    (a : Algebra) (mode : Mode) → plan_kinds schema (unfolded schema rules a mode) ≡ Some (replicate (columns_in mode (visible a)) kind.Term)

-- and that of each query one for each selected variable, and one for each key
abbrev pub HasAnswerColumns : Tables → List RowRule → Type 0
HasAnswerColumns schema rules =
    (query : Query) → plan_kinds schema (start_plan schema rules query) ≡ Some (replicate (answer_width query) kind.Term)
