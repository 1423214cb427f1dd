-- What is asked of a database: the terms of its rules are within what plans compute with.
use Rattle.std.specs.Prelude.{◌≡◌, ⊤, List, Contains, Option, Some, None, not, IsTrue, IfSome}
use Rattle.vkg_terms.specs.declared.term.Term.{Term}
use Rattle.vkg_schema.specs.Rows.{Database, Row}
use Rattle.vkg_expr.specs.declared.term_expr.TermExpr.{TermExpr}
use Rattle.vkg_expr.specs.declared.term_expr.TermExpr.TheVariants as term_form
use Rattle.vkg_plan.specs.Kinds.{Tables}
use Rattle.vkg_match.specs.Verdict.{Never, verdict_of}
use Rattle.vkg_row_rules.specs.declared.row_rule.RowRule.{RowRule}
use Rattle.vkg_row_rules.specs.RowDataset.{rule_rows, term_at}
use Rattle.vkg_unfolded.specs.Unfolded.{default_graph}
use Rattle.vkg_cells.specs.WellTyped.{is_wide_number}

-- a term that is no number of too many digits, or none
abbrev pub IsNarrow : Option Term → Type 0
IsNarrow o = IfSome o (λ t. IsTrue (not (is_wide_number t)))

abbrev pub IsNarrowGraph : Option TermExpr → Row → Type 0
IsNarrowGraph o row = IfSome o (λ e. IsNarrow (term_at e row))

-- where the verdict says that a graph's term is never the default graph's name, it is not
abbrev pub NeverDefault : Option TermExpr → Row → Type 0
NeverDefault None row = ⊤
NeverDefault (Some e) row = verdict_of e (term_form.Fixed default_graph) ≡ Never → term_at e row ≡ Some default_graph → ⊥

pub record IsFineRow (rule : RowRule) (row : Row) : Type 0 where
  pub subject : IsNarrow (term_at rule.subject row)
  pub predicate : IsNarrow (term_at rule.predicate row)
  pub object : IsNarrow (term_at rule.object row)
  pub graph : IsNarrowGraph rule.graph row
  pub never : NeverDefault rule.graph row

-- each row of each rule is fine
abbrev pub Meets : Tables → List RowRule → Database → Type 0
Meets schema rules db =
    (rule : RowRule) → Contains rules rule → (row : Row) → Contains (rule_rows schema db rule.table rule.join) row → IsFineRow rule row
