-- The rules over the tables of the worked examples that the plans of queries are tried on.
use Rattle.std.specs.Prelude.{ℕ, List, [], ◌∷◌, ◌++◌, Some, None, codes}
use Rattle.vkg_terms.specs.declared.term.Annotation.TheVariants.{Plain}
use Rattle.vkg_terms.specs.declared.term.Term.TheVariants.{Iri}
use Rattle.vkg_cells.specs.declared.cell.SqlType.TheVariants as kind
use Rattle.vkg_expr.specs.declared.term_expr.Sort.TheVariants.{OfIri, OfLit}
use Rattle.vkg_expr.specs.declared.term_expr.Piece.TheVariants.{Chars, Hole}
use Rattle.vkg_expr.specs.declared.term_expr.TermExpr.{TermExpr}
use Rattle.vkg_expr.specs.declared.term_expr.TermExpr.TheVariants as form
use Rattle.vkg_row_rules.specs.declared.row_rule.RowRule.{RowRule}

abbrev pub text : List ℕ → List ℕ
text name = codes "http://e/" ++ name

abbrev pub dept_node : ℕ → TermExpr
dept_node at = form.Made OfIri (Chars (text (codes "dept/id=")) ∷ Hole at kind.Int ∷ [])

abbrev pub emp_node : TermExpr
emp_node = form.Made OfIri (Chars (text (codes "emp/id=")) ∷ Hole 0 kind.Int ∷ [])

-- a name for each employee, and a department for each that has one
abbrev pub rules : List RowRule
rules =
    record { table = 1; join = None; graph = None; subject = emp_node; predicate = form.Fixed (Iri (text (codes "emp#name"))); object = form.Made (OfLit Plain) (Hole 1 kind.Text ∷ []) }
    ∷ record { table = 1; join = Some (record { table = 0; conditions = (2, 0) ∷ [] }); graph = None; subject = emp_node; predicate = form.Fixed (Iri (text (codes "emp#ref-dept"))); object = dept_node 3 }
    ∷ []
