-- When the values of term expressions are one.
use Rattle.std.proofs.Common.{◌≡◌, refl, ◌∙◌, Bool, false}
use Rattle.std.specs.Prelude.{Option, Some, None, unwrap_or}
use Rattle.vkg_lists.specs.Options.{both_pass}
use Rattle.vkg_terms.specs.declared.term.Term.{Term}
use Rattle.vkg_terms.specs.Same.{term_eq}
use Rattle.vkg_cells.specs.Form.{lexical_form}
use Rattle.vkg_cells.specs.Order.{same, same_form}
use Rattle.vkg_schema.specs.Rows.{Row, cell_at}
use Rattle.vkg_expr.specs.declared.term_expr.TermExpr.{TermExpr}
use Rattle.vkg_expr.specs.declared.term_expr.TermExpr.TheVariants.{Fixed, Made, Resolved}
use Rattle.vkg_expr.specs.Expr.{Expr, Same}
use Rattle.vkg_expr.specs.TermExprs.{term_expr}
use Rattle.vkg_expr.specs.Value.{holds, term_cell, text_cell, truth_cell, truth_of, value_of}
use Rattle.vkg_expr.proofs.TermValues.{Text, made_term, pieces_value, resolved_value, term_value, text_at}
use Rattle.vkg_match.specs.Verdict.{whole_text}

pub whole_value : (row : Row) (e : TermExpr) → value_of (whole_text e) row ≡ text_cell (text_at row e)
whole_value row (Fixed t) = refl
whole_value row (Made sort ps) = pieces_value sort row ps
whole_value row (Resolved base at k) = resolved_value base (lexical_form (cell_at row at))

-- there are two terms and they are one
abbrev pub same_terms : Option Term → Option Term → Bool
same_terms s t = both_pass term_eq s t

terms_compared : (o p : Option Term) → unwrap_or (truth_of (truth_cell (same (term_cell o) (term_cell p)))) false ≡ same_terms o p
terms_compared None p = refl
terms_compared (Some s) None = refl
terms_compared (Some s) (Some t) = refl

texts_compared : (o p : Text) → unwrap_or (truth_of (truth_cell (same (text_cell o) (text_cell p)))) false ≡ same_form o p
texts_compared None p = refl
texts_compared (Some s) None = refl
texts_compared (Some s) (Some t) = refl

pub terms_hold : (row : Row) (e f : TermExpr) → holds (Same (term_expr e) (term_expr f)) row ≡ same_terms (made_term row e) (made_term row f)
terms_hold row e f =
    (λ i. unwrap_or (truth_of (truth_cell (same (term_value row e i) (term_value row f i)))) false)
    ∙ terms_compared (made_term row e) (made_term row f)

pub texts_hold : (row : Row) (x y : Expr) (s t : Text) → value_of x row ≡ text_cell s → value_of y row ≡ text_cell t → holds (Same x y) row ≡ same_form s t
texts_hold row x y s t a b = (λ i. unwrap_or (truth_of (truth_cell (same (a i) (b i)))) false) ∙ texts_compared s t
