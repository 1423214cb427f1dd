-- An equality of two terms as equalities of columns, forms or texts.
use Rattle.std.specs.Prelude.{ℕ, Bool, true, false, ◌&&◌, List, Option, Some, None, option_and_then, if◌then◌else◌}
use Rattle.std.specs.List.{list_all}
use Rattle.std.specs.Str.{is_utf8}
use Rattle.vkg_terms.specs.Same.{term_name}
use Rattle.vkg_cells.specs.declared.cell.SqlType.{SqlType}
use Rattle.vkg_cells.specs.declared.cell.SqlType.TheVariants as kind
use Rattle.vkg_expr.specs.declared.term_expr.Piece.{Piece}
use Rattle.vkg_expr.specs.declared.term_expr.Piece.TheVariants.{Chars, Hole}
use Rattle.vkg_expr.specs.declared.term_expr.TermExpr.{TermExpr}
use Rattle.vkg_expr.specs.declared.term_expr.TermExpr.TheVariants.{Fixed, Made, Resolved}
use Rattle.vkg_expr.specs.Expr.{Expr, Const, MakeIri, MakeBlank, MakeLit, Same}
use Rattle.vkg_expr.specs.Logic.{and_of, truth_const}
use Rattle.vkg_expr.specs.Typing.{same_kind}
use Rattle.vkg_match.specs.Verdict.{Verdict, Never, All, verdict_of}
use Rattle.vkg_equalities.specs.Recognised.{recognised}

-- a constant is a text, and a hole is such a column
abbrev pub is_fine_piece : (ℕ → Bool) → Piece → Bool
is_fine_piece is_column (Chars text) = is_utf8 text
is_fine_piece is_column (Hole at k) = is_column at

-- a column over a base is compared by its whole text, so its cells may be any
abbrev pub is_fine : (ℕ → Bool) → TermExpr → Bool
is_fine is_column (Fixed t) = is_utf8 (term_name t)
is_fine is_column (Made sort ps) = list_all (is_fine_piece is_column) ps
is_fine is_column (Resolved base at k) = true

abbrev pub if_fine : (ℕ → Bool) → TermExpr → Option TermExpr
if_fine is_column e = if is_fine is_column e then Some e else None

-- a term's expression whose texts are texts and whose holes are such columns
abbrev pub compared : (ℕ → Bool) → List SqlType → Expr → Option TermExpr
compared is_column ks e = option_and_then (if_fine is_column) (recognised ks e)

-- the verdict as one conjunct
abbrev pub verdict_expr : Verdict → Expr
verdict_expr Never = truth_const false
verdict_expr (All es) = and_of es

abbrev pub both_compared : Option TermExpr → Option TermExpr → Option Expr
both_compared (Some e) (Some f) = Some (verdict_expr (verdict_of e f))
both_compared e f = None

-- SQL-92, 8.2: an equality of two such terms, as its verdict
abbrev pub decided : (ℕ → Bool) → List SqlType → Expr → Option Expr
decided is_column ks (Same a b) = both_compared (compared is_column ks a) (compared is_column ks b)
decided is_column ks c = None

-- ---- what can be decided, whatever the columns are

-- it makes a term: no other expression is recognised
abbrev pub makes_term : Expr → Bool
makes_term (Const c k) = same_kind kind.Term k
makes_term (MakeIri e) = true
makes_term (MakeBlank e) = true
makes_term (MakeLit e annotation) = true
makes_term e = false

-- it asks two terms that are made to be the same
abbrev pub asks_terms : Expr → Bool
asks_terms (Same a b) = makes_term a && makes_term b
asks_terms c = false
