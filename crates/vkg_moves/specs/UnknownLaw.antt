-- On rows with NULLs behind the first n cells such an expression is NULL, so that as a condition it is not true.
use Rattle.std.proofs.Common.{◌≡◌, ◌∙◌, inl, inr, ℕ, Bool, true, false, ◌||◌, List, [], ◌∷◌, refl, ap}
use Rattle.std.specs.Prelude.{Option, Some, None, option_and_then, option_map}
use Rattle.std.specs.List.{list_any}
use Rattle.std.proofs.Math.Bool.{or-true}
use Rattle.std.proofs.lemmas.Bool.{or_cases}
use Rattle.vkg_terms.specs.declared.term.Term.{Term}
use Rattle.vkg_cells.specs.declared.cell.Cell.{Cell}
use Rattle.vkg_cells.specs.declared.cell.Cell.TheVariants as cell
use Rattle.vkg_values.specs.Known.{widest}
use Rattle.vkg_values.specs.Logic.{not3}
use Rattle.vkg_values.specs.Operators.{compare_value, ebv, on_two, take_value, test_value}
use Rattle.vkg_schema.specs.Rows.{Row, is_known_true, is_null}
use Rattle.vkg_expr.specs.declared.expr.Operator.{Operator}
use Rattle.vkg_expr.specs.declared.expr.Operator.TheVariants.{Test, Take, Compare}
use Rattle.vkg_expr.specs.Expr.{Expr, Exprs, Not, Sparql, Ebv, Nil, More}
use Rattle.vkg_expr.specs.Value.{holds, operator_value, term_cell, term_of, truth_cell, truth_of, value_of, values_of}
use Rattle.vkg_moves.specs.ColumnsLaw.{AreNullBehind, null-behind}
use Rattle.vkg_moves.specs.Unknown.{is_unknown_behind, one_unknown_behind}

-- ---- an operator over NULL

null-cell : (c : Cell) → is_null c ≡ true → c ≡ cell.Null
null-cell cell.Null h = refl
null-cell _ h = cc

only-null : (c : Cell) → (is_null c || false) ≡ true → c ≡ cell.Null
only-null cell.Null h = refl
only-null _ h = cc

none-second : (f : Term → Term → Option Bool) (o : Option Term) → on_two f o None ≡ None
none-second f None = refl
none-second f (Some t) = refl

none-first : (f : Term → Term → Option Bool) (o : Option Term) → on_two f None o ≡ None
none-first f None = refl
none-first f (Some t) = refl

null-operand : (op : Operator) (cs : List Cell) → list_any is_null cs ≡ true → operator_value op cs ≡ cell.Null
null-operand (Test op) [] h = refl
null-operand (Test op) (c ∷ []) h = ap (λ v. truth_cell (option_map (test_value widest op) (term_of v))) (only-null c h)
null-operand (Test op) (c ∷ d ∷ cs) h = refl
null-operand (Take op) [] h = refl
null-operand (Take op) (c ∷ []) h = ap (λ v. term_cell (option_and_then (take_value op) (term_of v))) (only-null c h)
null-operand (Take op) (c ∷ d ∷ cs) h = refl
null-operand (Compare op) [] h = refl
null-operand (Compare op) (c ∷ []) h = refl
null-operand (Compare op) (c ∷ d ∷ []) h = elim (or_cases (is_null c) (is_null d || false) h) [
  | inl i ↦ ap (λ v. truth_cell (on_two (compare_value widest op) (term_of v) (term_of d))) (null-cell c i) ∙ ap truth_cell (none-first (compare_value widest op) (term_of d))
  | inr i ↦ ap (λ v. truth_cell (on_two (compare_value widest op) (term_of c) (term_of v))) (only-null d i) ∙ ap truth_cell (none-second (compare_value widest op) (term_of c))
]
null-operand (Compare op) (c ∷ d ∷ b ∷ cs) h = refl

-- ---- on a row whose cells behind the first n are NULL

module _ (n : ℕ) (row : Row) (nulls : AreNullBehind n row) where
  mutual
    unknown-null : (e : Expr) → is_unknown_behind n e ≡ true → value_of e row ≡ cell.Null
    unknown-null (Sparql op es) h = null-operand op (values_of es row) (one-null es h)
    unknown-null (Ebv e) h = ap (λ v. truth_cell (option_and_then (ebv widest) (term_of v))) (unknown-null e h)
    unknown-null (Not e) h = ap (λ v. truth_cell (not3 (truth_of v))) (unknown-null e h)
    unknown-null e h = null-behind n row nulls e h

    one-null : (es : Exprs) → one_unknown_behind n es ≡ true → list_any is_null (values_of es row) ≡ true
    one-null Nil h = cc
    one-null (More e es) h = elim (or_cases (is_unknown_behind n e) (one_unknown_behind n es) h) [
      | inl i ↦ ap (λ v. is_null v || list_any is_null (values_of es row)) (unknown-null e i)
      | inr i ↦ ap (λ b. is_null (value_of e row) || b) (one-null es i) ∙ or-true (is_null (value_of e row))
    ]

  pub unknown-fails : (c : Expr) → is_unknown_behind n c ≡ true → holds c row ≡ false
  unknown-fails c h = ap (λ v. is_known_true (truth_of v)) (unknown-null c h)
