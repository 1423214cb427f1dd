-- A strict expression that names a column is NULL on a row of NULLs.
use Rattle.std.proofs.Common.{◌≡◌, ◌∙◌, inl, inr, ℕ, zero, suc, true, List, [], ◌∷◌, length, refl, ap}
use Rattle.std.specs.Prelude.{Option, Some, None, option_map, replicate}
use Rattle.std.specs.List.{list_all}
use Rattle.std.proofs.lemmas.Bool.{or_cases}
use Rattle.vkg_lists.proofs.Bools.{and_parts}
use Rattle.vkg_lists.specs.Options.{joined}
use Rattle.vkg_terms.specs.declared.term.Term.TheVariants.{Iri, Blank, Lit}
use Rattle.vkg_terms.specs.Iri.{made_absolute}
use Rattle.vkg_terms.specs.Label.{blank_label}
use Rattle.vkg_terms.specs.Safe.{safe}
use Rattle.vkg_cells.specs.declared.cell.Cell.{Cell}
use Rattle.vkg_cells.specs.declared.cell.Cell.TheVariants as cell
use Rattle.vkg_cells.specs.Form.{lexical_form}
use Rattle.vkg_schema.specs.Rows.{Row, cell_at}
use Rattle.vkg_expr.specs.Expr.{Expr, Exprs, Col, Const, MakeIri, IriOf, MakeBlank, MakeLit, Lex, IriSafe, Concat, Same, IsNull, Not, And, Or, Coalesce, Sparql, Ebv, Nil, More, exprs}
use Rattle.vkg_expr.specs.Strict.{any_names_column, are_strict, is_strict, names_column, nulls_on_null}
use Rattle.vkg_expr.specs.Value.{concat_of, term_cell, text_cell, text_of, value_of, values_of}

null-first : (c : Cell) (cs : List Cell) → c ≡ cell.Null → concat_of (c ∷ cs) ≡ None
null-first c cs e = ap (λ x. joined (text_of x) (concat_of cs)) e

none-rest : (o : Option (List ℕ)) → joined o None ≡ None
none-rest None = refl
none-rest (Some s) = refl

null-rest : (c : Cell) (cs : List Cell) → concat_of cs ≡ None → concat_of (c ∷ cs) ≡ None
null-rest c cs e = ap (joined (text_of c)) e ∙ none-rest (text_of c)

module _ (row : Row) (nulls : (at : ℕ) → cell_at row at ≡ cell.Null) where
  mutual
    null-value : (e : Expr) → is_strict e ≡ true → names_column e ≡ true → value_of e row ≡ cell.Null
    null-value (Col at) s n = nulls at
    null-value (Const c k) s n = cc
    null-value (MakeIri e) s n = ap (λ v. term_cell (option_map Iri (text_of v))) (null-value e s n)
    null-value (IriOf base e) s n = ap (λ v. text_cell (option_map (made_absolute base) (text_of v))) (null-value e s n)
    null-value (MakeBlank e) s n = ap (λ v. term_cell (option_map (λ s. Blank (blank_label s)) (text_of v))) (null-value e s n)
    null-value (MakeLit e l) s n = ap (λ v. term_cell (option_map (λ s. Lit s l) (text_of v))) (null-value e s n)
    null-value (Lex e) s n = ap (λ v. text_cell (lexical_form v)) (null-value e s n)
    null-value (IriSafe e) s n = ap (λ v. text_cell (option_map safe (text_of v))) (null-value e s n)
    null-value (Concat es) s n = ap (λ o. text_cell o) (no-text es s n)
    null-value (Same a b) s n = cc
    null-value (IsNull e) s n = cc
    null-value (Not e) s n = cc
    null-value (And es) s n = cc
    null-value (Or es) s n = cc
    null-value (Coalesce es) s n = cc
    null-value (Sparql op es) s n = cc
    null-value (Ebv e) s n = cc

    no-text : (es : Exprs) → are_strict es ≡ true → any_names_column es ≡ true → concat_of (values_of es row) ≡ None
    no-text Nil s n = cc
    no-text (More e es) s n =
        let b = and_parts (is_strict e) (are_strict es) s in
        elim (or_cases (names_column e) (any_names_column es) n) [
          | inl i ↦ null-first (value_of e row) (values_of es row) (null-value e b.0 i)
          | inr i ↦ null-rest (value_of e row) (values_of es row) (no-text es b.1 i)
        ]

null-at : (w at : ℕ) → cell_at (replicate w cell.Null) at ≡ cell.Null
null-at zero at = refl
null-at (suc w) zero = refl
null-at (suc w) (suc at) = null-at w at

-- expressions of which each is strict and names a column
pub null-values : (w : ℕ) (es : List Expr) → list_all nulls_on_null es ≡ true → values_of (exprs es) (replicate w cell.Null) ≡ replicate (length es) cell.Null
null-values w [] s = refl
null-values w (e ∷ es) s =
    let b = and_parts (nulls_on_null e) (list_all nulls_on_null es) s in
    let own = and_parts (is_strict e) (names_column e) b.0 in
    λ i. null-value (replicate w cell.Null) (null-at w) e own.0 own.1 i ∷ null-values w es b.1 i
