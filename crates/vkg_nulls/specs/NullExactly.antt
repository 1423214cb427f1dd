-- A typed strict expression is NULL on a row of its columns' kinds exactly where one of its columns is.
use Rattle.std.proofs.Common.{◌≡◌, ◌∙◌, ℕ, Bool, true, false, not, ◌&&◌, ◌||◌, List, refl, sym}
use Rattle.std.specs.Prelude.{Option, Some, None, option_map}
use Rattle.std.specs.List.{list_any}
use Rattle.std.proofs.lemmas.List.Folds.{list_any-append}
use Rattle.vkg_lists.proofs.Bools.{and_parts, not_true}
use Rattle.vkg_lists.proofs.Results.{then_given}
use Rattle.vkg_lists.specs.Options.{joined}
use Rattle.vkg_terms.specs.declared.term.Term.{Term}
use Rattle.vkg_terms.specs.declared.term.Term.TheVariants.{Iri, Blank, Lit}
use Rattle.vkg_terms.specs.Iri.{made_absolute}
use Rattle.vkg_terms.specs.Label.{blank_label}
use Rattle.vkg_terms.specs.Safe.{safe}
use Rattle.vkg_cells.specs.declared.cell.Cell.{Cell}
use Rattle.vkg_cells.specs.declared.cell.Cell.TheVariants as cell
use Rattle.vkg_cells.specs.declared.cell.SqlType.{SqlType}
use Rattle.vkg_cells.specs.declared.cell.SqlType.TheVariants as kind
use Rattle.vkg_cells.specs.Form.{lexical_form}
use Rattle.vkg_schema.specs.Rows.{Row, cell_at, is_null}
use Rattle.vkg_expr.specs.Expr.{Expr, Exprs, Col, Const, MakeIri, IriOf, MakeBlank, MakeLit, Lex, IriSafe, Concat, Same, IsNull, Not, And, Or, Coalesce, Sparql, Ebv, Nil, More}
use Rattle.vkg_expr.specs.Laws.{FitsRow}
use Rattle.vkg_expr.specs.Steps.{Fits}
use Rattle.vkg_expr.specs.Strict.{are_strict, columns, columns_each, is_strict}
use Rattle.vkg_expr.specs.Typing.{are_all, is_one, kind_of, kinds_of, lexical_kind, no_column, same_kind}
use Rattle.vkg_expr.specs.Value.{concat_of, term_cell, text_cell, text_of, value_of, values_of}
use Rattle.vkg_expr.proofs.KindLists.{are_all-more}
use Rattle.vkg_expr.proofs.TypedParts.{one_is}
use Rattle.vkg_expr.proofs.ValueFits.{value-fits}

-- one of these columns is NULL in the row
abbrev pub any_null : Row → List ℕ → Bool
any_null row = list_any (λ at. is_null (cell_at row at))

-- ---- what makes a text or a term of a cell makes NULL of NULL alone

abbrev lacks : Option (List ℕ) → Bool
lacks None = true
lacks (Some s) = false

no_text : (c : Cell) → Fits kind.Text c → lacks (text_of c) ≡ is_null c
no_text cell.Null f = refl
no_text (cell.Text s) f = refl
no_text _ f = cc

text-null : (o : Option (List ℕ)) → is_null (text_cell o) ≡ lacks o
text-null None = refl
text-null (Some s) = refl

text-text : (f : List ℕ → List ℕ) (c : Cell) → Fits kind.Text c → is_null (text_cell (option_map f (text_of c))) ≡ is_null c
text-text f cell.Null h = refl
text-text f (cell.Text s) h = refl
text-text f _ h = cc

text-term : (f : List ℕ → Term) (c : Cell) → Fits kind.Text c → is_null (term_cell (option_map f (text_of c))) ≡ is_null c
text-term f cell.Null h = refl
text-term f (cell.Text s) h = refl
text-term f _ h = cc

lexical-null : (k : SqlType) (c : Cell) → not (same_kind kind.Term k) ≡ true → Fits k c → is_null (text_cell (lexical_form c)) ≡ is_null c
lexical-null kind.Term (cell.Term t) n f = cc
lexical-null kind.Text (cell.Term t) n f = cc
lexical-null kind.Int (cell.Term t) n f = cc
lexical-null kind.Dec (cell.Term t) n f = cc
lexical-null kind.Bool (cell.Term t) n f = cc
lexical-null kind.Date (cell.Term t) n f = cc
lexical-null kind.Stamp (cell.Term t) n f = cc
lexical-null kind.Bin (cell.Term t) n f = cc
lexical-null kind.Time (cell.Term t) n f = cc
lexical-null k _ n f = refl

lexical_test : (o : Option SqlType) (l : SqlType) → lexical_kind o ≡ Some l → (k : SqlType) × (o ≡ Some k) × (not (same_kind kind.Term k) ≡ true)
lexical_test None l e = cc
lexical_test (Some k) l e = (k, refl, (then_given (not (same_kind kind.Term k)) kind.Text l e).0)

none-joined : (o p : Option (List ℕ)) → lacks (joined o p) ≡ (lacks o || lacks p)
none-joined None p = refl
none-joined (Some s) None = refl
none-joined (Some s) (Some t) = refl

or_false : (b : Bool) → b ≡ (b || false)
or_false true = refl
or_false false = refl

module _ (ks : List SqlType) (row : Row) (w : FitsRow ks row) where
  mutual
    pub null-exactly : (e : Expr) (k : SqlType) → kind_of e ks ≡ Some k → is_strict e ≡ true → is_null (value_of e row) ≡ any_null row (columns e)
    null-exactly (Col at) k t s = or_false (is_null (cell_at row at))
    null-exactly (Const c l) k t s = not_true (is_null c) s
    null-exactly (MakeIri e) k t s =
        let i = one_is kind.Text (kind_of e ks) (then_given (is_one kind.Text (kind_of e ks)) kind.Term k t).0 in
        text-term Iri (value_of e row) (value-fits e ks kind.Text row w i) ∙ null-exactly e kind.Text i s
    null-exactly (IriOf base e) k t s =
        let i = one_is kind.Text (kind_of e ks) (then_given (is_one kind.Text (kind_of e ks)) kind.Text k t).0 in
        text-text (made_absolute base) (value_of e row) (value-fits e ks kind.Text row w i) ∙ null-exactly e kind.Text i s
    null-exactly (MakeBlank e) k t s =
        let i = one_is kind.Text (kind_of e ks) (then_given (is_one kind.Text (kind_of e ks)) kind.Term k t).0 in
        text-term (λ s. Blank (blank_label s)) (value_of e row) (value-fits e ks kind.Text row w i) ∙ null-exactly e kind.Text i s
    null-exactly (MakeLit e l) k t s =
        let i = one_is kind.Text (kind_of e ks) (then_given (is_one kind.Text (kind_of e ks)) kind.Term k t).0 in
        text-term (λ s. Lit s l) (value_of e row) (value-fits e ks kind.Text row w i) ∙ null-exactly e kind.Text i s
    null-exactly (IriSafe e) k t s =
        let i = one_is kind.Text (kind_of e ks) (then_given (is_one kind.Text (kind_of e ks)) kind.Text k t).0 in
        text-text safe (value_of e row) (value-fits e ks kind.Text row w i) ∙ null-exactly e kind.Text i s
    null-exactly (Lex e) k t s =
        let i = lexical_test (kind_of e ks) k t in
        lexical-null i.0 (value_of e row) i.2 (value-fits e ks i.0 row w i.1) ∙ null-exactly e i.0 i.1 s
    null-exactly (Concat es) k t s =
        let b = and_parts (no_column es) (are_all kind.Text (kinds_of es ks)) (then_given (no_column es && are_all kind.Text (kinds_of es ks)) kind.Text k t).0 in
        text-null (concat_of (values_of es row)) ∙ none-exactly es b.1 s
    null-exactly (Same a b) k t s = cc
    null-exactly (IsNull e) k t s = cc
    null-exactly (Not e) k t s = cc
    null-exactly (And es) k t s = cc
    null-exactly (Or es) k t s = cc
    null-exactly (Coalesce es) k t s = cc
    null-exactly (Sparql op es) k t s = cc
    null-exactly (Ebv e) k t s = cc

    none-exactly : (es : Exprs) → are_all kind.Text (kinds_of es ks) ≡ true → are_strict es ≡ true → lacks (concat_of (values_of es row)) ≡ any_null row (columns_each es)
    none-exactly Nil a s = refl
    none-exactly (More e es) a s =
        let b = and_parts (is_one kind.Text (kind_of e ks)) (are_all kind.Text (kinds_of es ks)) (sym (are_all-more kind.Text (kind_of e ks) (kinds_of es ks)) ∙ a) in
        let c = and_parts (is_strict e) (are_strict es) s in
        let i = one_is kind.Text (kind_of e ks) b.0 in
        none-joined (text_of (value_of e row)) (concat_of (values_of es row))
        ∙ (λ j. (no_text (value_of e row) (value-fits e ks kind.Text row w i) ∙ null-exactly e kind.Text i c.0) j || none-exactly es b.1 c.1 j)
        ∙ sym (list_any-append (λ at. is_null (cell_at row at)) (columns e) (columns_each es))
