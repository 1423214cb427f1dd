-- What follows for expressions that name columns behind the first n, or none.
use Rattle.std.proofs.Common.{◌≡◌, ◌∙◌, inl, inr, ℕ, zero, suc, ◌<◌, ◌≤◌, true, false, ◌&&◌, ◌||◌, nat_le, List, [], ◌∷◌, ◌++◌, length, refl, sym, ap, arith}
use Rattle.std.specs.Prelude.{Option, Some, None, option_map, replicate, slice_get}
use Rattle.std.specs.List.{AllByRecursion, list_any}
use Rattle.std.proofs.lemmas.Bool.{leb-false, leb-true, or_cases}
use Rattle.std.proofs.lemmas.List.Folds.{list_any-append}
use Rattle.vkg_lists.proofs.Bools.{and_parts}
use Rattle.vkg_lists.proofs.Each.{recursion_fails, recursion_weaken}
use Rattle.vkg_lists.proofs.Members.{recursion_left, recursion_right}
use Rattle.vkg_lists.specs.Options.{joined}
use Rattle.vkg_terms.specs.declared.term.Term.TheVariants.{Iri, Blank, Lit}
use Rattle.vkg_terms.specs.Iri.{made_absolute}
use Rattle.vkg_terms.specs.Label.{blank_label}
use Rattle.vkg_terms.specs.Safe.{safe}
use Rattle.vkg_cells.specs.declared.cell.Cell.{Cell}
use Rattle.vkg_cells.specs.declared.cell.Cell.TheVariants as cell
use Rattle.vkg_cells.specs.declared.cell.SqlType.{SqlType}
use Rattle.vkg_cells.specs.Form.{lexical_form}
use Rattle.vkg_schema.specs.Rows.{Row, cell_at}
use Rattle.vkg_expr.specs.Expr.{Expr, Exprs, Col, Const, MakeIri, IriOf, MakeBlank, MakeLit, Lex, IriSafe, Concat, Same, IsNull, Not, And, Or, Coalesce, Sparql, Ebv, Nil, More}
use Rattle.vkg_expr.specs.Strict.{are_strict, columns, columns_each, is_strict, names_column}
use Rattle.vkg_expr.specs.Typing.{kind_of}
use Rattle.vkg_expr.specs.Value.{concat_of, term_cell, text_cell, text_of, value_of, values_of}
use Rattle.vkg_columns.specs.Columns.{IsWithin, KeepsKind, OnColumns, OnEach}
use Rattle.vkg_columns.proofs.MovedColumns.{put-itself}
use Rattle.vkg_columns.proofs.OnColumns.{on-weaker}
use Rattle.vkg_columns.proofs.PutIn.{put-kind}
use Rattle.vkg_moves.specs.Columns.{is_null_behind, names_behind}

-- ---- no column behind the first n

-- what is true of each column in the list is true of each that the expression names
mutual
  on-listed : (P : ℕ → Type 0) (e : Expr) → AllByRecursion P (columns e) → OnColumns P e
  on-listed P (Col at) h = h.0
  on-listed P (Const c k) h = tt
  on-listed P (MakeIri e) h = on-listed P e h
  on-listed P (IriOf base e) h = on-listed P e h
  on-listed P (MakeBlank e) h = on-listed P e h
  on-listed P (MakeLit e l) h = on-listed P e h
  on-listed P (Lex e) h = on-listed P e h
  on-listed P (IriSafe e) h = on-listed P e h
  on-listed P (IsNull e) h = on-listed P e h
  on-listed P (Not e) h = on-listed P e h
  on-listed P (Ebv e) h = on-listed P e h
  on-listed P (Same a b) h = (on-listed P a (recursion_left P (columns a) (columns b) h), on-listed P b (recursion_right P (columns a) (columns b) h))
  on-listed P (Concat es) h = on_each-listed P es h
  on-listed P (And es) h = on_each-listed P es h
  on-listed P (Or es) h = on_each-listed P es h
  on-listed P (Coalesce es) h = on_each-listed P es h
  on-listed P (Sparql op es) h = on_each-listed P es h

  on_each-listed : (P : ℕ → Type 0) (es : Exprs) → AllByRecursion P (columns_each es) → OnEach P es
  on_each-listed P Nil h = tt
  on_each-listed P (More e es) h = (on-listed P e (recursion_left P (columns e) (columns_each es) h), on_each-listed P es (recursion_right P (columns e) (columns_each es) h))

pub within-first : (n : ℕ) (e : Expr) → names_behind n e ≡ false → IsWithin n e
within-first n e h =
    on-listed (λ at. at < n) e
    (recursion_weaken (λ at. nat_le n at ≡ false) (λ at. at < n) (columns e) (λ at b. leb-false n at b) (recursion_fails (nat_le n) (columns e) h))

kind_at-left : (ks ls : List SqlType) (at : ℕ) → at < length ks → slice_get ks at ≡ slice_get (ks ++ ls) at
kind_at-left [] ls at h = absurd (omega arith)
kind_at-left (k ∷ ks) ls zero h = refl
kind_at-left (k ∷ ks) ls (suc at) h = kind_at-left ks ls at (omega arith)

-- it has over the first columns alone the kind that it has over all
pub first-kind : (ks ls : List SqlType) (e : Expr) (k : SqlType) → IsWithin (length ks) e → kind_of e (ks ++ ls) ≡ Some k → kind_of e ks ≡ Some k
first-kind ks ls e k w h =
    ap (λ x. kind_of x ks) (sym (put-itself e))
    ∙ put-kind (λ at. Col at) (ks ++ ls) ks e k (on-weaker (λ at. at < length ks) (KeepsKind (λ at. Col at) (ks ++ ls) ks) (λ at b. kind_at-left ks ls at b) e w) h

-- ---- a strict expression is NULL where a column of it is

abbrev pub AreNullBehind : ℕ → Row → Type 0
AreNullBehind n row = (at : ℕ) → n ≤ at → cell_at row at ≡ cell.Null

null_first : (c : Cell) (cs : List Cell) → c ≡ cell.Null → concat_of (c ∷ cs) ≡ None
null_first c cs e = ap (λ x. joined (text_of x) (concat_of cs)) e

none_rest : (o : Option (List ℕ)) → joined o None ≡ None
none_rest None = refl
none_rest (Some s) = refl

null_rest : (c : Cell) (cs : List Cell) → concat_of cs ≡ None → concat_of (c ∷ cs) ≡ None
null_rest c cs e = ap (joined (text_of c)) e ∙ none_rest (text_of c)

one_is : (n at : ℕ) → (nat_le n at || false) ≡ true → n ≤ at
one_is n at h = elim (or_cases (nat_le n at) false h) [ inl i ↦ leb-true n at i | inr i ↦ cc ]

module _ (n : ℕ) (row : Row) (nulls : AreNullBehind n row) where
  mutual
    strict-null : (e : Expr) → is_strict e ≡ true → names_behind n e ≡ true → value_of e row ≡ cell.Null
    strict-null (Col at) s h = nulls at (one_is n at h)
    strict-null (Const c k) s h = cc
    strict-null (MakeIri e) s h = ap (λ v. term_cell (option_map Iri (text_of v))) (strict-null e s h)
    strict-null (IriOf base e) s h = ap (λ v. text_cell (option_map (made_absolute base) (text_of v))) (strict-null e s h)
    strict-null (MakeBlank e) s h = ap (λ v. term_cell (option_map (λ t. Blank (blank_label t)) (text_of v))) (strict-null e s h)
    strict-null (MakeLit e l) s h = ap (λ v. term_cell (option_map (λ t. Lit t l) (text_of v))) (strict-null e s h)
    strict-null (Lex e) s h = ap (λ v. text_cell (lexical_form v)) (strict-null e s h)
    strict-null (IriSafe e) s h = ap (λ v. text_cell (option_map safe (text_of v))) (strict-null e s h)
    strict-null (Concat es) s h = ap (λ o. text_cell o) (strict-none es s h)
    strict-null (Same a b) s h = cc
    strict-null (IsNull e) s h = cc
    strict-null (Not e) s h = cc
    strict-null (And es) s h = cc
    strict-null (Or es) s h = cc
    strict-null (Coalesce es) s h = cc
    strict-null (Sparql op es) s h = cc
    strict-null (Ebv e) s h = cc

    strict-none : (es : Exprs) → are_strict es ≡ true → list_any (nat_le n) (columns_each es) ≡ true → concat_of (values_of es row) ≡ None
    strict-none Nil s h = cc
    strict-none (More e es) s h =
        let b = and_parts (is_strict e) (are_strict es) s in
        elim (or_cases (names_behind n e) (list_any (nat_le n) (columns_each es)) (sym (list_any-append (nat_le n) (columns e) (columns_each es)) ∙ h)) [
          | inl i ↦ null_first (value_of e row) (values_of es row) (strict-null e b.0 i)
          | inr i ↦ null_rest (value_of e row) (values_of es row) (strict-none es b.1 i)
        ]

  pub null-behind : (e : Expr) → is_null_behind n e ≡ true → value_of e row ≡ cell.Null
  null-behind e h =
      let b = and_parts (is_strict e && names_column e) (names_behind n e) h in
      strict-null e (and_parts (is_strict e) (names_column e) b.0).0 b.1

-- behind a row of n cells there are NULLs alone
nulls_at : (k at : ℕ) → cell_at (replicate k cell.Null) at ≡ cell.Null
nulls_at zero at = refl
nulls_at (suc k) zero = refl
nulls_at (suc k) (suc at) = nulls_at k at

padded-at : (l : Row) (k at : ℕ) → length l ≤ at → cell_at (l ++ replicate k cell.Null) at ≡ cell.Null
padded-at [] k at h = nulls_at k at
padded-at (c ∷ l) k zero h = absurd (omega (arith, h))
padded-at (c ∷ l) k (suc at) h = padded-at l k at (omega (arith, h))

pub padded-nulls : (l : Row) (n k : ℕ) → length l ≡ n → AreNullBehind n (l ++ replicate k cell.Null)
padded-nulls l n k w at h = padded-at l k at (omega (arith, w, h))
