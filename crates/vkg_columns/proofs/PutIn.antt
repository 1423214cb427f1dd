-- An expression with others put in the place of its columns: its value and its kind.
use Rattle.std.proofs.Common.{◌≡◌, ◌∙◌, ℕ, suc, true, not, ◌&&◌, List, [], ◌∷◌, length, map, refl, sym, ap}
use Rattle.std.specs.Prelude.{Option, Some, option_and_then, option_map, ◌==◌}
use Rattle.std.specs.Bool.{then_some}
use Rattle.vkg_lists.specs.Options.{with_first}
use Rattle.vkg_lists.proofs.Bools.{and_parts, and_true}
use Rattle.vkg_lists.proofs.Onto.{first_given, map_given}
use Rattle.vkg_lists.proofs.Results.{then_given}
use Rattle.vkg_terms.specs.declared.term.Term.TheVariants.{Iri, Blank, Lit}
use Rattle.vkg_terms.specs.Iri.{made_absolute}
use Rattle.vkg_terms.specs.Label.{blank_label}
use Rattle.vkg_terms.specs.Safe.{safe}
use Rattle.vkg_cells.specs.declared.cell.Cell.TheVariants as cell
use Rattle.vkg_cells.specs.declared.cell.SqlType.{SqlType}
use Rattle.vkg_cells.specs.declared.cell.SqlType.TheVariants as kind
use Rattle.vkg_cells.specs.Form.{lexical_form}
use Rattle.vkg_cells.specs.Order.{same}
use Rattle.vkg_values.specs.Known.{widest}
use Rattle.vkg_values.specs.Logic.{not3}
use Rattle.vkg_values.specs.Operators.{ebv}
use Rattle.vkg_schema.specs.Rows.{Row, is_known_true, is_null}
use Rattle.vkg_expr.specs.Expr.{Expr, Exprs, Col, Const, MakeIri, IriOf, MakeBlank, MakeLit, Lex, IriSafe, Concat, Same, IsNull, Not, And, Or, Coalesce, Sparql, Ebv, Nil, More, each, exprs}
use Rattle.vkg_expr.specs.Strict.{put, put_each}
use Rattle.vkg_expr.specs.Typing.{are_all, arity, common, equality_kind, is_column, is_one, kind_of, kinds_of, lexical_kind, no_column, result_kind}
use Rattle.vkg_expr.specs.Value.{all_of, any_of, coalesced, concat_of, holds, operator_value, term_cell, term_of, text_cell, text_of, truth_cell, truth_of, value_of, values_of}
use Rattle.vkg_expr.proofs.TypedParts.{all_is, equality_given, lexical_given, one_is}
use Rattle.vkg_expr.proofs.ValueFits.{common_given}
use Rattle.vkg_columns.specs.Columns.{Gives, KeepsKind, OnColumns, OnEach}

-- with others put in it has the value that it has on the row of their values
mutual
  pub put-value : (by : ℕ → Expr) (row other : Row) (e : Expr) → OnColumns (Gives by row other) e → value_of (put by e) row ≡ value_of e other
  put-value by row other (Col at) h = h
  put-value by row other (Const c k) h = refl
  put-value by row other (MakeIri e) h = ap (λ v. term_cell (option_map Iri (text_of v))) (put-value by row other e h)
  put-value by row other (IriOf base e) h = ap (λ v. text_cell (option_map (made_absolute base) (text_of v))) (put-value by row other e h)
  put-value by row other (MakeBlank e) h = ap (λ v. term_cell (option_map (λ s. Blank (blank_label s)) (text_of v))) (put-value by row other e h)
  put-value by row other (MakeLit e l) h = ap (λ v. term_cell (option_map (λ s. Lit s l) (text_of v))) (put-value by row other e h)
  put-value by row other (Lex e) h = ap (λ v. text_cell (lexical_form v)) (put-value by row other e h)
  put-value by row other (IriSafe e) h = ap (λ v. text_cell (option_map safe (text_of v))) (put-value by row other e h)
  put-value by row other (IsNull e) h = ap (λ v. cell.Bool (is_null v)) (put-value by row other e h)
  put-value by row other (Not e) h = ap (λ v. truth_cell (not3 (truth_of v))) (put-value by row other e h)
  put-value by row other (Ebv e) h = ap (λ v. truth_cell (option_and_then (ebv widest) (term_of v))) (put-value by row other e h)
  put-value by row other (Same a b) h = λ i. truth_cell (same (put-value by row other a h.0 i) (put-value by row other b h.1 i))
  put-value by row other (Concat es) h = ap (λ vs. text_cell (concat_of vs)) (put_each-values by row other es h)
  put-value by row other (And es) h = ap (λ vs. truth_cell (all_of vs)) (put_each-values by row other es h)
  put-value by row other (Or es) h = ap (λ vs. truth_cell (any_of vs)) (put_each-values by row other es h)
  put-value by row other (Coalesce es) h = ap (λ vs. coalesced vs) (put_each-values by row other es h)
  put-value by row other (Sparql op es) h = ap (λ vs. operator_value op vs) (put_each-values by row other es h)

  pub put_each-values : (by : ℕ → Expr) (row other : Row) (es : Exprs) → OnEach (Gives by row other) es → values_of (put_each by es) row ≡ values_of es other
  put_each-values by row other Nil h = refl
  put_each-values by row other (More e es) h = λ i. put-value by row other e h.0 i ∷ put_each-values by row other es h.1 i

-- two ways to put in that agree on the columns named
mutual
  pub put-same : (f g : ℕ → Expr) (e : Expr) → OnColumns (λ at. f at ≡ g at) e → put f e ≡ put g e
  put-same f g (Col at) h = h
  put-same f g (Const c k) h = refl
  put-same f g (MakeIri e) h = ap MakeIri (put-same f g e h)
  put-same f g (IriOf base e) h = ap (λ x. IriOf base x) (put-same f g e h)
  put-same f g (MakeBlank e) h = ap MakeBlank (put-same f g e h)
  put-same f g (MakeLit e l) h = ap (λ x. MakeLit x l) (put-same f g e h)
  put-same f g (Lex e) h = ap Lex (put-same f g e h)
  put-same f g (IriSafe e) h = ap IriSafe (put-same f g e h)
  put-same f g (IsNull e) h = ap IsNull (put-same f g e h)
  put-same f g (Not e) h = ap Not (put-same f g e h)
  put-same f g (Ebv e) h = ap Ebv (put-same f g e h)
  put-same f g (Same a b) h = λ i. Same (put-same f g a h.0 i) (put-same f g b h.1 i)
  put-same f g (Concat es) h = ap Concat (put_each-same f g es h)
  put-same f g (And es) h = ap And (put_each-same f g es h)
  put-same f g (Or es) h = ap Or (put_each-same f g es h)
  put-same f g (Coalesce es) h = ap Coalesce (put_each-same f g es h)
  put-same f g (Sparql op es) h = ap (λ x. Sparql op x) (put_each-same f g es h)

  pub put_each-same : (f g : ℕ → Expr) (es : Exprs) → OnEach (λ at. f at ≡ g at) es → put_each f es ≡ put_each g es
  put_each-same f g Nil h = refl
  put_each-same f g (More e es) h = λ i. More (put-same f g e h.0 i) (put_each-same f g es h.1 i)

pub put-holds : (by : ℕ → Expr) (row other : Row) (c : Expr) → OnColumns (Gives by row other) c → holds (put by c) row ≡ holds c other
put-holds by row other c h = ap (λ v. is_known_true (truth_of v)) (put-value by row other c h)

-- expressions in a list, each with others put in
pub put_each-exprs : (by : ℕ → Expr) (es : List Expr) → put_each by (exprs es) ≡ exprs (map (put by) es)
put_each-exprs by [] = refl
put_each-exprs by (e ∷ es) = ap (More (put by e)) (put_each-exprs by es)

-- ---- kinds

no_column-put : (by : ℕ → Expr) (e : Expr) → not (is_column e) ≡ true → not (is_column (put by e)) ≡ true
no_column-put by (Col at) h = cc
no_column-put by (Const c k) h = refl
no_column-put by (MakeIri e) h = refl
no_column-put by (IriOf base e) h = refl
no_column-put by (MakeBlank e) h = refl
no_column-put by (MakeLit e l) h = refl
no_column-put by (Lex e) h = refl
no_column-put by (IriSafe e) h = refl
no_column-put by (IsNull e) h = refl
no_column-put by (Not e) h = refl
no_column-put by (Ebv e) h = refl
no_column-put by (Same a b) h = refl
no_column-put by (Concat es) h = refl
no_column-put by (And es) h = refl
no_column-put by (Or es) h = refl
no_column-put by (Coalesce es) h = refl
no_column-put by (Sparql op es) h = refl

no_columns-put : (by : ℕ → Expr) (es : Exprs) → no_column es ≡ true → no_column (put_each by es) ≡ true
no_columns-put by Nil h = refl
no_columns-put by (More e es) h = let b = and_parts (not (is_column e)) (no_column es) h in and_true _ _ (no_column-put by e b.0) (no_columns-put by es b.1)

put_each-length : (by : ℕ → Expr) (es : Exprs) → length (each (put_each by es)) ≡ length (each es)
put_each-length by Nil = refl
put_each-length by (More e es) = ap suc (put_each-length by es)

one-through : (m g k : SqlType) (x y : Option SqlType) → then_some (is_one m x) g ≡ Some k → (x ≡ Some m → y ≡ Some m) → then_some (is_one m y) g ≡ Some k
one-through m g k x y h f = let i = one_is m x (then_given (is_one m x) g k h).0 in ap (λ z. then_some (is_one m z) g) (f i ∙ sym i) ∙ h

all-through : (m : SqlType) (x y : Option (List SqlType)) → are_all m x ≡ true → ((ms : List SqlType) → x ≡ Some ms → y ≡ Some ms) → are_all m y ≡ true
all-through m x y h f = let a = all_is m x h in ap (are_all m) (f a.0 a.1 ∙ sym a.1) ∙ h

mutual
  pub put-kind : (by : ℕ → Expr) (ks ls : List SqlType) (e : Expr) (k : SqlType) → OnColumns (KeepsKind by ks ls) e → kind_of e ks ≡ Some k → kind_of (put by e) ls ≡ Some k
  put-kind by ks ls (Col at) k o h = o ∙ h
  put-kind by ks ls (Const c l) k o h = h
  put-kind by ks ls (MakeIri e) k o h = one-through kind.Text kind.Term k (kind_of e ks) (kind_of (put by e) ls) h (λ i. put-kind by ks ls e kind.Text o i)
  put-kind by ks ls (IriOf base e) k o h = one-through kind.Text kind.Text k (kind_of e ks) (kind_of (put by e) ls) h (λ i. put-kind by ks ls e kind.Text o i)
  put-kind by ks ls (MakeBlank e) k o h = one-through kind.Text kind.Term k (kind_of e ks) (kind_of (put by e) ls) h (λ i. put-kind by ks ls e kind.Text o i)
  put-kind by ks ls (MakeLit e l) k o h = one-through kind.Text kind.Term k (kind_of e ks) (kind_of (put by e) ls) h (λ i. put-kind by ks ls e kind.Text o i)
  put-kind by ks ls (Lex e) k o h = let m = lexical_given (kind_of e ks) k h in ap lexical_kind (put-kind by ks ls e m.0 o m.1 ∙ sym m.1) ∙ h
  put-kind by ks ls (IriSafe e) k o h = one-through kind.Text kind.Text k (kind_of e ks) (kind_of (put by e) ls) h (λ i. put-kind by ks ls e kind.Text o i)
  put-kind by ks ls (IsNull e) k o h = let m = map_given (λ k. kind.Bool) (kind_of e ks) k h in ap (option_map (λ k. kind.Bool)) (put-kind by ks ls e m.0 o m.1 ∙ sym m.1) ∙ h
  put-kind by ks ls (Not e) k o h = one-through kind.Bool kind.Bool k (kind_of e ks) (kind_of (put by e) ls) h (λ i. put-kind by ks ls e kind.Bool o i)
  put-kind by ks ls (Ebv e) k o h = one-through kind.Term kind.Bool k (kind_of e ks) (kind_of (put by e) ls) h (λ i. put-kind by ks ls e kind.Term o i)
  put-kind by ks ls (Same a b) k o h =
      let m = equality_given (kind_of a ks) (kind_of b ks) k h in
      ap (λ x. equality_kind x (kind_of (put by b) ls)) (put-kind by ks ls a m.0.0 o.0 m.0.1 ∙ sym m.0.1) ∙ ap (equality_kind (kind_of a ks)) (put-kind by ks ls b m.1.0 o.1 m.1.1 ∙ sym m.1.1) ∙ h
  put-kind by ks ls (Concat es) k o h =
      let b = and_parts (no_column es) (are_all kind.Text (kinds_of es ks)) (then_given (no_column es && are_all kind.Text (kinds_of es ks)) kind.Text k h).0 in
      ap (λ t. then_some (t && are_all kind.Text (kinds_of (put_each by es) ls)) kind.Text) (no_columns-put by es b.0 ∙ sym b.0)
      ∙ ap (λ x. then_some (no_column es && x) kind.Text) (all-through kind.Text (kinds_of es ks) (kinds_of (put_each by es) ls) b.1 (λ ms i. put_each-kinds by ks ls es ms o i) ∙ sym b.1) ∙ h
  put-kind by ks ls (And es) k o h = let b = (then_given (are_all kind.Bool (kinds_of es ks)) kind.Bool k h).0 in ap (λ x. then_some x kind.Bool) (all-through kind.Bool (kinds_of es ks) (kinds_of (put_each by es) ls) b (λ ms i. put_each-kinds by ks ls es ms o i) ∙ sym b) ∙ h
  put-kind by ks ls (Or es) k o h = let b = (then_given (are_all kind.Bool (kinds_of es ks)) kind.Bool k h).0 in ap (λ x. then_some x kind.Bool) (all-through kind.Bool (kinds_of es ks) (kinds_of (put_each by es) ls) b (λ ms i. put_each-kinds by ks ls es ms o i) ∙ sym b) ∙ h
  put-kind by ks ls (Coalesce es) k o h = let m = common_given (kinds_of es ks) k h in ap common (put_each-kinds by ks ls es m.0 o m.1 ∙ sym m.1) ∙ h
  put-kind by ks ls (Sparql op es) k o h =
      let b = and_parts (length (each es) == arity op) (are_all kind.Term (kinds_of es ks)) (then_given ((length (each es) == arity op) && are_all kind.Term (kinds_of es ks)) (result_kind op) k h).0 in
      ap (λ n. then_some ((n == arity op) && are_all kind.Term (kinds_of (put_each by es) ls)) (result_kind op)) (put_each-length by es)
      ∙ ap (λ x. then_some ((length (each es) == arity op) && x) (result_kind op)) (all-through kind.Term (kinds_of es ks) (kinds_of (put_each by es) ls) b.1 (λ ms i. put_each-kinds by ks ls es ms o i) ∙ sym b.1) ∙ h

  pub put_each-kinds : (by : ℕ → Expr) (ks ls : List SqlType) (es : Exprs) (ms : List SqlType) → OnEach (KeepsKind by ks ls) es → kinds_of es ks ≡ Some ms → kinds_of (put_each by es) ls ≡ Some ms
  put_each-kinds by ks ls Nil ms o h = h
  put_each-kinds by ks ls (More e es) ms o h =
      let m = first_given (kind_of e ks) (kinds_of es ks) ms h in
      ap (λ x. with_first x (kinds_of (put_each by es) ls)) (put-kind by ks ls e m.0 o.0 m.1) ∙ ap (with_first (Some m.0)) (put_each-kinds by ks ls es m.2.0 o.1 m.2.1) ∙ ap Some m.2.2
