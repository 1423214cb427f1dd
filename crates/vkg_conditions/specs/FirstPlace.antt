-- A change at the first place of an expression: what a step keeps, the whole keeps.
use Rattle.std.proofs.Common.{◌≡◌, ◌∙◌, ◌⊎◌, inl, inr, suc, true, not, ◌&&◌, List, ◌∷◌, length, refl, sym, ap, subst}
use Rattle.std.specs.Prelude.{Option, Some, None, option_and_then, option_map, ◌==◌}
use Rattle.std.specs.Bool.{then_some}
use Rattle.std.specs.Option.{option_or}
use Rattle.vkg_lists.specs.Options.{with_first}
use Rattle.vkg_lists.proofs.Bools.{and_parts, and_true}
use Rattle.vkg_lists.proofs.Onto.{first_given, map_given}
use Rattle.vkg_lists.proofs.Results.{then_given}
use Rattle.vkg_terms.specs.declared.term.Term.TheVariants.{Iri, Blank, Lit}
use Rattle.vkg_terms.specs.Iri.{made_absolute}
use Rattle.vkg_terms.specs.Label.{blank_label}
use Rattle.vkg_terms.specs.Safe.{safe}
use Rattle.vkg_cells.specs.declared.cell.Cell.TheVariants as cell
use Rattle.vkg_cells.specs.declared.cell.SqlType.{SqlType}
use Rattle.vkg_cells.specs.declared.cell.SqlType.TheVariants as kind
use Rattle.vkg_cells.specs.Form.{lexical_form}
use Rattle.vkg_cells.specs.Order.{same}
use Rattle.vkg_values.specs.Known.{widest}
use Rattle.vkg_values.specs.Logic.{not3}
use Rattle.vkg_values.specs.Operators.{ebv}
use Rattle.vkg_schema.specs.Rows.{Row, is_null}
use Rattle.vkg_expr.specs.Expr.{Expr, Exprs, Col, Const, MakeIri, IriOf, MakeBlank, MakeLit, Lex, IriSafe, Concat, Same, IsNull, Not, And, Or, Coalesce, Sparql, Ebv, Nil, More, each}
use Rattle.vkg_expr.specs.Places.{first_place, first_of_each}
use Rattle.vkg_expr.specs.Typing.{are_all, arity, common, equality_kind, is_column, is_one, kind_of, kinds_of, lexical_kind, no_column, result_kind}
use Rattle.vkg_expr.specs.Value.{all_of, any_of, coalesced, concat_of, operator_value, term_cell, term_of, text_cell, text_of, truth_cell, truth_of, value_of, values_of}
use Rattle.vkg_expr.proofs.KindLists.{are_all-more}
use Rattle.vkg_expr.proofs.TypedParts.{all_is, equality_given, lexical_given, one_is}
use Rattle.vkg_expr.proofs.ValueFits.{common_given}
use Rattle.vkg_conditions.specs.SameAs.{SameEachOn, SameOn}

pub or_cases : {X : Type 0} (a b : Option X) (x : X) → option_or a b ≡ Some x → (a ≡ Some x) ⊎ (b ≡ Some x)
or_cases None b x e = inr e
or_cases (Some y) b x e = inl e

-- ---- a text that is no column stays none, where only truths are changed

module _ (ks : List SqlType) (f : Expr → Option Expr) (truths : (e d : Expr) (k : SqlType) → kind_of e ks ≡ Some k → f e ≡ Some d → k ≡ kind.Bool) where
  bare_root : (e d : Expr) (o : Option Expr) → kind_of e ks ≡ Some kind.Text → option_or (f e) o ≡ Some d → (o ≡ Some d → not (is_column d) ≡ true) → not (is_column d) ≡ true
  bare_root e d o t h g = elim (or_cases (f e) o d h) [ inl i ↦ (let b = truths e d kind.Text t i in cc b) | inr i ↦ g i ]

  bare_below : {X : Type 0} (g : X → Expr) (o : Option X) (d : Expr) → ((x : X) → not (is_column (g x)) ≡ true) → option_map g o ≡ Some d → not (is_column d) ≡ true
  bare_below g o d n h = let m = map_given g o d h in subst (λ x. not (is_column x) ≡ true) m.2 (n m.0)

  bare_place : (e d : Expr) → kind_of e ks ≡ Some kind.Text → first_place f e ≡ Some d → not (is_column e) ≡ true → not (is_column d) ≡ true
  bare_place (Col at) d t h n = cc
  bare_place (Const c k) d t h n = let b = truths (Const c k) d kind.Text t h in cc b
  bare_place (MakeIri e) d t h n = bare_root (MakeIri e) d _ t h (bare_below MakeIri (first_place f e) d (λ x. refl))
  bare_place (IriOf base e) d t h n = bare_root (IriOf base e) d _ t h (bare_below (λ x. IriOf base x) (first_place f e) d (λ x. refl))
  bare_place (MakeBlank e) d t h n = bare_root (MakeBlank e) d _ t h (bare_below MakeBlank (first_place f e) d (λ x. refl))
  bare_place (MakeLit e l) d t h n = bare_root (MakeLit e l) d _ t h (bare_below (λ x. MakeLit x l) (first_place f e) d (λ x. refl))
  bare_place (Lex e) d t h n = bare_root (Lex e) d _ t h (bare_below Lex (first_place f e) d (λ x. refl))
  bare_place (IriSafe e) d t h n = bare_root (IriSafe e) d _ t h (bare_below IriSafe (first_place f e) d (λ x. refl))
  bare_place (IsNull e) d t h n = bare_root (IsNull e) d _ t h (bare_below IsNull (first_place f e) d (λ x. refl))
  bare_place (Not e) d t h n = bare_root (Not e) d _ t h (bare_below Not (first_place f e) d (λ x. refl))
  bare_place (Ebv e) d t h n = bare_root (Ebv e) d _ t h (bare_below Ebv (first_place f e) d (λ x. refl))
  bare_place (Same a b) d t h n = bare_root (Same a b) d _ t h (λ i. elim (or_cases _ _ d i) [ inl j ↦ bare_below (λ x. Same x b) (first_place f a) d (λ x. refl) j | inr j ↦ bare_below (λ x. Same a x) (first_place f b) d (λ x. refl) j ])
  bare_place (Concat es) d t h n = bare_root (Concat es) d _ t h (bare_below Concat (first_of_each f es) d (λ x. refl))
  bare_place (And es) d t h n = bare_root (And es) d _ t h (bare_below And (first_of_each f es) d (λ x. refl))
  bare_place (Or es) d t h n = bare_root (Or es) d _ t h (bare_below Or (first_of_each f es) d (λ x. refl))
  bare_place (Coalesce es) d t h n = bare_root (Coalesce es) d _ t h (bare_below Coalesce (first_of_each f es) d (λ x. refl))
  bare_place (Sparql op es) d t h n = bare_root (Sparql op es) d _ t h (bare_below (λ x. Sparql op x) (first_of_each f es) d (λ x. refl))

  pub bare-of_each : (es ds : Exprs) → are_all kind.Text (kinds_of es ks) ≡ true → no_column es ≡ true → first_of_each f es ≡ Some ds → no_column ds ≡ true
  bare-of_each Nil ds t n h = cc
  bare-of_each (More e es) ds t n h =
      let b = and_parts (not (is_column e)) (no_column es) n in
      let a = and_parts (is_one kind.Text (kind_of e ks)) (are_all kind.Text (kinds_of es ks)) (sym (are_all-more kind.Text (kind_of e ks) (kinds_of es ks)) ∙ t) in
      elim (or_cases _ _ ds h) [
        | inl i ↦ let m = map_given (λ x. More x es) (first_place f e) ds i in subst (λ x. no_column x ≡ true) m.2 (and_true _ _ (bare_place e m.0 (one_is kind.Text (kind_of e ks) a.0) m.1 b.0) b.1)
        | inr i ↦ let m = map_given (λ x. More e x) (first_of_each f es) ds i in subst (λ x. no_column x ≡ true) m.2 (and_true _ _ b.0 (bare-of_each es m.0 a.1 b.1 m.1))
      ]

-- ---- kind and value

module _ (On : Row → Type 0) (ks : List SqlType) (f : Expr → Option Expr)
    (good : (e d : Expr) (k : SqlType) → kind_of e ks ≡ Some k → f e ≡ Some d → SameOn On ks e d)
    (texts : (es ds : Exprs) → are_all kind.Text (kinds_of es ks) ≡ true → no_column es ≡ true → first_of_each f es ≡ Some ds → no_column ds ≡ true) where
  at_root : (e d : Expr) (k : SqlType) (o : Option Expr) → kind_of e ks ≡ Some k → option_or (f e) o ≡ Some d → (o ≡ Some d → SameOn On ks e d) → SameOn On ks e d
  at_root e d k o t h g = elim (or_cases (f e) o d h) [ inl i ↦ good e d k t i | inr i ↦ g i ]

  below : {X : Type 0} (g : X → Expr) (o : Option X) (whole d : Expr) → option_map g o ≡ Some d → ((y : X) → o ≡ Some y → SameOn On ks whole (g y)) → SameOn On ks whole d
  below g o whole d h k = let m = map_given g o d h in subst (SameOn On ks whole) m.2 (k m.0 m.1)

  mutual
    pub first_place-same : (e d : Expr) (k : SqlType) → kind_of e ks ≡ Some k → first_place f e ≡ Some d → SameOn On ks e d
    first_place-same (Col at) d k t h = good (Col at) d k t h
    first_place-same (Const c l) d k t h = good (Const c l) d k t h
    first_place-same (MakeIri e) d k t h = at_root (MakeIri e) d k _ t h (λ i. below MakeIri (first_place f e) (MakeIri e) d i (λ y j.
        let s = first_place-same e y kind.Text (one_is kind.Text (kind_of e ks) (then_given (is_one kind.Text (kind_of e ks)) kind.Term k t).0) j in
        record { kind_kept = ap (λ x. then_some (is_one kind.Text x) kind.Term) s.kind_kept; value = λ row w. ap (λ v. term_cell (option_map Iri (text_of v))) (s.value row w) }))
    first_place-same (IriOf base e) d k t h = at_root (IriOf base e) d k _ t h (λ i. below (λ x. IriOf base x) (first_place f e) (IriOf base e) d i (λ y j.
        let s = first_place-same e y kind.Text (one_is kind.Text (kind_of e ks) (then_given (is_one kind.Text (kind_of e ks)) kind.Text k t).0) j in
        record { kind_kept = ap (λ x. then_some (is_one kind.Text x) kind.Text) s.kind_kept; value = λ row w. ap (λ v. text_cell (option_map (made_absolute base) (text_of v))) (s.value row w) }))
    first_place-same (MakeBlank e) d k t h = at_root (MakeBlank e) d k _ t h (λ i. below MakeBlank (first_place f e) (MakeBlank e) d i (λ y j.
        let s = first_place-same e y kind.Text (one_is kind.Text (kind_of e ks) (then_given (is_one kind.Text (kind_of e ks)) kind.Term k t).0) j in
        record { kind_kept = ap (λ x. then_some (is_one kind.Text x) kind.Term) s.kind_kept; value = λ row w. ap (λ v. term_cell (option_map (λ s. Blank (blank_label s)) (text_of v))) (s.value row w) }))
    first_place-same (MakeLit e l) d k t h = at_root (MakeLit e l) d k _ t h (λ i. below (λ x. MakeLit x l) (first_place f e) (MakeLit e l) d i (λ y j.
        let s = first_place-same e y kind.Text (one_is kind.Text (kind_of e ks) (then_given (is_one kind.Text (kind_of e ks)) kind.Term k t).0) j in
        record { kind_kept = ap (λ x. then_some (is_one kind.Text x) kind.Term) s.kind_kept; value = λ row w. ap (λ v. term_cell (option_map (λ s. Lit s l) (text_of v))) (s.value row w) }))
    first_place-same (Lex e) d k t h = at_root (Lex e) d k _ t h (λ i. below Lex (first_place f e) (Lex e) d i (λ y j.
        let m = lexical_given (kind_of e ks) k t in
        let s = first_place-same e y m.0 m.1 j in
        record { kind_kept = ap lexical_kind s.kind_kept; value = λ row w. ap (λ v. text_cell (lexical_form v)) (s.value row w) }))
    first_place-same (IriSafe e) d k t h = at_root (IriSafe e) d k _ t h (λ i. below IriSafe (first_place f e) (IriSafe e) d i (λ y j.
        let s = first_place-same e y kind.Text (one_is kind.Text (kind_of e ks) (then_given (is_one kind.Text (kind_of e ks)) kind.Text k t).0) j in
        record { kind_kept = ap (λ x. then_some (is_one kind.Text x) kind.Text) s.kind_kept; value = λ row w. ap (λ v. text_cell (option_map safe (text_of v))) (s.value row w) }))
    first_place-same (IsNull e) d k t h = at_root (IsNull e) d k _ t h (λ i. below IsNull (first_place f e) (IsNull e) d i (λ y j.
        let m = map_given (λ k. kind.Bool) (kind_of e ks) k t in
        let s = first_place-same e y m.0 m.1 j in
        record { kind_kept = ap (option_map (λ k. kind.Bool)) s.kind_kept; value = λ row w. ap (λ v. cell.Bool (is_null v)) (s.value row w) }))
    first_place-same (Not e) d k t h = at_root (Not e) d k _ t h (λ i. below Not (first_place f e) (Not e) d i (λ y j.
        let s = first_place-same e y kind.Bool (one_is kind.Bool (kind_of e ks) (then_given (is_one kind.Bool (kind_of e ks)) kind.Bool k t).0) j in
        record { kind_kept = ap (λ x. then_some (is_one kind.Bool x) kind.Bool) s.kind_kept; value = λ row w. ap (λ v. truth_cell (not3 (truth_of v))) (s.value row w) }))
    first_place-same (Ebv e) d k t h = at_root (Ebv e) d k _ t h (λ i. below Ebv (first_place f e) (Ebv e) d i (λ y j.
        let s = first_place-same e y kind.Term (one_is kind.Term (kind_of e ks) (then_given (is_one kind.Term (kind_of e ks)) kind.Bool k t).0) j in
        record { kind_kept = ap (λ x. then_some (is_one kind.Term x) kind.Bool) s.kind_kept; value = λ row w. ap (λ v. truth_cell (option_and_then (ebv widest) (term_of v))) (s.value row w) }))
    first_place-same (Same a b) d k t h =
        let m = equality_given (kind_of a ks) (kind_of b ks) k t in
        at_root (Same a b) d k _ t h (λ i. elim (or_cases _ _ d i) [
          | inl j ↦ below (λ x. Same x b) (first_place f a) (Same a b) d j (λ y l. let s = first_place-same a y m.0.0 m.0.1 l in
              record { kind_kept = ap (λ x. equality_kind x (kind_of b ks)) s.kind_kept; value = λ row w. ap (λ v. truth_cell (same v (value_of b row))) (s.value row w) })
          | inr j ↦ below (λ x. Same a x) (first_place f b) (Same a b) d j (λ y l. let s = first_place-same b y m.1.0 m.1.1 l in
              record { kind_kept = ap (equality_kind (kind_of a ks)) s.kind_kept; value = λ row w. ap (λ v. truth_cell (same (value_of a row) v)) (s.value row w) })
        ])
    first_place-same (Concat es) d k t h = at_root (Concat es) d k _ t h (λ i. below Concat (first_of_each f es) (Concat es) d i (λ y j.
        let b = and_parts (no_column es) (are_all kind.Text (kinds_of es ks)) (then_given (no_column es && are_all kind.Text (kinds_of es ks)) kind.Text k t).0 in
        let a = all_is kind.Text (kinds_of es ks) b.1 in
        let s = first_of_each-same es y a.0 a.1 j in
        record { kind_kept = (λ i. then_some ((texts es y b.1 b.0 j ∙ sym b.0) i && are_all kind.Text (s.kinds_kept i)) kind.Text); value = λ row w. ap (λ vs. text_cell (concat_of vs)) (s.values row w) }))
    first_place-same (And es) d k t h = at_root (And es) d k _ t h (λ i. below And (first_of_each f es) (And es) d i (λ y j.
        let a = all_is kind.Bool (kinds_of es ks) (then_given (are_all kind.Bool (kinds_of es ks)) kind.Bool k t).0 in
        let s = first_of_each-same es y a.0 a.1 j in
        record { kind_kept = ap (λ x. then_some (are_all kind.Bool x) kind.Bool) s.kinds_kept; value = λ row w. ap (λ vs. truth_cell (all_of vs)) (s.values row w) }))
    first_place-same (Or es) d k t h = at_root (Or es) d k _ t h (λ i. below Or (first_of_each f es) (Or es) d i (λ y j.
        let a = all_is kind.Bool (kinds_of es ks) (then_given (are_all kind.Bool (kinds_of es ks)) kind.Bool k t).0 in
        let s = first_of_each-same es y a.0 a.1 j in
        record { kind_kept = ap (λ x. then_some (are_all kind.Bool x) kind.Bool) s.kinds_kept; value = λ row w. ap (λ vs. truth_cell (any_of vs)) (s.values row w) }))
    first_place-same (Coalesce es) d k t h = at_root (Coalesce es) d k _ t h (λ i. below Coalesce (first_of_each f es) (Coalesce es) d i (λ y j.
        let a = common_given (kinds_of es ks) k t in
        let s = first_of_each-same es y a.0 a.1 j in
        record { kind_kept = ap common s.kinds_kept; value = λ row w. ap (λ vs. coalesced vs) (s.values row w) }))
    first_place-same (Sparql op es) d k t h = at_root (Sparql op es) d k _ t h (λ i. below (λ x. Sparql op x) (first_of_each f es) (Sparql op es) d i (λ y j.
        let b = and_parts (length (each es) == arity op) (are_all kind.Term (kinds_of es ks)) (then_given ((length (each es) == arity op) && are_all kind.Term (kinds_of es ks)) (result_kind op) k t).0 in
        let a = all_is kind.Term (kinds_of es ks) b.1 in
        let s = first_of_each-same es y a.0 a.1 j in
        record { kind_kept = (λ i. then_some ((s.as_many i == arity op) && are_all kind.Term (s.kinds_kept i)) (result_kind op)); value = λ row w. ap (λ vs. operator_value op vs) (s.values row w) }))

    pub first_of_each-same : (es ds : Exprs) (ls : List SqlType) → kinds_of es ks ≡ Some ls → first_of_each f es ≡ Some ds → SameEachOn On ks es ds
    first_of_each-same Nil ds ls t h = cc
    first_of_each-same (More e es) ds ls t h =
        let m = first_given (kind_of e ks) (kinds_of es ks) ls t in
        elim (or_cases _ _ ds h) [
          | inl i ↦ let n = map_given (λ x. More x es) (first_place f e) ds i in let s = first_place-same e n.0 m.0 m.1 n.1 in
              subst (SameEachOn On ks (More e es)) n.2 (record { kinds_kept = ap (λ x. with_first x (kinds_of es ks)) s.kind_kept; as_many = refl; values = λ row w. ap (λ v. v ∷ values_of es row) (s.value row w) })
          | inr i ↦ let n = map_given (λ x. More e x) (first_of_each f es) ds i in let s = first_of_each-same es n.0 m.2.0 m.2.1 n.1 in
              subst (SameEachOn On ks (More e es)) n.2 (record { kinds_kept = ap (with_first (kind_of e ks)) s.kinds_kept; as_many = ap suc s.as_many; values = λ row w. ap (λ v. value_of e row ∷ v) (s.values row w) })
        ]
