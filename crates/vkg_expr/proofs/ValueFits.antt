-- A typed expression has a cell of its kind, or NULL.
use Rattle.std.proofs.Common.{◌≡◌, ◌∙◌, ℕ, Bool, true, false, not, List, [], ◌∷◌, refl, sym, ap, subst}
use Rattle.std.specs.Prelude.{Option, Some, None, find, unwrap_or, if◌then◌else◌}
use Rattle.std.specs.List.{list_all}
use Rattle.std.proofs.lemmas.Option.{same_Some}
use Rattle.vkg_lists.specs.Sets.{IsEqualityTest}
use Rattle.vkg_lists.proofs.Onto.{first_given, map_given}
use Rattle.vkg_lists.proofs.Results.{then_given}
use Rattle.vkg_terms.specs.declared.term.Term.{Term}
use Rattle.vkg_cells.specs.declared.cell.Cell.{Cell}
use Rattle.vkg_cells.specs.declared.cell.Cell.TheVariants as cell
use Rattle.vkg_cells.specs.declared.cell.SqlType.{SqlType}
use Rattle.vkg_cells.specs.declared.cell.SqlType.TheVariants as kind
use Rattle.vkg_schema.specs.Rows.{Row, is_null}
use Rattle.vkg_expr.specs.declared.expr.Operator.{Operator}
use Rattle.vkg_expr.specs.declared.expr.Operator.TheVariants.{Test, Take, Compare}
use Rattle.vkg_expr.specs.Expr.{Expr, Exprs, Col, Const, MakeIri, IriOf, MakeBlank, MakeLit, Lex, IriSafe, Concat, Same, IsNull, Not, And, Or, Coalesce, Sparql, Ebv, Nil, More}
use Rattle.vkg_expr.specs.Laws.{FitsRow, HasKinds, IsOfItsKind}
use Rattle.vkg_expr.specs.Steps.{Fits}
use Rattle.vkg_expr.specs.Typing.{common, equality_kind, fits, kind_of, kinds_of, lexical_kind, result_kind, same_family, same_kind}
use Rattle.vkg_expr.specs.Value.{coalesced, operator_value, term_cell, text_cell, truth_cell, value_of, values_of}
use Rattle.vkg_expr.proofs.KindLists.{itself}
use Rattle.vkg_lists.proofs.Bools.{and_parts, and_true}

pub along : (k l : SqlType) (c : Cell) → k ≡ l → Fits k c → Fits l c
along k l c e h = subst (λ m. Fits m c) e h

term_fits : (o : Option Term) → Fits kind.Term (term_cell o)
term_fits (Some t) = refl
term_fits None = refl

text_fits : (o : Option (List ℕ)) → Fits kind.Text (text_cell o)
text_fits (Some t) = refl
text_fits None = refl

truth_fits : (o : Option Bool) → Fits kind.Bool (truth_cell o)
truth_fits (Some t) = refl
truth_fits None = refl

pub null_fits : (k : SqlType) → Fits k cell.Null
null_fits kind.Text = refl
null_fits kind.Int = refl
null_fits kind.Dec = refl
null_fits kind.Bool = refl
null_fits kind.Date = refl
null_fits kind.Stamp = refl
null_fits kind.Bin = refl
null_fits kind.Time = refl
null_fits kind.Term = refl

lexical-is : (o : Option SqlType) (l : SqlType) → lexical_kind o ≡ Some l → kind.Text ≡ l
lexical-is None l e = cc
lexical-is (Some k) l e = (then_given (not (same_kind kind.Term k)) kind.Text l e).1

equality-is : (a b : Option SqlType) (l : SqlType) → equality_kind a b ≡ Some l → kind.Bool ≡ l
equality-is (Some m) (Some n) l e = (then_given (same_family m n) kind.Bool l e).1
equality-is (Some m) None l e = cc
equality-is None b l e = cc

pub kind_same : (k l : SqlType) → same_kind k l ≡ true → k ≡ l
kind_same kind.Text kind.Text e = refl
kind_same kind.Text kind.Int e = cc
kind_same kind.Text kind.Dec e = cc
kind_same kind.Text kind.Bool e = cc
kind_same kind.Text kind.Date e = cc
kind_same kind.Text kind.Stamp e = cc
kind_same kind.Text kind.Bin e = cc
kind_same kind.Text kind.Time e = cc
kind_same kind.Text kind.Term e = cc
kind_same kind.Int kind.Text e = cc
kind_same kind.Int kind.Int e = refl
kind_same kind.Int kind.Dec e = cc
kind_same kind.Int kind.Bool e = cc
kind_same kind.Int kind.Date e = cc
kind_same kind.Int kind.Stamp e = cc
kind_same kind.Int kind.Bin e = cc
kind_same kind.Int kind.Time e = cc
kind_same kind.Int kind.Term e = cc
kind_same kind.Dec kind.Text e = cc
kind_same kind.Dec kind.Int e = cc
kind_same kind.Dec kind.Dec e = refl
kind_same kind.Dec kind.Bool e = cc
kind_same kind.Dec kind.Date e = cc
kind_same kind.Dec kind.Stamp e = cc
kind_same kind.Dec kind.Bin e = cc
kind_same kind.Dec kind.Time e = cc
kind_same kind.Dec kind.Term e = cc
kind_same kind.Bool kind.Text e = cc
kind_same kind.Bool kind.Int e = cc
kind_same kind.Bool kind.Dec e = cc
kind_same kind.Bool kind.Bool e = refl
kind_same kind.Bool kind.Date e = cc
kind_same kind.Bool kind.Stamp e = cc
kind_same kind.Bool kind.Bin e = cc
kind_same kind.Bool kind.Time e = cc
kind_same kind.Bool kind.Term e = cc
kind_same kind.Date kind.Text e = cc
kind_same kind.Date kind.Int e = cc
kind_same kind.Date kind.Dec e = cc
kind_same kind.Date kind.Bool e = cc
kind_same kind.Date kind.Date e = refl
kind_same kind.Date kind.Stamp e = cc
kind_same kind.Date kind.Bin e = cc
kind_same kind.Date kind.Time e = cc
kind_same kind.Date kind.Term e = cc
kind_same kind.Stamp kind.Text e = cc
kind_same kind.Stamp kind.Int e = cc
kind_same kind.Stamp kind.Dec e = cc
kind_same kind.Stamp kind.Bool e = cc
kind_same kind.Stamp kind.Date e = cc
kind_same kind.Stamp kind.Stamp e = refl
kind_same kind.Stamp kind.Bin e = cc
kind_same kind.Stamp kind.Time e = cc
kind_same kind.Stamp kind.Term e = cc
kind_same kind.Bin kind.Text e = cc
kind_same kind.Bin kind.Int e = cc
kind_same kind.Bin kind.Dec e = cc
kind_same kind.Bin kind.Bool e = cc
kind_same kind.Bin kind.Date e = cc
kind_same kind.Bin kind.Stamp e = cc
kind_same kind.Bin kind.Bin e = refl
kind_same kind.Bin kind.Time e = cc
kind_same kind.Bin kind.Term e = cc
kind_same kind.Time kind.Text e = cc
kind_same kind.Time kind.Int e = cc
kind_same kind.Time kind.Dec e = cc
kind_same kind.Time kind.Bool e = cc
kind_same kind.Time kind.Date e = cc
kind_same kind.Time kind.Stamp e = cc
kind_same kind.Time kind.Bin e = cc
kind_same kind.Time kind.Time e = refl
kind_same kind.Time kind.Term e = cc
kind_same kind.Term kind.Text e = cc
kind_same kind.Term kind.Int e = cc
kind_same kind.Term kind.Dec e = cc
kind_same kind.Term kind.Bool e = cc
kind_same kind.Term kind.Date e = cc
kind_same kind.Term kind.Stamp e = cc
kind_same kind.Term kind.Bin e = cc
kind_same kind.Term kind.Time e = cc
kind_same kind.Term kind.Term e = refl

pub kinds_apart : IsEqualityTest same_kind
kinds_apart = record { decides = λ k l. (kind_same k l, λ e. ap (same_kind k) (sym e) ∙ itself k) }

coalesced-fits : (k : SqlType) (ms : List SqlType) (cs : List Cell) → list_all (same_kind k) ms ≡ true → HasKinds ms cs → Fits k (coalesced cs)
coalesced-fits k [] [] a h = null_fits k
coalesced-fits k [] (c ∷ cs) a h = absurd h
coalesced-fits k (m ∷ ms) [] a h = absurd h
coalesced-fits k (m ∷ ms) (c ∷ cs) a h =
    let b = and_parts (same_kind k m) (list_all (same_kind k) ms) a in
    at (is_null c) refl (along m k c (sym (kind_same k m b.0)) h.0) (coalesced-fits k ms cs b.1 h.1)
  where
    at : (n : Bool) → is_null c ≡ n → Fits k c → Fits k (coalesced cs) → Fits k (unwrap_or (if not n then Some c else find (λ c. not (is_null c)) cs) cell.Null)
    at true e h g = g
    at false e h g = h

pub common_given : (o : Option (List SqlType)) (l : SqlType) → common o ≡ Some l → (ms : List SqlType) × (o ≡ Some ms) × (list_all (same_kind l) ms ≡ true)
common_given None l e = cc
common_given (Some []) l e = cc
common_given (Some (k ∷ ks)) l e =
    let g = then_given (list_all (same_kind k) ks) k l e in
    (k ∷ ks, refl, subst (λ m. list_all (same_kind m) (k ∷ ks) ≡ true) g.1 (and_true (same_kind k k) (list_all (same_kind k) ks) (itself k) g.0))

test-fits : (op : _) (cs : List Cell) → Fits kind.Bool (operator_value (Test op) cs)
test-fits op [] = refl
test-fits op (c ∷ []) = truth_fits _
test-fits op (c ∷ d ∷ cs) = refl

take-fits : (op : _) (cs : List Cell) → Fits kind.Term (operator_value (Take op) cs)
take-fits op [] = refl
take-fits op (c ∷ []) = term_fits _
take-fits op (c ∷ d ∷ cs) = refl

compare-fits : (op : _) (cs : List Cell) → Fits kind.Bool (operator_value (Compare op) cs)
compare-fits op [] = refl
compare-fits op (c ∷ []) = refl
compare-fits op (c ∷ d ∷ []) = truth_fits _
compare-fits op (c ∷ d ∷ f ∷ cs) = refl

operator-fits : (op : Operator) (cs : List Cell) → Fits (result_kind op) (operator_value op cs)
operator-fits (Test op) cs = test-fits op cs
operator-fits (Take op) cs = take-fits op cs
operator-fits (Compare op) cs = compare-fits op cs

mutual
  pub value-fits : (e : Expr) (ks : List SqlType) (l : SqlType) (row : Row) → FitsRow ks row → kind_of e ks ≡ Some l → fits l (value_of e row) ≡ true
  value-fits (Col at) ks l row w t = w at l t
  value-fits (Const c k) ks l row w t = let g = then_given (fits k c) k l t in along k l c g.1 g.0
  value-fits (MakeIri e) ks l row w t = along _ l _ (then_given _ kind.Term l t).1 (term_fits _)
  value-fits (IriOf base e) ks l row w t = along _ l _ (then_given _ kind.Text l t).1 (text_fits _)
  value-fits (MakeBlank e) ks l row w t = along _ l _ (then_given _ kind.Term l t).1 (term_fits _)
  value-fits (MakeLit e a) ks l row w t = along _ l _ (then_given _ kind.Term l t).1 (term_fits _)
  value-fits (Lex e) ks l row w t = along _ l _ (lexical-is (kind_of e ks) l t) (text_fits _)
  value-fits (IriSafe e) ks l row w t = along _ l _ (then_given _ kind.Text l t).1 (text_fits _)
  value-fits (Concat es) ks l row w t = along _ l _ (then_given _ kind.Text l t).1 (text_fits _)
  value-fits (Same a b) ks l row w t = along _ l _ (equality-is (kind_of a ks) (kind_of b ks) l t) (truth_fits _)
  value-fits (IsNull e) ks l row w t = along kind.Bool l (value_of (IsNull e) row) (map_given (λ k. kind.Bool) (kind_of e ks) l t).2 refl
  value-fits (Not e) ks l row w t = along _ l _ (then_given _ kind.Bool l t).1 (truth_fits _)
  value-fits (And es) ks l row w t = along _ l _ (then_given _ kind.Bool l t).1 (truth_fits _)
  value-fits (Or es) ks l row w t = along _ l _ (then_given _ kind.Bool l t).1 (truth_fits _)
  value-fits (Coalesce es) ks l row w t =
      let m = common_given (kinds_of es ks) l t in
      coalesced-fits l m.0 (values_of es row) m.2 (values-fit es ks m.0 row w m.1)
  value-fits (Sparql op es) ks l row w t = along (result_kind op) l _ (then_given _ (result_kind op) l t).1 (operator-fits op (values_of es row))
  value-fits (Ebv e) ks l row w t = along _ l _ (then_given _ kind.Bool l t).1 (truth_fits _)

  pub values-fit : (es : Exprs) (ks ls : List SqlType) (row : Row) → FitsRow ks row → kinds_of es ks ≡ Some ls → HasKinds ls (values_of es row)
  values-fit Nil ks ls row w t = subst (λ z. HasKinds z []) (same_Some [] ls t) tt
  values-fit (More e es) ks ls row w t =
      let m = first_given (kind_of e ks) (kinds_of es ks) ls t in
      subst (λ z. HasKinds z (value_of e row ∷ values_of es row)) m.2.2 (value-fits e ks m.0 row w m.1, values-fit es ks m.2.0 row w m.2.1)

pub of_its_kind : (e : Expr) (row : Row) (c : Cell) → c ≡ value_of e row → IsOfItsKind e row c
of_its_kind e row c is ks k w t = subst (λ d. fits k d ≡ true) (sym is) (value-fits e ks k row w t)

pub ruleset fitting = (value-fits, of_its_kind)
