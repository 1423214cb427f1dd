-- Where `<` has an answer for two terms, their order is that of `<`.
use Rattle.std.proofs.Common.{◌≡◌, ℕ, Bool, true, false, not, ◌&&◌, List, Option, Some, None, refl, ◌∙◌, if◌then◌else◌, Ordering, Equal, nat_lt}
use Rattle.std.specs.Prelude.{IfSome, Ok, option_map}
use Rattle.std.specs.Bool.{then_some}
use Rattle.std.proofs.lemmas.Cmp.{alike_right}
use Rattle.vkg_terms.specs.declared.term.Term.TheVariants.{Iri, Blank, Lit}
use Rattle.vkg_terms.specs.declared.term.Annotation.{Annotation}
use Rattle.vkg_terms.specs.declared.term.Annotation.TheVariants.{Plain, Lang, Typed}
use Rattle.vkg_cells.specs.declared.cell.Cell.{Cell}
use Rattle.vkg_cells.specs.declared.cell.Cell.TheVariants as cell
use Rattle.vkg_cells.specs.declared.cell.SqlType.TheVariants as kind
use Rattle.vkg_cells.specs.Field.{where_number}
use Rattle.vkg_cells.specs.Laws.{HasValueOf}
use Rattle.vkg_cells.specs.Moment.{is_date, stamp_form}
use Rattle.vkg_cells.specs.Number.{canonical, is_decimal, is_integer, number_cmp, width}
use Rattle.vkg_cells.specs.Order.{order}
use Rattle.vkg_cells.proofs.LawLemmas.{values}
use Rattle.vkg_cells.proofs.OrderLemmas.{number-total}
use Rattle.vkg_values.specs.Known.{literal_value, moment_of, truth_of, widest}
use Rattle.vkg_values.specs.Operators.{compared_values, is_one_sort}
use Rattle.vkg_order.specs.Values.{IsByOperator, key_cmp, known_key, value_cmp}

field_ok : (fine wide : Bool) (text : List ℕ) (c : Cell) → nat_lt 38 (width text) ≡ wide → fine && not wide ≡ true → where_number fine text c ≡ Ok c
field_ok false wide text c e h = cc
field_ok true true text c e h = cc
field_ok true false text c e h = rw e refl

module _ (text : List ℕ) where
  if_so : (p : Bool) (c : Cell) → (p ≡ true → HasValueOf text c) → IfSome (then_some p c) (HasValueOf text)
  if_so true c h = h refl
  if_so false c h = tt

  of_moment : (any : Bool) (form : Option (List ℕ)) → IfSome (if any then option_map cell.Stamp form else None) (HasValueOf text)
  of_moment true (Some form) = tt
  of_moment true None = tt
  of_moment false form = tt

  of_truth : (is_true is_false : Bool) → IfSome (if is_true then Some (cell.Bool true) else then_some is_false (cell.Bool false)) (HasValueOf text)
  of_truth true other = tt
  of_truth false true = tt
  of_truth false false = tt

  of_datatype : (integer decimal boolean date moment : Bool) → IfSome
      (if integer then then_some (is_integer text && not (nat_lt 38 (width text))) (cell.Int (canonical text))
      else if decimal then then_some (is_decimal text && not (nat_lt 38 (width text))) (cell.Dec (canonical text))
      else if boolean then truth_of text
      else if date then then_some (is_date text) (cell.Date text)
      else if moment then moment_of text
      else None) (HasValueOf text)
  of_datatype true decimal boolean date moment = if_so _ _ (λ h. values kind.Int text (Ok (cell.Int (canonical text))) (field_ok (is_integer text) _ text _ refl h))
  of_datatype false true boolean date moment = if_so _ _ (λ h. values kind.Dec text (Ok (cell.Dec (canonical text))) (field_ok (is_decimal text) _ text _ refl h))
  of_datatype false false true date moment = of_truth _ _
  of_datatype false false false true moment = if_so _ _ (λ h. tt)
  of_datatype false false false false true = of_moment _ (stamp_form text)
  of_datatype false false false false false = tt

  -- a known number has the value of its text
  known-value : (annotation : Annotation) → IfSome (literal_value widest text annotation) (HasValueOf text)
  known-value Plain = tt
  known-value (Lang tag) = tt
  known-value (Typed datatype) = of_datatype _ _ _ _ _

same_value : (a b f g : List ℕ) → number_cmp a f ≡ Equal → number_cmp b g ≡ Equal → number_cmp a b ≡ number_cmp f g
same_value a b f g p q = number-total.congr a f b p ∙ alike_right number-total b g f q

by_value : (a b : List ℕ) (x y : Annotation) (c d : Cell) → HasValueOf a c → HasValueOf b d → is_one_sort c d ≡ true → key_cmp (known_key a x (Some c)) (known_key b y (Some d)) ≡ order c d
by_value a b x y (cell.Text u) (cell.Text v) p q h = refl
by_value a b x y (cell.Int f) (cell.Int g) p q h = same_value a b f g p q
by_value a b x y (cell.Int f) (cell.Dec g) p q h = same_value a b f g p q
by_value a b x y (cell.Dec f) (cell.Int g) p q h = same_value a b f g p q
by_value a b x y (cell.Dec f) (cell.Dec g) p q h = same_value a b f g p q
by_value a b x y (cell.Bool u) (cell.Bool v) p q h = refl
by_value a b x y (cell.Date u) (cell.Date v) p q h = refl
by_value a b x y (cell.Stamp u) (cell.Stamp v) p q h = refl
by_value a b x y c d p q h = cc

literals : (a b : List ℕ) (x y : Annotation) (o : Ordering) (k l : Option Cell) → IfSome k (HasValueOf a) → IfSome l (HasValueOf b) → compared_values k l ≡ Some o → key_cmp (known_key a x k) (known_key b y l) ≡ o
literals a b x y o None l p q e = cc
literals a b x y o (Some c) None p q e = cc
literals a b x y o (Some c) (Some d) p q e = by (is_one_sort c d) refl e
  where
    by : (t : Bool) → is_one_sort c d ≡ t → compared_values (Some c) (Some d) ≡ Some o → key_cmp (known_key a x (Some c)) (known_key b y (Some d)) ≡ o
    by true h k = by_value a b x y c d p q h ∙ (let f : ◌≡◌ {A = Option Ordering} (Some (order c d)) (Some o) = rw h at k in cc)
    by false h k = let f : ◌≡◌ {A = Option Ordering} None (Some o) = rw h at k in cc

pub by-operator : IsByOperator
unfolding value_cmp
by-operator (Lit a x) (Lit b y) o e = literals a b x y o (literal_value widest a x) (literal_value widest b y) (known-value a x) (known-value b y) e
by-operator (Iri a) t o e = cc
by-operator (Blank a) t o e = cc
by-operator (Lit a x) (Iri b) o e = by (literal_value widest a x) e
  where
    by : (k : Option Cell) → compared_values k None ≡ Some o → value_cmp (Some (Lit a x)) (Some (Iri b)) ≡ o
    by None e = cc
    by (Some c) e = cc
by-operator (Lit a x) (Blank b) o e = by (literal_value widest a x) e
  where
    by : (k : Option Cell) → compared_values k None ≡ Some o → value_cmp (Some (Lit a x)) (Some (Blank b)) ≡ o
    by None e = cc
    by (Some c) e = cc
