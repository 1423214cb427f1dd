-- Cells that are equal in the order are the same cell.
use Rattle.std.proofs.Common.{◌≡◌, ◌∙◌, ℕ, Bool, true, false, List, refl, sym, length}
use Rattle.std.specs.Ordering.{nat_cmp, ordering_then}
use Rattle.std.specs.Cmp.{nat_cmp_is}
use Rattle.std.specs.Cmp.Lexicographic.{slice_cmp}
use Rattle.std.specs.declared.cmp.Ordering.{Ordering}
use Rattle.std.specs.declared.cmp.Ordering.TheVariants.{Less, Equal, Greater}
use Rattle.std.proofs.lemmas.Map.Lookups.{exact_bytes}
use Rattle.std.proofs.lemmas.Cmp.{nat_list_cmp_total, tied_itself}
use Rattle.vkg_lists.proofs.Orders.{then_equal}
use Rattle.vkg_cells.specs.Number.{canonical, fraction, is_below_zero, is_decimal, number_cmp, whole, without_leading_zeros, without_trailing_zeros}
use Rattle.vkg_cells.proofs.CanonicalLemmas.{is-read, spelled}
use Rattle.vkg_cells.proofs.SignLemmas.{cmp-above, cmp-above-below, cmp-below, cmp-below-above, cmp-size, size_cmp}

-- the digits that count
abbrev pub digits : List ℕ → List ℕ × List ℕ
digits text = (without_leading_zeros (whole text), without_trailing_zeros (fraction text))

size-digits : (a b : List ℕ) → is_decimal a ≡ true → is_decimal b ≡ true → size_cmp a b ≡ Equal → digits a ≡ digits b
size-digits a b da db e =
    let all = then_equal _ _ (cmp-size a b da db ∙ e) in
    let wholes = exact_bytes (without_leading_zeros (whole a)) (without_leading_zeros (whole b)) (then_equal _ _ all.0).1 in
    let fractions = exact_bytes (without_trailing_zeros (fraction a)) (without_trailing_zeros (fraction b)) all.1 in
    λ i. (wholes i, fractions i)

abbrev digits_cmp : List ℕ × List ℕ → List ℕ × List ℕ → Ordering
digits_cmp p q = ordering_then (ordering_then (nat_cmp (length p.0) (length q.0)) (slice_cmp nat_cmp p.0 q.0)) (slice_cmp nat_cmp p.1 q.1)

digits-itself : (p : List ℕ × List ℕ) → digits_cmp p p ≡ Equal
digits-itself p = rw (sym (nat_cmp_is (length p.0) (length p.0) Equal refl), tied_itself nat_list_cmp_total p.0, tied_itself nat_list_cmp_total p.1) refl

digits-size : (a b : List ℕ) → is_decimal a ≡ true → is_decimal b ≡ true → digits a ≡ digits b → size_cmp a b ≡ Equal
digits-size a b da db e = sym (cmp-size a b da db) ∙ (λ i. digits_cmp (e i) (digits b)) ∙ digits-itself (digits b)

-- numbers of one value have one canonical form
pub one-form : (a b : List ℕ) → is_decimal a ≡ true → is_decimal b ≡ true → number_cmp a b ≡ Equal → canonical a ≡ canonical b
one-form a b da db e = by (is_below_zero a) (is_below_zero b) refl refl
  where
    formed : (p : Bool) → is_below_zero a ≡ p → is_below_zero b ≡ p → digits a ≡ digits b → canonical a ≡ canonical b
    formed p f g h = λ i. spelled ((f ∙ sym g) i) (h i).0 (h i).1

    by : (p q : Bool) → is_below_zero a ≡ p → is_below_zero b ≡ q → canonical a ≡ canonical b
    by false false f g = formed false f g (size-digits a b da db (cmp-above a b da db f g ∙ e))
    by true true f g = formed true f g (sym (size-digits b a db da (cmp-below a b da db f g ∙ e)))
    by true false f g = absurd (no (cmp-below-above a b da db f g ∙ e))
      where
        no : Less ≡ Equal → ⊥
        no h = cc
    by false true f g = absurd (no (cmp-above-below a b da db f g ∙ e))
      where
        no : Greater ≡ Equal → ⊥
        no h = cc

-- the canonical form of a number has its value
pub one-value : (text : List ℕ) → is_decimal text ≡ true → number_cmp text (canonical text) ≡ Equal
one-value text d = by (is_below_zero text) refl
  where
    by : (p : Bool) → is_below_zero text ≡ p → number_cmp text (canonical text) ≡ Equal
    by false f =
        let r = is-read text d in
        sym (cmp-above text (canonical text) d r.decimal f (r.sign_same ∙ f))
        ∙ digits-size text (canonical text) d r.decimal (λ i. (sym r.whole_same i, sym r.fraction_same i))
    by true f =
        let r = is-read text d in
        sym (cmp-below text (canonical text) d r.decimal f (r.sign_same ∙ f))
        ∙ digits-size (canonical text) text r.decimal d (λ i. (r.whole_same i, r.fraction_same i))
