-- SQL's equality of cells: to be equal to a third is to be equal to what it is equal to.
use Rattle.std.proofs.Common.{◌≡◌, ◌∙◌, ℕ, Bool, true, true≢false, not, ◌&&◌, List, Option, Some, None, refl, sym, ap}
use Rattle.std.specs.Prelude.{◌==◌, is_some}
use Rattle.vkg_lists.proofs.Bools.{and_parts}
use Rattle.vkg_lists.proofs.Counts.{eq_comm, eq_itself, eq_same}
use Rattle.vkg_lists.proofs.Tests.{both_pass_comm, nat_test}
use Rattle.vkg_lists.proofs.Texts.{bytes_test}
use Rattle.vkg_terms.proofs.SameLemmas.{terms_apart}
use Rattle.vkg_cells.specs.declared.cell.Cell.{Cell}
use Rattle.vkg_cells.specs.declared.cell.Cell.TheVariants as cell
use Rattle.vkg_cells.specs.declared.cell.SqlType.{SqlType}
use Rattle.vkg_cells.specs.Form.{IsOfKind, bool_form, lexical_form}
use Rattle.vkg_cells.specs.Order.{family_of, same, same_form}
use Rattle.vkg_cells.proofs.LawLemmas.{own-form}
use Rattle.vkg_schema.specs.Rows.{is_known_true, is_null}

-- known to be the same
abbrev pub are_same : Cell → Cell → Bool
are_same c d = is_known_true (same c d)

same-null : (c : Cell) → same c cell.Null ≡ None
same-null cell.Null = refl
same-null c = refl

-- ---- cells with a lexical form

abbrev has_form : Cell → Bool
has_form c = is_some (lexical_form c)

-- to be the same as a cell of this family and form
abbrev same_as : ℕ → Option (List ℕ) → Cell → Option Bool
same_as family form cell.Null = None
same_as family form d = Some ((family == family_of d) && same_form form (lexical_form d))

same-as : (c d : Cell) → has_form c ≡ true → same c d ≡ same_as (family_of c) (lexical_form c) d
same-as cell.Null d h = absurd (true≢false (sym h))
same-as (cell.Term s) d h = absurd (true≢false (sym h))
same-as c cell.Null h = same-null c
same-as c d h = refl

forms : (o p : Option (List ℕ)) → same_form o p ≡ true → o ≡ p
forms None p e = absurd (true≢false (sym e))
forms (Some a) None e = absurd (true≢false (sym e))
forms (Some a) (Some b) e = ap Some (eq_same bytes_test a b e)

-- ---- what is the same

pub same-comm : (c d : Cell) → same c d ≡ same d c
same-comm cell.Null d = sym (same-null d)
same-comm c cell.Null = same-null c
same-comm (cell.Term s) (cell.Term t) = ap Some (eq_comm terms_apart s t)
same-comm c d = λ i. Some (eq_comm nat_test (family_of c) (family_of d) i && both_pass_comm bytes_test (lexical_form c) (lexical_form d) i)

pub same-itself : (c : Cell) → are_same c c ≡ not (is_null c)
same-itself cell.Null = refl
same-itself (cell.Text a) = eq_itself bytes_test a
same-itself (cell.Int a) = eq_itself bytes_test a
same-itself (cell.Dec a) = eq_itself bytes_test a
same-itself (cell.Bool b) = eq_itself bytes_test (bool_form b)
same-itself (cell.Date a) = eq_itself bytes_test a
same-itself (cell.Stamp a) = eq_itself bytes_test a
same-itself (cell.Bin a) = eq_itself bytes_test a
same-itself (cell.Time a) = eq_itself bytes_test a
same-itself (cell.Term t) = eq_itself terms_apart t

pub same-known : (c d : Cell) → are_same c d ≡ true → not (is_null c) ≡ true
same-known cell.Null d e = absurd (true≢false (sym e))
same-known c d e = refl

alike : (c d : Cell) → has_form c ≡ true → are_same c d ≡ true → (family_of c ≡ family_of d) × (lexical_form c ≡ lexical_form d)
alike c d h e = of d (ap is_known_true (sym (same-as c d h)) ∙ e)
  where
    of : (d : Cell) → is_known_true (same_as (family_of c) (lexical_form c) d) ≡ true → (family_of c ≡ family_of d) × (lexical_form c ≡ lexical_form d)
    of cell.Null e = absurd (true≢false (sym e))
    of d e = let b = and_parts (family_of c == family_of d) (same_form (lexical_form c) (lexical_form d)) e in (eq_same nat_test (family_of c) (family_of d) b.0, forms (lexical_form c) (lexical_form d) b.1)

-- what is the same as a cell is the same as each cell that is the same
pub same-congr : (c d : Cell) → are_same c d ≡ true → (e : Cell) → same c e ≡ same d e
same-congr cell.Null d h e = absurd (true≢false (sym h))
same-congr (cell.Term s) (cell.Term t) h e = ap (λ z. same (cell.Term z) e) (eq_same terms_apart s t h)
same-congr (cell.Term s) d h e = absurd (true≢false (sym h))
same-congr c cell.Null h e = absurd (true≢false (sym h))
same-congr c (cell.Term t) h e = absurd (true≢false (sym h))
same-congr c d h e = let a = alike c d refl h in same-as c e refl ∙ (λ i. same_as (a.0 i) (a.1 i) e) ∙ sym (same-as d e refl)

-- two cells that are the same as a third are the same
pub same-third : (c d e : Cell) → are_same c d ≡ true → are_same c e ≡ true → are_same d e ≡ true
same-third c d e h k = ap is_known_true (sym (same-congr c d h e)) ∙ k

-- cells of one kind that are the same are one
pub same-one : (k : SqlType) (c d : Cell) → IsOfKind k c → IsOfKind k d → are_same c d ≡ true → c ≡ d
same-one k cell.Null d of of' h = absurd (true≢false (sym h))
same-one k (cell.Term s) (cell.Term t) of of' h = ap cell.Term (eq_same terms_apart s t h)
same-one k (cell.Term s) d of of' h = absurd (true≢false (sym h))
same-one k c d of of' h = own-form c k d of of' refl (alike c d refl h).1
