-- A cell of a column's kind is the one that has its lexical form, and the number of that form stands for it.
use Rattle.std.proofs.Common.{◌≡◌, ◌≢◌, ◌∙◌, ◌+◌, ◌≤◌, ◌||◌, ◌⊎◌, inl, inr, ℕ, zero, suc, Bool, true, false, List, [], ◌∷◌, Some, None, refl, sym, ap, arith, length, slice_get}
use Rattle.std.specs.Prelude.{unwrap_or}
use Rattle.std.proofs.lemmas.Option.{none-some, same_Some}
use Rattle.vkg_lists.proofs.Results.{ok_same}
use Rattle.vkg_cells.specs.declared.cell.Cell.{Cell}
use Rattle.vkg_cells.specs.declared.cell.Cell.TheVariants as cell
use Rattle.vkg_cells.specs.declared.cell.SqlType.{SqlType}
use Rattle.vkg_cells.specs.declared.cell.SqlType.TheVariants as kind
use Rattle.vkg_cells.specs.Field.{is_false_word, is_true_word}
use Rattle.vkg_cells.specs.Form.{IsOfKind, bool_form, lexical_form}
use Rattle.vkg_cells.specs.Moment.{is_date, stamp_form, time_form}
use Rattle.vkg_cells.specs.Number.{canonical, is_decimal, is_integer}
use Rattle.vkg_cells.proofs.FieldLemmas.{field_ok, number_ok, octets_ok, stamp_ok, time_ok}
use Rattle.vkg_store.specs.Held.{IsNumberOf}
use Rattle.vkg_store.specs.Stored.{form_cell, stored}

-- the cell has a form, and is the one of the kind that has it
abbrev HasForm : SqlType → Cell → Type 0
HasForm k c = (form : List ℕ) × (lexical_form c ≡ Some form) × (form_cell k form ≡ c)

of : (k : SqlType) (d c : Cell) (form : List ℕ) → d ≡ c → lexical_form d ≡ Some form → form_cell k form ≡ d → HasForm k c
of k d c form s f e = (form, ap lexical_form (sym s) ∙ f, e ∙ s)

of-truth : (b : Bool) → form_cell kind.Bool (bool_form b) ≡ cell.Bool b
of-truth true = refl
of-truth false = refl

has-form : (k : SqlType) (c : Cell) → k ≢ kind.Term → IsOfKind k c → HasForm k c
has-form kind.Text c n (text, u, e) = of kind.Text (cell.Text text) c text (ok_same (cell.Text text) c e) refl refl
has-form kind.Int c n (text, u, e) = of kind.Int (cell.Int (canonical text)) c (canonical text) (number_ok (is_integer text) text (cell.Int (canonical text)) c e).2 refl refl
has-form kind.Dec c n (text, u, e) = of kind.Dec (cell.Dec (canonical text)) c (canonical text) (number_ok (is_decimal text) text (cell.Dec (canonical text)) c e).2 refl refl
has-form kind.Bool c n (text, u, e) =
    of kind.Bool (cell.Bool (is_true_word text)) c (bool_form (is_true_word text)) (field_ok (is_true_word text || is_false_word text) (cell.Bool (is_true_word text)) c e).1 refl (of-truth (is_true_word text))
has-form kind.Date c n (text, u, e) = of kind.Date (cell.Date text) c text (field_ok (is_date text) (cell.Date text) c e).1 refl refl
has-form kind.Stamp c n (text, u, e) = let h = stamp_ok (stamp_form text) c e in of kind.Stamp (cell.Stamp h.0) c h.0 h.2 refl refl
has-form kind.Bin c n (text, u, e) = of kind.Bin _ c _ (octets_ok _ c e).1 refl refl
has-form kind.Time c n (text, u, e) = let h = time_ok (time_form text) c e in of kind.Time (cell.Time h.0) c h.0 h.2 refl refl
has-form kind.Term c n i = absurd (n refl)

stored-at : (texts : List (List ℕ)) (k : SqlType) (n i : ℕ) (form : List ℕ) → n ≡ i + 1 → slice_get texts i ≡ Some form → stored texts k n ≡ form_cell k form
stored-at texts k zero i form e s = absurd (omega (arith, e))
stored-at texts k (suc m) i form e s =
    let same : m ≡ i = omega (arith, e) in
    ap (λ j. form_cell k (unwrap_or (slice_get texts j) [])) same ∙ ap (λ o. form_cell k (unwrap_or o [])) s

-- the number behind the place of the cell's form stands for the cell
pub number-of-form : (texts : List (List ℕ)) (c : Cell) (n i : ℕ) (form : List ℕ) → lexical_form c ≡ Some form → n ≡ i + 1 → slice_get texts i ≡ Some form → IsNumberOf texts c n
number-of-form texts c n i form f e s k fits = by fits.fits
  where
    by : (c ≡ cell.Null) ⊎ IsOfKind k c → stored texts k n ≡ c
    by (inl null) = absurd (none-some form (sym (ap lexical_form null) ∙ f))
    by (inr kept) =
        let h = has-form k c fits.known kept in
        stored-at texts k n i form e s ∙ ap (form_cell k) (same_Some form h.0 (sym f ∙ h.1)) ∙ h.2

-- 0 stands for a cell without a form: it is NULL
pub number-of-none : (texts : List (List ℕ)) (c : Cell) → lexical_form c ≡ None → IsNumberOf texts c 0
number-of-none texts c f k fits = by fits.fits
  where
    by : (c ≡ cell.Null) ⊎ IsOfKind k c → cell.Null ≡ c
    by (inl null) = sym null
    by (inr kept) = let h = has-form k c fits.known kept in absurd (none-some h.0 (sym f ∙ h.1))

pub number-bound : (texts : List (List ℕ)) (n i : ℕ) (form : List ℕ) → n ≡ i + 1 → slice_get texts i ≡ Some form → n ≤ length texts
number-bound [] n i form e s = cc s
number-bound (t ∷ ts) n zero form e s = omega (arith, e)
number-bound (t ∷ ts) n (suc i) form e s = omega (arith, e, number-bound ts (i + 1) i form refl s)
