-- The laws of cells.
use Rattle.std.proofs.Common.{◌≡◌, ◌∙◌, ◌↔◌, ℕ, Bool, true, false, true≢false, List, Option, Some, None, Result, Ok, Err, refl, sym, ap, subst, arith, nat_lt}
use Rattle.std.specs.Prelude.{IfOk}
use Rattle.std.specs.Str.{bytes_eq}
use Rattle.std.proofs.lemmas.Slice.Eq.{bytes_eq-Decides}
use Rattle.vkg_lists.proofs.Results.{ok_same, ok_err, some_of}
use Rattle.hex.specs.Hex.{decode_of, encode_upper}
use Rattle.hex.proofs.HexLemmas.{decode_of-encode_upper, decode_of-ok}
use Rattle.hex.specs.declared.error.FromHexError.{FromHexError}
use Rattle.vkg_lists.specs.Texts.{bytes_cmp}
use Rattle.vkg_cells.specs.declared.cell.FieldFault.{FieldFault}
use Rattle.vkg_cells.specs.declared.cell.FieldFault.TheVariants.{BadValue}
use Rattle.vkg_cells.specs.declared.cell.SqlType.{SqlType}
use Rattle.vkg_cells.specs.declared.cell.SqlType.TheVariants as kind
use Rattle.vkg_cells.specs.declared.cell.Cell.{Cell}
use Rattle.vkg_cells.specs.declared.cell.Cell.TheVariants as cell
use Rattle.vkg_cells.specs.Field.{cell_of_field, is_true_word, where_number, where_octets, where_stamp, where_time}
use Rattle.vkg_cells.specs.Form.{IsOfKind, bool_form, lexical_form}
use Rattle.vkg_cells.specs.Laws.{HasOwnForm, HasValueOf, IsByForm, IsEqualWhereSame, IsReadBack}
use Rattle.vkg_cells.specs.Moment.{is_date, stamp_form, time_form}
use Rattle.vkg_cells.specs.Number.{canonical, is_decimal, is_integer, width}
use Rattle.vkg_cells.specs.Order.{HasNumber, same}
use Rattle.vkg_cells.proofs.CanonicalLemmas.{integer-decimal, integer-read, is-read}
use Rattle.vkg_cells.proofs.StampLemmas.{stamp-again}
use Rattle.vkg_cells.proofs.TimeLemmas.{time-again}
use Rattle.vkg_cells.proofs.SameLemmas.{one-form, one-value}
use Rattle.vkg_cells.proofs.OrderLemmas.{number-total}
use Rattle.vkg_cells.proofs.ValueLemmas.{then-equal}
use Rattle.vkg_cells.proofs.FieldLemmas.{field_ok, number_ok}
use Rattle.vkg_cells.specs.Number.{number_cmp}
use Rattle.std.specs.Ordering.{bool_cmp, is_eq}
use Rattle.std.specs.Prelude.{◌&&◌}
use Rattle.vkg_cells.specs.Order.{order}
use Rattle.std.specs.Cmp.{Equal-is, tied_then}
use Rattle.std.specs.declared.cmp.Ordering.TheVariants.{Equal}
use Rattle.std.proofs.lemmas.Cmp.{nat_list_cmp_total, tied_itself}
use Rattle.std.proofs.lemmas.Map.Lookups.{exact_bytes}
use Rattle.std.proofs.lemmas.Map.Text.{is_eq-slice_cmp}
use Rattle.std.proofs.lemmas.Option.{none-some}
use Rattle.vkg_terms.specs.declared.term.Annotation.{Annotation}
use Rattle.vkg_terms.specs.declared.term.Annotation.TheVariants.{Plain, Lang, Typed}
use Rattle.vkg_terms.specs.declared.term.Term.{Term}
use Rattle.vkg_terms.specs.declared.term.Term.TheVariants.{Iri, Blank, Lit}
use Rattle.vkg_terms.specs.Same.{annotation_cmp, annotation_eq, term_cmp, term_eq}

by-bytes : (a b : List ℕ) → (◌≡◌ {A = Option Bool} (Some (bytes_eq a b)) (Some true)) ↔ (◌≡◌ {A = Option (List ℕ)} (Some a) (Some b))
by-bytes a b =
    let d = bytes_eq-Decides a b in
    (λ e. ap Some (d.0 (cc e)), λ e. ap Some (d.1 (cc e)))

pub by-form : (c d : Cell) → IsByForm c d (same c d)
by-form cell.Null d e h = absurd (true≢false (sym h))
by-form (cell.Term s) d e h = absurd (true≢false (sym h))
by-form (cell.Text a) (cell.Text b) e h = by-bytes a b
by-form (cell.Int a) (cell.Int b) e h = by-bytes a b
by-form (cell.Int a) (cell.Dec b) e h = by-bytes a b
by-form (cell.Dec a) (cell.Int b) e h = by-bytes a b
by-form (cell.Dec a) (cell.Dec b) e h = by-bytes a b
by-form (cell.Bool a) (cell.Bool b) e h = by-bytes (bool_form a) (bool_form b)
by-form (cell.Date a) (cell.Date b) e h = by-bytes a b
by-form (cell.Stamp a) (cell.Stamp b) e h = by-bytes a b
by-form (cell.Bin a) (cell.Bin b) e h = by-bytes a b
by-form (cell.Time a) (cell.Time b) e h = by-bytes a b
by-form c d e h = absurd (omega (arith, e))

number-kept : (b : Bool) (text : List ℕ) (c : Cell) → b ≡ true → nat_lt 38 (width text) ≡ false → where_number b text c ≡ Ok c
number-kept b text c e f = rw (e, f) refl

read-int : (text : List ℕ) → is_integer text ≡ true → nat_lt 38 (width text) ≡ false → IsReadBack kind.Int (cell.Int (canonical text))
read-int text h w =
    let r = is-read text (integer-decimal text h) in
    (λ i. where_number (is_integer (canonical text)) (canonical text) (cell.Int (r.again i)))
    ∙ number-kept (is_integer (canonical text)) (canonical text) (cell.Int (canonical text)) (integer-read text h) (ap (nat_lt 38) r.width_same ∙ w)

read-dec : (text : List ℕ) → is_decimal text ≡ true → nat_lt 38 (width text) ≡ false → IsReadBack kind.Dec (cell.Dec (canonical text))
read-dec text h w =
    let r = is-read text h in
    (λ i. where_number (is_decimal (canonical text)) (canonical text) (cell.Dec (r.again i)))
    ∙ number-kept (is_decimal (canonical text)) (canonical text) (cell.Dec (canonical text)) r.decimal (ap (nat_lt 38) r.width_same ∙ w)

read-bool : (b : Bool) → IsReadBack kind.Bool (cell.Bool b)
read-bool true = refl
read-bool false = refl

read-stamp : (text : List ℕ) (o : Option (List ℕ)) (c : Cell) → stamp_form text ≡ o → where_stamp o ≡ Ok c → IsReadBack kind.Stamp c
read-stamp text None c h e = absurd (ok_err c BadValue (sym e))
read-stamp text (Some form) c h e = subst (IsReadBack kind.Stamp) (ok_same (cell.Stamp form) c e) (ap where_stamp (stamp-again text form h))

read-time : (text : List ℕ) (o : Option (List ℕ)) (c : Cell) → time_form text ≡ o → where_time o ≡ Ok c → IsReadBack kind.Time c
read-time text None c h e = absurd (ok_err c BadValue (sym e))
read-time text (Some form) c h e = subst (IsReadBack kind.Time) (ok_same (cell.Time form) c e) (ap where_time (time-again text form h))

read-octets : (text : List ℕ) (o : Result (List ℕ) FromHexError) (c : Cell) → decode_of text ≡ o → where_octets o ≡ Ok c → IsReadBack kind.Bin c
read-octets text (Err f) c h e = absurd (ok_err c BadValue (sym e))
read-octets text (Ok octets) c h e =
    subst (IsReadBack kind.Bin) (ok_same (cell.Bin (encode_upper octets)) c e)
    (ap where_octets (decode_of-encode_upper octets (decode_of-ok text octets h).3))

pub read-back : (k : SqlType) (text : List ℕ) (c : Cell) → cell_of_field k text ≡ Ok c → IsReadBack k c
read-back kind.Text text c e = subst (IsReadBack kind.Text) (ok_same (cell.Text text) c e) refl
read-back kind.Int text c e = let h = number_ok (is_integer text) text (cell.Int (canonical text)) c e in subst (IsReadBack kind.Int) h.2 (read-int text h.0 h.1)
read-back kind.Dec text c e = let h = number_ok (is_decimal text) text (cell.Dec (canonical text)) c e in subst (IsReadBack kind.Dec) h.2 (read-dec text h.0 h.1)
read-back kind.Bool text c e = let h = field_ok _ _ c e in subst (IsReadBack kind.Bool) h.1 (read-bool (is_true_word text))
read-back kind.Date text c e = let h = field_ok (is_date text) (cell.Date text) c e in subst (IsReadBack kind.Date) h.1 (rw h.0 refl)
read-back kind.Stamp text c e = read-stamp text (stamp_form text) c refl e
read-back kind.Bin text c e = read-octets text (decode_of text) c refl e
read-back kind.Time text c e = read-time text (time_form text) c refl e
read-back kind.Term text c e = absurd (ok_err c BadValue (sym e))

-- a cell of a kind, whose form there is, is read from that form
from-form : (k : SqlType) (c : Cell) (form : List ℕ) → IsOfKind k c → lexical_form c ≡ Some form → cell_of_field k form ≡ Ok c
from-form kind.Term c form of e = absurd (none-some form (sym (ap lexical_form of.1) ∙ e))
from-form k c form of e = rw e at (read-back k of.0 c of.2)

pub own-form : (c : Cell) → HasOwnForm c
own-form c k d of of' h e =
    let f = some_of (lexical_form c) h in
    ok_same c d (sym (from-form k c f.0 of f.1) ∙ from-form k d f.0 of' (sym e ∙ f.1))

-- what is known of a cell of a kind: it is not NULL, and a number is its own canonical form
abbrev pub IsProper : Cell → Type 0
IsProper cell.Null = ⊥
IsProper (cell.Int text) = (is_decimal text ≡ true) × (canonical text ≡ text)
IsProper (cell.Dec text) = (is_decimal text ≡ true) × (canonical text ≡ text)
IsProper c = Unit {0}

proper : (k : SqlType) (text : List ℕ) (c : Cell) → cell_of_field k text ≡ Ok c → IsProper c × HasValueOf text c
proper kind.Text text c e = subst (λ d. IsProper d × HasValueOf text d) (ok_same (cell.Text text) c e) (tt, tt)
proper kind.Int text c e =
    let h = number_ok (is_integer text) text (cell.Int (canonical text)) c e in
    let d = integer-decimal text h.0 in
    let r = is-read text d in
    subst (λ d. IsProper d × HasValueOf text d) h.2 ((r.decimal, r.again), one-value text d)
proper kind.Dec text c e =
    let h = number_ok (is_decimal text) text (cell.Dec (canonical text)) c e in
    let r = is-read text h.0 in
    subst (λ d. IsProper d × HasValueOf text d) h.2 ((r.decimal, r.again), one-value text h.0)
proper kind.Bool text c e = let h = field_ok _ _ c e in subst (λ d. IsProper d × HasValueOf text d) h.1 (tt, tt)
proper kind.Date text c e = let h = field_ok (is_date text) (cell.Date text) c e in subst (λ d. IsProper d × HasValueOf text d) h.1 (tt, tt)
proper kind.Stamp text c e = by (stamp_form text) e
  where
    by : (o : Option (List ℕ)) → where_stamp o ≡ Ok c → IsProper c × HasValueOf text c
    by None f = absurd (ok_err c BadValue (sym f))
    by (Some form) f = subst (λ d. IsProper d × HasValueOf text d) (ok_same (cell.Stamp form) c f) (tt, tt)
proper kind.Bin text c e = by (decode_of text) e
  where
    by : (o : Result (List ℕ) FromHexError) → where_octets o ≡ Ok c → IsProper c × HasValueOf text c
    by (Err f) g = absurd (ok_err c BadValue (sym g))
    by (Ok octets) g = subst (λ d. IsProper d × HasValueOf text d) (ok_same (cell.Bin (encode_upper octets)) c g) (tt, tt)
proper kind.Time text c e = by (time_form text) e
  where
    by : (o : Option (List ℕ)) → where_time o ≡ Ok c → IsProper c × HasValueOf text c
    by None f = absurd (ok_err c BadValue (sym f))
    by (Some form) f = subst (λ d. IsProper d × HasValueOf text d) (ok_same (cell.Time form) c f) (tt, tt)
proper kind.Term text c e = absurd (ok_err c BadValue (sym e))

proper-of-kind : (k : SqlType) (c : Cell) → IsOfKind k c → IsProper c
proper-of-kind kind.Term c of = subst IsProper (sym of.1) tt
proper-of-kind k c of = (proper k of.0 c of.2).0

proper-number : (c : Cell) → IsProper c → HasNumber c
proper-number (cell.Int text) h = h.0
proper-number (cell.Dec text) h = h.0
proper-number c h = tt

-- a number of a kind is a decimal
pub number-of-kind : (k : SqlType) (c : Cell) → IsOfKind k c → HasNumber c
number-of-kind k c of = proper-number c (proper-of-kind k c of)

-- the laws at what a read gives
pub backs : (k : SqlType) (text : List ℕ) (r : Result Cell FieldFault) → IfOk r (λ c. cell_of_field k text ≡ Ok c) → IfOk r (IsReadBack k)
backs k text (Ok c) h = read-back k text c h
backs k text (Err e) h = tt

pub numbers : (k : SqlType) (text : List ℕ) (r : Result Cell FieldFault) → IfOk r (λ c. cell_of_field k text ≡ Ok c) → IfOk r HasNumber
numbers k text (Ok c) h = proper-number c (proper k text c h).0
numbers k text (Err e) h = tt

pub values : (k : SqlType) (text : List ℕ) (r : Result Cell FieldFault) → IfOk r (λ c. cell_of_field k text ≡ Ok c) → IfOk r (HasValueOf text)
values k text (Ok c) h = (proper k text c h).1
values k text (Err e) h = tt

-- the order is equal where the cells are the same
text-same : (a b : List ℕ) → (bytes_cmp a b ≡ Equal) ↔ (◌≡◌ {A = Option Bool} (Some (bytes_eq a b)) (Some true))
text-same a b =
    let d = bytes_eq-Decides a b in
    (λ e. ap Some (d.1 (exact_bytes a b e)), λ e. let f : a ≡ b = d.0 (cc e) in ap (bytes_cmp a) (sym f) ∙ tied_itself nat_list_cmp_total a)

number-same : (a b : List ℕ) → (is_decimal a ≡ true) × (canonical a ≡ a) → (is_decimal b ≡ true) × (canonical b ≡ b)
    → (number_cmp a b ≡ Equal) ↔ (◌≡◌ {A = Option Bool} (Some (bytes_eq a b)) (Some true))
number-same a b p q =
    let d = bytes_eq-Decides a b in (
      λ e. ap Some (d.1 (sym p.1 ∙ one-form a b p.0 q.0 e ∙ q.1)),
      λ e. let f : a ≡ b = d.0 (cc e) in ap (number_cmp a) (sym f) ∙ tied_itself number-total a,
    )

annotation-tied : (x y : Annotation) → is_eq (annotation_cmp x y) ≡ annotation_eq x y
annotation-tied Plain Plain = refl
annotation-tied (Lang a) (Lang b) = is_eq-slice_cmp a b
annotation-tied (Typed a) (Typed b) = is_eq-slice_cmp a b
annotation-tied x y = refl

term-tied : (s t : Term) → is_eq (term_cmp s t) ≡ term_eq s t
term-tied (Iri a) (Iri b) = ap is_eq (then-equal (bytes_cmp a b)) ∙ is_eq-slice_cmp a b
term-tied (Blank a) (Blank b) = ap is_eq (then-equal (bytes_cmp a b)) ∙ is_eq-slice_cmp a b
term-tied (Lit a x) (Lit b y) = sym (tied_then (bytes_cmp a b) (annotation_cmp x y)) ∙ (λ i. is_eq-slice_cmp a b i && annotation-tied x y i)
term-tied s t = refl

term-same : (s t : Term) → (term_cmp s t ≡ Equal) ↔ (◌≡◌ {A = Option Bool} (Some (term_eq s t)) (Some true))
term-same s t = (λ e. ap Some (sym (term-tied s t) ∙ ap is_eq e), λ e. let f : term_eq s t ≡ true = cc e in (Equal-is (term_cmp s t)).0 (term-tied s t ∙ f))

bool-same : (a b : Bool) → (bool_cmp a b ≡ Equal) ↔ (◌≡◌ {A = Option Bool} (Some (bytes_eq (bool_form a) (bool_form b))) (Some true))
bool-same true true = (λ e. refl, λ e. refl)
bool-same false false = (λ e. refl, λ e. refl)
bool-same true false = (λ e. cc, λ e. cc)
bool-same false true = (λ e. cc, λ e. cc)

proper-same : (c d : Cell) → IsProper c → IsProper d → (order c d ≡ Equal) ↔ (same c d ≡ Some true)
proper-same cell.Null d p q = absurd p
proper-same c cell.Null p q = absurd q
proper-same (cell.Text a) (cell.Text b) p q = text-same a b
proper-same (cell.Int a) (cell.Int b) p q = number-same a b p q
proper-same (cell.Int a) (cell.Dec b) p q = number-same a b p q
proper-same (cell.Dec a) (cell.Int b) p q = number-same a b p q
proper-same (cell.Dec a) (cell.Dec b) p q = number-same a b p q
proper-same (cell.Bool a) (cell.Bool b) p q = bool-same a b
proper-same (cell.Date a) (cell.Date b) p q = text-same a b
proper-same (cell.Stamp a) (cell.Stamp b) p q = text-same a b
proper-same (cell.Bin a) (cell.Bin b) p q = text-same a b
proper-same (cell.Time a) (cell.Time b) p q = text-same a b
proper-same (cell.Term s) (cell.Term t) p q = term-same s t
proper-same c d p q = (λ e. cc, λ e. cc)

pub order-same : (c d : Cell) → IsEqualWhereSame c d (order c d)
order-same c d k l of of' = proper-same c d (proper-of-kind k c of) (proper-of-kind l d of')

pub ruleset forms = (by-form)
