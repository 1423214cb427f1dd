-- A cell of a kind has a form, and the form is of the kind's natural datatype.
use Rattle.std.proofs.Common.{◌≡◌, ◌≢◌, ℕ, refl, sym, ◌∙◌, ap, subst, List, codes, Bool, true, false, cond, ◌||◌, nat_lt, Some, Ok, Err}
use Rattle.std.specs.Prelude.{chars, IsUtf8}
use Rattle.std.specs.Str.{IsAscii}
use Rattle.std.proofs.lemmas.Str.{scalars-chars, IsUtf8-from_ascii}
use lib.Utf8.{scalars}
use Rattle.vkg_lists.proofs.Results.{ok_same}
use Rattle.hex.specs.Hex.{decode_of, encode_upper}
use Rattle.vkg_terms.specs.declared.term.Annotation.TheVariants.{Typed}
use Rattle.vkg_terms.specs.declared.term.Term.TheVariants.{Lit}
use Rattle.vkg_terms.specs.Vocabulary.{xsd}
use Rattle.vkg_cells.specs.declared.cell.SqlType.{SqlType}
use Rattle.vkg_cells.specs.declared.cell.SqlType.TheVariants as kind
use Rattle.vkg_cells.specs.declared.cell.Cell.{Cell}
use Rattle.vkg_cells.specs.declared.cell.Cell.TheVariants as cell
use Rattle.vkg_cells.specs.Field.{is_true_word, is_false_word}
use Rattle.vkg_cells.specs.Form.{lexical_form, IsOfKind, natural}
use Rattle.vkg_cells.specs.Number.{is_integer, is_decimal, width, canonical}
use Rattle.vkg_cells.specs.Moment.{is_date, stamp_form, time_form}
use Rattle.vkg_cells.specs.WellTyped.{is_too_wide, is_well_typed, is_xsd_date_time}
use Rattle.vkg_cells.proofs.CanonicalLemmas.{is-read, integer-decimal, integer-read}
use Rattle.vkg_cells.proofs.AsciiForms.{bool_ascii, canonical_ascii, octets_ascii}
use Rattle.vkg_cells.proofs.FieldLemmas.{field_ok, number_ok, octets_ok, stamp_ok, time_ok}
use Rattle.vkg_cells.proofs.MomentText.{Made, form_ascii, stamp_made, time_ascii}
use Rattle.vkg_direct.proofs.Moments.{date_is, form_is}
use Rattle.vkg_maps.specs.Terms.{literal}
use Rattle.vkg_maps.specs.declared.data_fault.TermFault.TheVariants.{IllTyped, TooWide}

pub record Formed (k : SqlType) (c : Cell) : Type 0 where
  pub form : List ℕ
  pub is : lexical_form c ≡ Some form
  pub spelled : scalars (chars form) ≡ true
  pub typed : literal form (natural k) ≡ Ok (Some (Lit form (natural k)))

ascii_spelled : (text : List ℕ) → IsAscii text → scalars (chars text) ≡ true
ascii_spelled text a = scalars-chars text (IsUtf8-from_ascii text a)

-- a form of a datatype's lexical space, and no number that is too wide
well_typed : (d t : List ℕ) → is_well_typed d t ≡ true → is_too_wide d t ≡ false → literal t (Typed d) ≡ Ok (Some (Lit t (Typed d)))
well_typed d t e n =
    ap (λ b. cond b (cond (is_too_wide d t) (Err TooWide) (Ok (Some (Lit t (Typed d))))) (Err IllTyped)) e
    ∙ ap (λ b. cond b (Err TooWide) (Ok (Some (Lit t (Typed d))))) n

formed_integer : (text : List ℕ) → is_integer text ≡ true → nat_lt 38 (width text) ≡ false → Formed kind.Int (cell.Int (canonical text))
formed_integer text e n =
    let d = integer-decimal text e in
    record {
      form = canonical text;
      is = refl;
      spelled = ascii_spelled (canonical text) (canonical_ascii text d);
      typed = well_typed (xsd (codes "integer")) (canonical text) (integer-read text e) (ap (nat_lt 38) (is-read text d).width_same ∙ n);
    }

formed_decimal : (text : List ℕ) → is_decimal text ≡ true → nat_lt 38 (width text) ≡ false → Formed kind.Dec (cell.Dec (canonical text))
formed_decimal text d n =
    let reads = is-read text d in
    record {
      form = canonical text;
      is = refl;
      spelled = ascii_spelled (canonical text) (canonical_ascii text d);
      typed = well_typed (xsd (codes "decimal")) (canonical text) reads.decimal (ap (nat_lt 38) reads.width_same ∙ n);
    }

formed_bool : (b : Bool) → Formed kind.Bool (cell.Bool b)
formed_bool true = record { form = codes "true"; is = refl; spelled = ascii_spelled (codes "true") (bool_ascii true); typed = refl }
formed_bool false = record { form = codes "false"; is = refl; spelled = ascii_spelled (codes "false") (bool_ascii false); typed = refl }

formed_binary : (octets : List ℕ) → Formed kind.Bin (cell.Bin (encode_upper octets))
formed_binary octets = record { form = encode_upper octets; is = refl; spelled = ascii_spelled (encode_upper octets) (octets_ascii octets); typed = refl }

formed_date : (text : List ℕ) → IsUtf8 text → is_date text ≡ true → Formed kind.Date (cell.Date text)
formed_date text u e = record { form = text; is = refl; spelled = scalars-chars text u; typed = well_typed (xsd (codes "date")) text (date_is text e) refl }

formed_stamp : (form : List ℕ) → Made form → Formed kind.Stamp (cell.Stamp form)
formed_stamp form m = record {
  form = form;
  is = refl;
  spelled = ascii_spelled form (subst IsAscii (sym m.is) (form_ascii m.date m.clock m.fraction m.is_date m.is_clock m.is_digits));
  typed = well_typed (xsd (codes "dateTime")) form (ap is_xsd_date_time m.is ∙ form_is m.date m.clock m.fraction m.is_date m.is_clock m.is_digits) refl;
}

formed_time : (text form : List ℕ) → time_form text ≡ Some form → Formed kind.Time (cell.Time form)
formed_time text form e = record { form = form; is = refl; spelled = ascii_spelled form (time_ascii text form e); typed = refl }

pub formed : (k : SqlType) (c : Cell) → k ≢ kind.Term → IsOfKind k c → Formed k c
formed kind.Text c n (text, u, e) = subst (Formed kind.Text) (ok_same (cell.Text text) c e) (record { form = text; is = refl; spelled = scalars-chars text u; typed = refl })
formed kind.Int c n (text, u, e) = let h = number_ok (is_integer text) text (cell.Int (canonical text)) c e in subst (Formed kind.Int) h.2 (formed_integer text h.0 h.1)
formed kind.Dec c n (text, u, e) = let h = number_ok (is_decimal text) text (cell.Dec (canonical text)) c e in subst (Formed kind.Dec) h.2 (formed_decimal text h.0 h.1)
formed kind.Bool c n (text, u, e) = let h = field_ok (is_true_word text || is_false_word text) (cell.Bool (is_true_word text)) c e in subst (Formed kind.Bool) h.1 (formed_bool (is_true_word text))
formed kind.Date c n (text, u, e) = let h = field_ok (is_date text) (cell.Date text) c e in subst (Formed kind.Date) h.1 (formed_date text u h.0)
formed kind.Stamp c n (text, u, e) = let h = stamp_ok (stamp_form text) c e in subst (Formed kind.Stamp) h.2 (formed_stamp h.0 (stamp_made text h.0 h.1))
formed kind.Bin c n (text, u, e) = let h = octets_ok (decode_of text) c e in subst (Formed kind.Bin) h.1 (formed_binary h.0)
formed kind.Time c n (text, u, e) = let h = time_ok (time_form text) c e in subst (Formed kind.Time) h.2 (formed_time text h.0 h.1)
formed kind.Term c n o = absurd (n refl)
