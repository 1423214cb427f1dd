-- A cell that a field is read as: its form is a text, is read as that cell again, and the cell is of the kind's family.
use Rattle.std.proofs.Common.{◌≡◌, ℕ, refl, subst, List, Bool, true, ◌||◌, Some, Ok, IsUtf8}
use Rattle.std.proofs.lemmas.Str.{IsUtf8-from_ascii}
use Rattle.vkg_lists.proofs.Results.{ok_same}
use Rattle.hex.specs.Hex.{decode_of, encode_upper}
use Rattle.vkg_cells.specs.declared.cell.SqlType.{SqlType}
use Rattle.vkg_cells.specs.declared.cell.SqlType.TheVariants as kind
use Rattle.vkg_cells.specs.declared.cell.Cell.{Cell}
use Rattle.vkg_cells.specs.declared.cell.Cell.TheVariants as cell
use Rattle.vkg_cells.specs.Field.{cell_of_field, is_true_word, is_false_word}
use Rattle.vkg_cells.specs.Form.{lexical_form, bool_form}
use Rattle.vkg_cells.specs.Moment.{is_date, stamp_form, time_form}
use Rattle.vkg_cells.specs.Number.{is_integer, is_decimal, canonical}
use Rattle.vkg_cells.specs.Order.{family, family_of}
use Rattle.vkg_cells.proofs.CanonicalLemmas.{integer-decimal}
use Rattle.vkg_cells.proofs.LawLemmas.{read-back}
use Rattle.vkg_cells.proofs.AsciiForms.{bool_ascii, canonical_ascii, octets_ascii}
use Rattle.vkg_cells.proofs.FieldLemmas.{field_ok, number_ok, octets_ok, stamp_ok, time_ok}
use Rattle.vkg_cells.proofs.MomentText.{stamp_ascii, time_ascii}

-- what is known of a cell that is read as a field of a kind
pub record Proper (k : SqlType) (c : Cell) : Type 0 where
  pub form : List ℕ
  pub is : lexical_form c ≡ Some form
  pub spelled : IsUtf8 form
  pub read : cell_of_field k form ≡ Ok c
  pub of_family : family_of c ≡ family k

abbrev FromRead : SqlType → Cell → Type 0
FromRead k c = (text : List ℕ) → cell_of_field k text ≡ Ok c → Proper k c

proper_int : (text : List ℕ) → is_decimal text ≡ true → FromRead kind.Int (cell.Int (canonical text))
proper_int text h from e = record {
  form = canonical text;
  is = refl;
  spelled = IsUtf8-from_ascii (canonical text) (canonical_ascii text h);
  read = read-back kind.Int from (cell.Int (canonical text)) e;
  of_family = refl;
}

proper_dec : (text : List ℕ) → is_decimal text ≡ true → FromRead kind.Dec (cell.Dec (canonical text))
proper_dec text h from e = record {
  form = canonical text;
  is = refl;
  spelled = IsUtf8-from_ascii (canonical text) (canonical_ascii text h);
  read = read-back kind.Dec from (cell.Dec (canonical text)) e;
  of_family = refl;
}

proper_bool : (b : Bool) → FromRead kind.Bool (cell.Bool b)
proper_bool b from e = record {
  form = bool_form b;
  is = refl;
  spelled = IsUtf8-from_ascii (bool_form b) (bool_ascii b);
  read = read-back kind.Bool from (cell.Bool b) e;
  of_family = refl;
}

proper_stamp : (form text : List ℕ) → stamp_form text ≡ Some form → FromRead kind.Stamp (cell.Stamp form)
proper_stamp form text s from e = record {
  form = form;
  is = refl;
  spelled = IsUtf8-from_ascii form (stamp_ascii text form s);
  read = read-back kind.Stamp from (cell.Stamp form) e;
  of_family = refl;
}

proper_time : (form text : List ℕ) → time_form text ≡ Some form → FromRead kind.Time (cell.Time form)
proper_time form text s from e = record {
  form = form;
  is = refl;
  spelled = IsUtf8-from_ascii form (time_ascii text form s);
  read = read-back kind.Time from (cell.Time form) e;
  of_family = refl;
}

proper_bin : (octets : List ℕ) → FromRead kind.Bin (cell.Bin (encode_upper octets))
proper_bin octets from e = record {
  form = encode_upper octets;
  is = refl;
  spelled = IsUtf8-from_ascii (encode_upper octets) (octets_ascii octets);
  read = read-back kind.Bin from (cell.Bin (encode_upper octets)) e;
  of_family = refl;
}

pub proper : (k : SqlType) (c : Cell) (text : List ℕ) → IsUtf8 text → cell_of_field k text ≡ Ok c → Proper k c
proper kind.Text c text u e = subst (FromRead kind.Text) (ok_same (cell.Text text) c e) (λ from f. record { form = text; is = refl; spelled = u; read = refl; of_family = refl }) text e
proper kind.Int c text u e = let h = number_ok (is_integer text) text (cell.Int (canonical text)) c e in subst (FromRead kind.Int) h.2 (proper_int text (integer-decimal text h.0)) text e
proper kind.Dec c text u e = let h = number_ok (is_decimal text) text (cell.Dec (canonical text)) c e in subst (FromRead kind.Dec) h.2 (proper_dec text h.0) text e
proper kind.Bool c text u e = let h = field_ok (is_true_word text || is_false_word text) (cell.Bool (is_true_word text)) c e in subst (FromRead kind.Bool) h.1 (proper_bool (is_true_word text)) text e
proper kind.Date c text u e =
    let h = field_ok (is_date text) (cell.Date text) c e in
    subst (FromRead kind.Date) h.1 (λ from f. record { form = text; is = refl; spelled = u; read = read-back kind.Date from (cell.Date text) f; of_family = refl }) text e
proper kind.Stamp c text u e = let h = stamp_ok (stamp_form text) c e in subst (FromRead kind.Stamp) h.2 (proper_stamp h.0 text h.1) text e
proper kind.Bin c text u e = let h = octets_ok (decode_of text) c e in subst (FromRead kind.Bin) h.1 (proper_bin h.0) text e
proper kind.Time c text u e = let h = time_ok (time_form text) c e in subst (FromRead kind.Time) h.2 (proper_time h.0 text h.1) text e
proper kind.Term c text u e = cc
