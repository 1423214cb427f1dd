-- What reading a field says when it answers a cell.
use Rattle.std.proofs.Common.{◌≡◌, refl, sym, ap, List, ℕ, nat_lt, cond, Bool, true, false, ◌||◌, Option, Some, None, Result, Ok, Err}
use Rattle.hex.specs.Hex.{decode_of, encode_upper}
use Rattle.hex.specs.declared.error.FromHexError.{FromHexError}
use Rattle.vkg_lists.proofs.Results.{ok_same}
use Rattle.vkg_cells.specs.declared.cell.Cell.{Cell}
use Rattle.vkg_cells.specs.declared.cell.Cell.TheVariants as cell
use Rattle.vkg_cells.specs.declared.cell.FieldFault.TheVariants as field
use Rattle.vkg_cells.specs.declared.cell.SqlType.{SqlType}
use Rattle.vkg_cells.specs.declared.cell.SqlType.TheVariants as kind
use Rattle.vkg_cells.specs.Field.{cell_of_field, is_true_word, is_false_word, where_field, where_number, where_stamp, where_time, where_octets}
use Rattle.vkg_cells.specs.Moment.{is_date, stamp_form, time_form}
use Rattle.vkg_cells.specs.Number.{is_integer, is_decimal, canonical, width}
use Rattle.vkg_cells.specs.Order.{family, family_of}

pub field_ok : (b : Bool) (d c : Cell) → where_field b d ≡ Ok c → (b ≡ true) × (d ≡ c)
field_ok true d c e = (refl, ok_same d c e)
field_ok false d c e = cc

pub number_ok : (b : Bool) (text : List ℕ) (d c : Cell) → where_number b text d ≡ Ok c → (b ≡ true) × (nat_lt 38 (width text) ≡ false) × (d ≡ c)
number_ok false text d c e = cc
number_ok true text d c e = elim (nat_lt 38 (width text)) as (λ b. nat_lt 38 (width text) ≡ b → cond b (Err field.TooWide) (Ok d) ≡ Ok c → (true ≡ true) × (nat_lt 38 (width text) ≡ false) × (d ≡ c)) [
  | true ↦ λ n f. cc
  | false ↦ λ n f. (refl, n, ok_same d c f)
] refl e

pub stamp_ok : (o : Option (List ℕ)) (c : Cell) → where_stamp o ≡ Ok c → (form : List ℕ) × (o ≡ Some form) × (cell.Stamp form ≡ c)
stamp_ok None c e = cc
stamp_ok (Some form) c e = (form, refl, ok_same (cell.Stamp form) c e)

pub time_ok : (o : Option (List ℕ)) (c : Cell) → where_time o ≡ Ok c → (form : List ℕ) × (o ≡ Some form) × (cell.Time form ≡ c)
time_ok None c e = cc
time_ok (Some form) c e = (form, refl, ok_same (cell.Time form) c e)

pub octets_ok : (r : Result (List ℕ) FromHexError) (c : Cell) → where_octets r ≡ Ok c → (octets : List ℕ) × (cell.Bin (encode_upper octets) ≡ c)
octets_ok (Ok octets) c e = (octets, ok_same (cell.Bin (encode_upper octets)) c e)
octets_ok (Err f) c e = cc

-- a cell that is read as a field of a kind is of its family
pub family_is : (k : SqlType) (c : Cell) (text : List ℕ) → cell_of_field k text ≡ Ok c → family_of c ≡ family k
family_is kind.Text c text e = ap family_of (sym (ok_same (cell.Text text) c e))
family_is kind.Int c text e = ap family_of (sym (number_ok (is_integer text) text (cell.Int (canonical text)) c e).2)
family_is kind.Dec c text e = ap family_of (sym (number_ok (is_decimal text) text (cell.Dec (canonical text)) c e).2)
family_is kind.Bool c text e = ap family_of (sym (field_ok (is_true_word text || is_false_word text) (cell.Bool (is_true_word text)) c e).1)
family_is kind.Date c text e = ap family_of (sym (field_ok (is_date text) (cell.Date text) c e).1)
family_is kind.Stamp c text e = ap family_of (sym (stamp_ok (stamp_form text) c e).2)
family_is kind.Bin c text e = ap family_of (sym (octets_ok (decode_of text) c e).1)
family_is kind.Time c text e = ap family_of (sym (time_ok (time_form text) c e).2)
family_is kind.Term c text e = cc
