-- The order of cells is that of the values of their fields.
use Rattle.std.proofs.Common.{◌≡◌, ◌∙◌, List, ℕ, Result, Ok, Err, sym, ap, refl}
use Rattle.std.specs.Option.{option_or}
use Rattle.std.specs.Result.{result_ok}
use Rattle.hex.specs.Hex.{decode_of, encode_upper}
use Rattle.hex.specs.declared.error.FromHexError.{FromHexError}
use Rattle.hex.proofs.HexLemmas.{decode_of-ok}
use Rattle.vkg_lists.proofs.Results.{ok_err, ok_same, some_of}
use Rattle.vkg_lists.specs.Texts.{bytes_cmp}
use Rattle.vkg_cells.specs.declared.cell.Cell.{Cell}
use Rattle.vkg_cells.specs.declared.cell.Cell.TheVariants as cell
use Rattle.vkg_cells.specs.declared.cell.FieldFault.TheVariants.{BadValue}
use Rattle.vkg_cells.specs.declared.cell.SqlType.TheVariants as kind
use Rattle.vkg_cells.specs.Field.{where_octets}
use Rattle.vkg_cells.specs.Moment.{cut, day_of_text, is_date, stamp_form, time_form}
use Rattle.vkg_cells.specs.Order.{order}
use Rattle.vkg_cells.proofs.FieldLemmas.{field_ok, stamp_ok, time_ok}
use Rattle.vkg_laws.specs.ByValue.{IsByValue, OrderIsByValue, date_cmp, moment_cmp, moment_value, octets_value, time_cmp, time_value}
use Rattle.vkg_laws.proofs.Dates.{date-order}
use Rattle.vkg_laws.proofs.Moments.{moment-order, written-parts}
use Rattle.vkg_laws.proofs.Octets.{octets-order}
use Rattle.vkg_laws.proofs.Times.{time-order, time-parts}

dates : IsByValue kind.Date day_of_text date_cmp
dates s t c d e f =
    let p = field_ok (is_date s) (cell.Date s) c e in
    let q = field_ok (is_date t) (cell.Date t) d f in
    let a = some_of (day_of_text s) p.0 in
    let b = some_of (day_of_text t) q.0 in
    (a.0, b.0, a.1, b.1, (λ i. order (sym p.1 i) (sym q.1 i)) ∙ date-order s t a.0 b.0 a.1 b.1)

moments : IsByValue kind.Stamp moment_value moment_cmp
moments s t c d e f =
    let p = stamp_ok (stamp_form s) c e in
    let q = stamp_ok (stamp_form t) d f in
    let a = written-parts (option_or (cut 84 s) (cut 32 s)) p.0 p.1 in
    let b = written-parts (option_or (cut 84 t) (cut 32 t)) q.0 q.1 in
    (a.moment, b.moment, a.value_is, b.value_is, (λ i. order (sym p.2 i) (sym q.2 i)) ∙ moment-order _ _ p.0 q.0 a b)

times : IsByValue kind.Time time_value time_cmp
times s t c d e f =
    let p = time_ok (time_form s) c e in
    let q = time_ok (time_form t) d f in
    let a = time-parts s (cut 46 s) p.0 p.1 in
    let b = time-parts t (cut 46 t) q.0 q.1 in
    (a.time, b.time, a.value_is, b.value_is, (λ i. order (sym p.2 i) (sym q.2 i)) ∙ time-order _ _ p.0 q.0 a b)

octets-given : (r : Result (List ℕ) FromHexError) (c : Cell) → where_octets r ≡ Ok c → (octets : List ℕ) × (r ≡ Ok octets) × (cell.Bin (encode_upper octets) ≡ c)
octets-given (Ok octets) c e = (octets, refl, ok_same (cell.Bin (encode_upper octets)) c e)
octets-given (Err f) c e = absurd (ok_err c BadValue (sym e))

octets : IsByValue kind.Bin octets_value bytes_cmp
octets s t c d e f =
    let p = octets-given (decode_of s) c e in
    let q = octets-given (decode_of t) d f in
    let a = (decode_of-ok s p.0 p.1).3 in
    let b = (decode_of-ok t q.0 q.1).3 in
    (p.0, q.0, ap result_ok p.1, ap result_ok q.1, (λ i. order (sym p.2 i) (sym q.2 i)) ∙ octets-order p.0 q.0 a b)

pub by-value : OrderIsByValue
by-value = record { dates = dates; moments = moments; times = times; octets = octets }
