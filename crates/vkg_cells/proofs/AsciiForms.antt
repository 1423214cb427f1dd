-- Texts of small bytes are ASCII, and so are the forms of numbers, truth values and octets.
use Rattle.std.proofs.Common.{◌≡◌, ℕ, List, [], ◌∷◌, codes, Bool, true, false, if◌then◌else◌, nat_lt, refl, lit<}
use Rattle.std.specs.List.{list_all}
use Rattle.std.specs.Str.{IsAscii}
use Rattle.std.specs.Str.Parse.{AllDigits}
use Rattle.std.proofs.lemmas.Fmt.{IsAscii-from_digits}
use Rattle.std.proofs.lemmas.Str.{IsAscii-append}
use Rattle.std.proofs.lemmas.Str.Ascii.{IsAscii-nil, IsAscii-cons}
use Rattle.hex.specs.Hex.{encode_upper, upper_digits}
use Rattle.hex.proofs.HexLemmas.{IsAscii-encode_with}
pub use Rattle.vkg_terms.proofs.Octets.{ascii_small}
use Rattle.vkg_cells.specs.Form.{bool_form}
use Rattle.vkg_cells.specs.Number.{is_decimal, canonical, whole, fraction, is_below_zero, or_zero, after_point, without_leading_zeros, without_trailing_zeros}
use Rattle.vkg_cells.proofs.SignLemmas.{decimal-parts}
use Rattle.vkg_cells.proofs.Digits.{digits-without-leading, digits-without-trailing, after_ascii}

-- each byte is below 128, as a test
abbrev pub small : List ℕ → Bool
small text = list_all (λ b. nat_lt b 128) text

sign_ascii : (minus : Bool) → IsAscii (if minus then codes "-" else [])
sign_ascii true = IsAscii-cons 45 [] (lit< tt) IsAscii-nil
sign_ascii false = IsAscii-nil

zero_ascii : (ds : List ℕ) → AllDigits 10 ds → IsAscii (or_zero ds)
zero_ascii [] a = IsAscii-cons 48 [] (lit< tt) IsAscii-nil
zero_ascii (d ∷ ds) a = IsAscii-from_digits (d ∷ ds) a

pub canonical_ascii : (text : List ℕ) → is_decimal text ≡ true → IsAscii (canonical text)
canonical_ascii text e =
    let parts = decimal-parts text e in
    let w = without_leading_zeros (whole text) in
    let f = without_trailing_zeros (fraction text) in
    let dw = digits-without-leading (whole text) parts.0 in
    let df = digits-without-trailing (fraction text) parts.1 in
    IsAscii-append _ (after_point f) (IsAscii-append _ (or_zero w) (sign_ascii (is_below_zero text)) (zero_ascii w dw)) (after_ascii f df)

pub bool_ascii : (b : Bool) → IsAscii (bool_form b)
bool_ascii true = ascii_small (codes "true") refl
bool_ascii false = ascii_small (codes "false") refl

pub octets_ascii : (octets : List ℕ) → IsAscii (encode_upper octets)
octets_ascii octets = IsAscii-encode_with upper_digits octets (ascii_small upper_digits refl)
