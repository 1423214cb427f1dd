-- The decimal digits of a number are a field of the kind Int, and of the cell that has these very digits.
use Rattle.std.proofs.Common.{◌≡◌, ◌∙◌, ◌+◌, ◌≤◌, ◌<◌, ◌^◌, ◌++◌, ◌&&◌, ℕ, true, false, List, [], ◌∷◌, if◌then◌else◌, refl, ap, arith, length, get_or, nat_lt, codes, append-nil, lit<, Ok, decimal, zero, suc, sym}
use Rattle.std.specs.Prelude.{IsUtf8}
use Rattle.std.specs.Fmt.{digits}
use Rattle.std.specs.Str.Parse.{AllDigits}
use Rattle.std.proofs.Math.Nat.{lt_trans}
use Rattle.std.proofs.lemmas.Bool.{le-ltb}
use Rattle.std.proofs.lemmas.Fmt.{IsAscii-decimal, decimal_is_IsNumeral, decimal_nonempty, first_decimal, length-decimal-le}
use Rattle.std.proofs.lemmas.Str.{IsUtf8-from_ascii}
use Rattle.vkg_cells.specs.declared.cell.SqlType.TheVariants as kind
use Rattle.vkg_cells.specs.declared.cell.Cell.TheVariants as cell
use Rattle.vkg_cells.specs.Field.{cell_of_field, where_number}
use Rattle.vkg_cells.specs.Number.{after_point, canonical, fraction, is_digits, is_integer, is_negative, or_zero, unsigned, whole, width, without_leading_zeros, without_trailing_zeros}
use Rattle.vkg_cells.proofs.Digits.{are-digits}
use Rattle.vkg_cells.proofs.CanonicalLemmas.{fraction-spelled, leading-kept, negative-spelled, unsigned-digits, whole-spelled}

module _ (d : ℕ) (ds : List ℕ) (a : AllDigits 10 (d ∷ ds)) (some : 48 < d) where
  plain : unsigned (d ∷ ds) ≡ d ∷ ds
  plain = unsigned-digits d ds (omega (arith, some))

  no_sign : is_negative (d ∷ ds) ≡ false
  no_sign = ap is_negative (sym (append-nil (d ∷ ds))) ∙ negative-spelled false (d ∷ ds) [] a

  all_whole : whole (d ∷ ds) ≡ d ∷ ds
  all_whole = ap whole (sym (append-nil (d ∷ ds))) ∙ whole-spelled false (d ∷ ds) [] a

  no_fraction : fraction (d ∷ ds) ≡ []
  no_fraction = ap fraction (sym (append-nil (d ∷ ds))) ∙ fraction-spelled false (d ∷ ds) [] a

  leads : without_leading_zeros (whole (d ∷ ds)) ≡ d ∷ ds
  leads = ap without_leading_zeros all_whole ∙ leading-kept (d ∷ ds) (λ e. omega (arith, e, some))

  trails : without_trailing_zeros (fraction (d ∷ ds)) ≡ []
  trails = ap without_trailing_zeros no_fraction

  own_form : canonical (d ∷ ds) ≡ d ∷ ds
  own_form =
      (λ i. (if no_sign i && nat_lt 0 (width (d ∷ ds)) then codes "-" else []) ++ or_zero (leads i) ++ after_point (trails i))
      ∙ append-nil (d ∷ ds)

  digits_count : width (d ∷ ds) ≡ length (d ∷ ds)
  digits_count = let e : width (d ∷ ds) ≡ length (d ∷ ds) + 0 = (λ i. length (leads i) + length (trails i)) in omega (arith, e)

  integer : is_integer (d ∷ ds) ≡ true
  integer = ap is_digits plain ∙ are-digits (d ∷ ds) a

  narrow : length (d ∷ ds) ≤ 38 → where_number true (d ∷ ds) (cell.Int (d ∷ ds)) ≡ Ok (cell.Int (d ∷ ds))
  narrow h = rw (digits_count, le-ltb 38 (length (d ∷ ds)) h) refl

  field : length (d ∷ ds) ≤ 38 → cell_of_field kind.Int (d ∷ ds) ≡ Ok (cell.Int (d ∷ ds))
  field h = (λ i. where_number (integer i) (d ∷ ds) (cell.Int (own_form i))) ∙ narrow h

field_of : (text : List ℕ) → AllDigits 10 text → 0 < length text → 48 < get_or text 0 0 → length text ≤ 38 → cell_of_field kind.Int text ≡ Ok (cell.Int text)
field_of [] a some first short = absurd (omega (arith, some))
field_of (d ∷ ds) a some first short = field d ds a first short

zero_field : cell_of_field kind.Int (decimal 0) ≡ Ok (cell.Int (decimal 0))
unfolding digits
zero_field = refl

pub number_field : (n : ℕ) → n < 2 ^ 64 → cell_of_field kind.Int (decimal n) ≡ Ok (cell.Int (decimal n))
number_field zero h = zero_field
number_field (suc n) h =
    let short : length (decimal (suc n)) ≤ 20 = length-decimal-le 20 (suc n) (lit< tt) (lt_trans h (lit< tt)) h in
    field_of (decimal (suc n)) (decimal_is_IsNumeral (suc n) h).0.1 (decimal_nonempty (suc n) h) (first_decimal (suc n) (omega arith) h) (omega (arith, short))

pub decimal_utf8 : (n : ℕ) → n < 2 ^ 64 → IsUtf8 (decimal n)
decimal_utf8 n h = IsUtf8-from_ascii (decimal n) (IsAscii-decimal n h)
