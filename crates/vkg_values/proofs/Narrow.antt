-- A number of at most 38 digits has the same value whether there is a widest number or none.
use Rattle.std.proofs.Common.{◌≡◌, Bool, true, false, refl, true≢false}
use Rattle.std.specs.Prelude.{ℕ, ◌^◌, Option, None, IfSome, chars, decimal, length, not, ◌&&◌, ◌||◌, codes, nat_lt, if◌then◌else◌}
use Rattle.std.specs.Str.{bytes_eq}
use Rattle.std.specs.Bool.{then_some}
use Rattle.std.proofs.lemmas.Bool.{ltb-true}
use Rattle.vkg_terms.specs.declared.term.Term.{Term}
use Rattle.vkg_terms.specs.declared.term.Term.TheVariants.{Iri, Blank, Lit}
use Rattle.vkg_terms.specs.declared.term.Annotation.TheVariants.{Plain, Lang, Typed}
use Rattle.vkg_terms.specs.Vocabulary.{xsd}
use Rattle.vkg_cells.specs.declared.cell.Cell.{Cell}
use Rattle.vkg_cells.specs.declared.cell.Cell.TheVariants as cell
use Rattle.vkg_cells.specs.Number.{canonical, is_decimal, is_integer, width}
use Rattle.vkg_cells.specs.WellTyped.{is_wide_number}
use Rattle.vkg_values.specs.declared.operator.Test.{Test}
use Rattle.vkg_values.specs.declared.operator.Test.TheVariants as tests
use Rattle.vkg_values.specs.declared.operator.Compare.{Compare}
use Rattle.vkg_values.specs.declared.operator.Compare.TheVariants as asks
use Rattle.vkg_values.specs.declared.operator.Take.{Take}
use Rattle.vkg_values.specs.declared.operator.Take.TheVariants as takes
use Rattle.vkg_values.specs.Known.{known, widest}
use Rattle.vkg_values.specs.Operators.{ebv, test_value, take_value, compare_value}
use Rattle.vkg_values.specs.Strings.{count_term}
use Rattle.vkg_values.proofs.Widths.{narrow_decimal}

-- by the datatype, by the form, and by the digits
narrow_typed : (integer decimal is_integer is_decimal other wide : Bool) (int dec : Cell) (rest : Option Cell) →
    ((if integer then is_integer else if decimal then is_decimal else other) && ((integer || (decimal || false)) && wide)) ≡ false →
    (if integer then then_some (is_integer && not wide) int else if decimal then then_some (is_decimal && not wide) dec else rest)
    ≡ (if integer then then_some (is_integer && true) int else if decimal then then_some (is_decimal && true) dec else rest)
narrow_typed true decimal true is_decimal other true int dec rest h = absurd (true≢false h)
narrow_typed true decimal true is_decimal other false int dec rest h = refl
narrow_typed true decimal false is_decimal other wide int dec rest h = refl
narrow_typed false true is_integer true other true int dec rest h = absurd (true≢false h)
narrow_typed false true is_integer true other false int dec rest h = refl
narrow_typed false true is_integer false other wide int dec rest h = refl
narrow_typed false false is_integer is_decimal other wide int dec rest h = refl

pub narrow_known : (t : Term) → is_wide_number t ≡ false → known widest t ≡ known None t
narrow_known (Iri iri) h = refl
narrow_known (Blank label) h = refl
narrow_known (Lit text Plain) h = refl
narrow_known (Lit text (Lang tag)) h = refl
narrow_known (Lit text (Typed datatype)) h =
    narrow_typed (bytes_eq datatype (xsd (codes "integer"))) (bytes_eq datatype (xsd (codes "decimal"))) (is_integer text) (is_decimal text) _ (nat_lt 38 (width text)) (cell.Int (canonical text)) (cell.Dec (canonical text)) _ h

pub ebv_narrow : (t : Term) → is_wide_number t ≡ false → ebv widest t ≡ ebv None t
ebv_narrow t h = rw (narrow_known t h) refl

pub test_narrow : (f : Test) (t : Term) → is_wide_number t ≡ false → test_value widest f t ≡ test_value None f t
test_narrow tests.IsIri t h = refl
test_narrow tests.IsBlank t h = refl
test_narrow tests.IsLiteral t h = refl
test_narrow tests.IsNumeric t h = rw (narrow_known t h) refl

pub compare_narrow : (f : Compare) (s t : Term) → is_wide_number s ≡ false → is_wide_number t ≡ false → compare_value widest f s t ≡ compare_value None f s t
compare_narrow asks.Equal s t h k = rw (narrow_known s h, narrow_known t k) refl
compare_narrow asks.NotEqual s t h k = rw (narrow_known s h, narrow_known t k) refl
compare_narrow asks.Less s t h k = rw (narrow_known s h, narrow_known t k) refl
compare_narrow asks.Greater s t h k = rw (narrow_known s h, narrow_known t k) refl
compare_narrow asks.LessOrEqual s t h k = rw (narrow_known s h, narrow_known t k) refl
compare_narrow asks.GreaterOrEqual s t h k = rw (narrow_known s h, narrow_known t k) refl
compare_narrow asks.Starts s t h k = refl
compare_narrow asks.Ends s t h k = refl
compare_narrow asks.Contains s t h k = refl

digits_narrow : (n : ℕ) → nat_lt n (10 ^ 38) ≡ true → is_wide_number (Lit (decimal n) (Typed (xsd (codes "integer")))) ≡ false
digits_narrow n e = and_false (is_integer (decimal n)) (nat_lt 38 (width (decimal n))) (narrow_decimal n (ltb-true n (10 ^ 38) e))
  where
    and_false : (a b : Bool) → b ≡ false → (a && (true && b)) ≡ false
    and_false true b e = e
    and_false false b e = refl

count_narrow : (n : ℕ) → IfSome (count_term n) (λ u. is_wide_number u ≡ false)
count_narrow n = by (nat_lt n (10 ^ 38)) (digits_narrow n)
  where
    by : (b : Bool) → (b ≡ true → is_wide_number (Lit (decimal n) (Typed (xsd (codes "integer")))) ≡ false) → IfSome (then_some b (Lit (decimal n) (Typed (xsd (codes "integer"))))) (λ u. is_wide_number u ≡ false)
    by true h = h refl
    by false h = tt

-- what is taken from a term is no number of more digits
pub take_narrow : (f : Take) (t : Term) → IfSome (take_value f t) (λ u. is_wide_number u ≡ false)
take_narrow takes.Str (Iri s) = refl
take_narrow takes.Str (Blank s) = tt
take_narrow takes.Str (Lit s k) = refl
take_narrow takes.Lang (Iri s) = tt
take_narrow takes.Lang (Blank s) = tt
take_narrow takes.Lang (Lit s k) = refl
take_narrow takes.Datatype (Iri s) = tt
take_narrow takes.Datatype (Blank s) = tt
take_narrow takes.Datatype (Lit s k) = refl
take_narrow takes.Length (Iri s) = tt
take_narrow takes.Length (Blank s) = tt
take_narrow takes.Length (Lit s Plain) = count_narrow (length (chars s))
take_narrow takes.Length (Lit s (Lang tag)) = count_narrow (length (chars s))
take_narrow takes.Length (Lit s (Typed datatype)) = tt
