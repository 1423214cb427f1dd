-- An integer's text is a decimal.
use Rattle.std.proofs.Common.{◌≡◌, ℕ, true, List}
use Rattle.vkg_cells.specs.Number.{is_decimal, is_integer}
use Rattle.vkg_cells.proofs.CanonicalLemmas.{integer-decimal}

pub integer_decimal : (text : List ℕ) → is_integer text ≡ true → is_decimal text ≡ true
integer_decimal text e = integer-decimal text e

pub ruleset decimals = (integer_decimal)
