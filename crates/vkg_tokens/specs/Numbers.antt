-- Numbers (RDF 1.1 Turtle, 6.5, and SPARQL 1.1 Query Language, 19.8: INTEGER, DECIMAL, DOUBLE), character by character.
use Rattle.std.specs.Prelude.{ℕ, Bool, ◌||◌, Option, Some, None, if◌then◌else◌, ◌==◌}
use Rattle.std.specs.Char.{is_ascii_digit}
use Rattle.vkg_tokens.specs.declared.numbers.Number.{Number}
use Rattle.vkg_tokens.specs.declared.numbers.Number.TheVariants.{Plus, Minus, Dot, SignDot, Digits, DigitsDot, Fraction, Exponent, ExponentSign, ExponentDigits}

-- `+` (43), `-` (45), a dot (46) or a digit
abbrev pub number_begin : ℕ → Option Number
number_begin c =
    if is_ascii_digit c then Some Digits
    else if c == 0x2e then Some Dot
    else if c == 0x2b then Some Plus
    else if c == 0x2d then Some Minus
    else None

abbrev pub is_exponent_mark : ℕ → Bool
is_exponent_mark c = (c == 0x65) || (c == 0x45)

abbrev pub digit_or_none : Number → ℕ → Option Number
digit_or_none next c = if is_ascii_digit c then Some next else None

abbrev pub behind_sign : ℕ → Option Number
behind_sign c = if c == 0x2e then Some SignDot else digit_or_none Digits c

abbrev pub exponent_begin : ℕ → Option Number
exponent_begin c = if is_exponent_mark c then Some Exponent else None

abbrev pub in_digits : ℕ → Option Number
in_digits c = if is_ascii_digit c then Some Digits else if c == 0x2e then Some DigitsDot else exponent_begin c

abbrev pub in_fraction : ℕ → Option Number
in_fraction c = if is_ascii_digit c then Some Fraction else exponent_begin c

abbrev pub in_exponent : ℕ → Option Number
in_exponent c = if (c == 0x2b) || (c == 0x2d) then Some ExponentSign else digit_or_none ExponentDigits c

-- INTEGER `[+-]? [0-9]+`, DECIMAL `[+-]? [0-9]* '.' [0-9]+`, DOUBLE `[+-]? ([0-9]+ '.' [0-9]* EXPONENT | '.' [0-9]+ EXPONENT | [0-9]+ EXPONENT)`,
-- EXPONENT `[eE] [+-]? [0-9]+`: what was read with one more character
abbrev pub number_step : Number → ℕ → Option Number
number_step Plus c = behind_sign c
number_step Minus c = behind_sign c
number_step Dot c = digit_or_none Fraction c
number_step SignDot c = digit_or_none Fraction c
number_step Digits c = in_digits c
number_step DigitsDot c = in_fraction c
number_step Fraction c = in_fraction c
number_step Exponent c = in_exponent c
number_step ExponentSign c = digit_or_none ExponentDigits c
number_step ExponentDigits c = digit_or_none ExponentDigits c
