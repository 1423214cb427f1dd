-- RDF 1.1 Turtle, 6.4: escapes in strings, IRI references and local names, on the characters of a text.
use Rattle.std.specs.Prelude.{ℕ, ◌+◌, ◌-◌, ◌*◌, ◌%◌, ◌^◌, not, ◌||◌, List, [], ◌∷◌, ◌++◌, chars, encode_utf8, flat_map, if◌then◌else◌, ◌==◌, nat_lt}
use Rattle.std.specs.Char.{digit_value}
use lib.Utf8.{scalar}
use Rattle.std.specs.List.{filter}
use Rattle.vkg_turtle.specs.declared.escape.Escape.{Escape}
use Rattle.vkg_turtle.specs.declared.escape.Escape.TheVariants.{Outside, Backslash, Digits}

-- HEX: the value of a hex digit
abbrev pub hex_value : ℕ → ℕ
hex_value c = if nat_lt (digit_value c) 16 then digit_value c else 0

-- the number with one more hex digit; eight of them stay below 2 ^ 32
abbrev pub with_digit : ℕ → ℕ → ℕ
with_digit code c = (code * 16 + hex_value c) % 2 ^ 32

-- the character of a number; every token names one
abbrev pub character : ℕ → ℕ
character code = if scalar code then code else 0xFFFD

-- ECHAR: tab, backspace, line feed, carriage return, form feed; a quote and a backslash stand for themselves
abbrev pub escaped : ℕ → ℕ
escaped c =
    if c == 116 then 9
    else if c == 98 then 8
    else if c == 110 then 10
    else if c == 114 then 13
    else if c == 102 then 12
    else c

-- `u` (117) with 4 digits, `U` (85) with 8
abbrev pub behind_backslash : ℕ → Escape
behind_backslash c = if c == 117 then Digits 4 0 else if c == 85 then Digits 8 0 else Outside

-- what stands before the next character
abbrev pub behind : Escape → ℕ → Escape
behind Outside c = if c == 92 then Backslash else Outside
behind Backslash c = behind_backslash c
behind (Digits left code) c = if nat_lt 1 left then Digits (left - 1) (with_digit code c) else Outside

-- the characters that end with c
abbrev pub meant : Escape → ℕ → List ℕ
meant Outside c = if c == 92 then [] else c ∷ []
meant Backslash c = if (c == 117) || (c == 85) then [] else escaped c ∷ []
meant (Digits left code) c = if nat_lt 1 left then [] else character (with_digit code c) ∷ []

-- ECHAR `'\' [tbnrf"'\]`, UCHAR `'\u' HEX HEX HEX HEX | '\U'` and eight HEX: the characters that these stand for, one after another
abbrev pub unescaped : Escape → List ℕ → List ℕ
unescaped e [] = []
unescaped e (c ∷ cs) = meant e c ++ unescaped (behind e c) cs

-- UCHAR and ECHAR: what the text of a string or of an IRI reference stands for
unfoldable pub text_meant : List ℕ → List ℕ
text_meant text = flat_map encode_utf8 (unescaped Outside (chars text))

-- PN_LOCAL_ESC: the backslash (92) is no part of a local name; a `%` and its digits are
unfoldable pub local_meant : List ℕ → List ℕ
local_meant text = flat_map encode_utf8 (filter (λ c. not (c == 92)) (chars text))
