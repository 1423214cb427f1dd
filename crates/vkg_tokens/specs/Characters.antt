-- The classes of characters that names are made of (RDF 1.1 Turtle, 6.5, and SPARQL 1.1 Query Language, 19.8: the productions whose names are said below), by code points.
use Rattle.std.specs.Prelude.{ℕ, ◌+◌, ◌*◌, ◌-◌, Bool, ◌||◌, ◌&&◌, not, Option, Some, None, if◌then◌else◌, ◌==◌, nat_le, nat_lt}
use Rattle.std.specs.Char.{is_ascii_alphabetic, is_ascii_hexdigit, digit_value}
use lib.Utf8.{scalar}
use Rattle.std.specs.Int.{is_in_range}
use Rattle.vkg_tokens.specs.declared.characters.CodePoint.{CodePoint}

-- PN_CHARS_BASE
unfoldable pub is_base : ℕ → Bool
is_base c =
    is_in_range 0x41 0x5a c || is_in_range 0x61 0x7a c || is_in_range 0xc0 0xd6 c || is_in_range 0xd8 0xf6 c || is_in_range 0xf8 0x2ff c
    || is_in_range 0x370 0x37d c || is_in_range 0x37f 0x1fff c || is_in_range 0x200c 0x200d c || is_in_range 0x2070 0x218f c || is_in_range 0x2c00 0x2fef c
    || is_in_range 0x3001 0xd7ff c || is_in_range 0xf900 0xfdcf c || is_in_range 0xfdf0 0xfffd c || is_in_range 0x10000 0xeffff c

-- PN_CHARS_U: one of these, or `_`
unfoldable pub is_base_or_low_line : ℕ → Bool
is_base_or_low_line c = is_base c || (c == 0x5f)

-- PN_CHARS_U or a digit: the first character of a variable or of a blank node's label
unfoldable pub is_label_start : ℕ → Bool
is_label_start c = is_base_or_low_line c || is_in_range 0x30 0x39 c

-- a further character of VARNAME: no `-` and no dot
unfoldable pub is_variable_part : ℕ → Bool
is_variable_part c = is_label_start c || (c == 0xb7) || is_in_range 0x300 0x36f c || is_in_range 0x203f 0x2040 c

-- PN_CHARS: one of these, or `-`
unfoldable pub is_name_part : ℕ → Bool
is_name_part c = is_variable_part c || (c == 0x2d)

-- a letter or `_`, both of ASCII
abbrev pub is_word_letter : ℕ → Bool
is_word_letter c = is_ascii_alphabetic c || (c == 0x5f)

-- what may stand behind `\` in a local name (PN_LOCAL_ESC): _ ~ . - ! $ & ' ( ) * + , ; = / ? # @ %
unfoldable pub is_escaped_sign : ℕ → Bool
is_escaped_sign c =
    (c == 0x5f) || (c == 0x7e) || is_in_range 0x23 0x2f c || (c == 0x21) || (c == 0x3b) || (c == 0x3d) || (c == 0x3f) || (c == 0x40)

-- what stands plainly in an IRIREF: none of 00 to 20 and < > " { } | ^ ` \
unfoldable pub is_iri_part : ℕ → Bool
is_iri_part c =
    nat_lt 0x20 c && not ((c == 0x22) || (c == 0x3c) || (c == 0x3e) || (c == 0x5c) || (c == 0x5e) || (c == 0x60) || is_in_range 0x7b 0x7d c)

-- what may stand behind `\` in a string (ECHAR): t b n r f " ' \
unfoldable pub is_escaped_letter : ℕ → Bool
is_escaped_letter c =
    (c == 0x74) || (c == 0x62) || (c == 0x6e) || (c == 0x72) || (c == 0x66) || (c == 0x22) || (c == 0x27) || (c == 0x5c)

-- a numeric escape (UCHAR) behind its `\`: `u` and four hexadecimal digits, or `U` and eight
abbrev pub code_point_begin : ℕ → Option CodePoint
code_point_begin c =
    if c == 0x75 then Some (record { left = 4; value = 0 }) else if c == 0x55 then Some (record { left = 8; value = 0 }) else None

-- one digit more, where the whole may still name a character: at most 10FFFF, and at the last digit no surrogate
unfoldable pub code_point_more : CodePoint → ℕ → Option CodePoint
code_point_more of c =
    if is_ascii_hexdigit c && nat_le of.value 0x10fff && (nat_lt 1 of.left || scalar (of.value * 16 + digit_value c))
    then Some (record { left = of.left - 1; value = of.value * 16 + digit_value c })
    else None
