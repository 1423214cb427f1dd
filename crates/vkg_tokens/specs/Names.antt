-- Words, prefixed names and labels of blank nodes (RDF 1.1 Turtle, 6.5, and SPARQL 1.1 Query Language, 19.8: PNAME_NS, PNAME_LN, BLANK_NODE_LABEL), character by character.
use Rattle.std.specs.Prelude.{ℕ, ◌||◌, Option, Some, None, if◌then◌else◌, ◌==◌}
use Rattle.std.specs.Char.{is_ascii_alphabetic, is_ascii_hexdigit}
use Rattle.vkg_tokens.specs.declared.names.Name.{Name}
use Rattle.vkg_tokens.specs.declared.names.Name.TheVariants.{Word, Prefix, PrefixDot, Colon, Local, LocalDot, Percent, PercentDigit, Backslash, LowLine, LowWord, BlankColon, Blank, BlankDot}
use Rattle.vkg_tokens.specs.Characters.{is_base, is_label_start, is_name_part, is_word_letter, is_escaped_sign}

-- a prefix begins with a letter and no `_`; a name without one begins with `:` (58)
abbrev pub name_begin : ℕ → Option Name
name_begin c =
    if c == 0x3a then Some Colon
    else if is_ascii_alphabetic c then Some Word
    else if c == 0x5f then Some LowLine
    else if is_base c then Some Prefix
    else None

-- a further part, a dot (46) or the colon
abbrev pub in_prefix : ℕ → Option Name
in_prefix c = if is_name_part c then Some Prefix else if c == 0x2e then Some PrefixDot else if c == 0x3a then Some Colon else None

-- a prefix does not end in a dot
abbrev pub behind_prefix_dot : ℕ → Option Name
behind_prefix_dot c = if is_name_part c then Some Prefix else if c == 0x2e then Some PrefixDot else None

-- PLX: `%` (37) and two hexadecimal digits, or `\` (92) and a sign
abbrev pub escape_begin : ℕ → Option Name
escape_begin c = if c == 0x25 then Some Percent else if c == 0x5c then Some Backslash else None

abbrev pub local_begin : ℕ → Option Name
local_begin c = if is_label_start c || (c == 0x3a) then Some Local else escape_begin c

abbrev pub in_local : ℕ → Option Name
in_local c = if is_name_part c || (c == 0x3a) then Some Local else if c == 0x2e then Some LocalDot else escape_begin c

abbrev pub in_blank : ℕ → Option Name
in_blank c = if is_name_part c then Some Blank else if c == 0x2e then Some BlankDot else None

-- PNAME_NS `PN_PREFIX? ':'`, PNAME_LN `PNAME_NS PN_LOCAL`, PN_PREFIX `PN_CHARS_BASE ((PN_CHARS | '.')* PN_CHARS)?`, PN_LOCAL
-- `(PN_CHARS_U | ':' | [0-9] | PLX) ((PN_CHARS | '.' | ':' | PLX)* (PN_CHARS | ':' | PLX))?`, BLANK_NODE_LABEL
-- `'_:' (PN_CHARS_U | [0-9]) ((PN_CHARS | '.')* PN_CHARS)?`: what was read with one more character
abbrev pub name_step : Name → ℕ → Option Name
name_step Word c = if is_word_letter c then Some Word else in_prefix c
name_step Prefix c = in_prefix c
name_step PrefixDot c = behind_prefix_dot c
name_step Colon c = local_begin c
name_step Local c = in_local c
name_step LocalDot c = in_local c
name_step Percent c = if is_ascii_hexdigit c then Some PercentDigit else None
name_step PercentDigit c = if is_ascii_hexdigit c then Some Local else None
name_step Backslash c = if is_escaped_sign c then Some Local else None
name_step LowLine c = if c == 0x3a then Some BlankColon else if is_word_letter c then Some LowWord else None
name_step LowWord c = if is_word_letter c then Some LowWord else None
name_step BlankColon c = if is_label_start c then Some Blank else None
name_step Blank c = in_blank c
name_step BlankDot c = in_blank c
