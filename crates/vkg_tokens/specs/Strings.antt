-- Strings (RDF 1.1 Turtle, 6.5, and SPARQL 1.1 Query Language, 19.8: STRING_LITERAL1 and 2, STRING_LITERAL_LONG1 and 2; in Turtle _SINGLE_QUOTE for 1, _QUOTE for 2), character by character.
use Rattle.std.specs.Prelude.{ℕ, ◌+◌, true, false, ◌||◌, ◌&&◌, not, Option, Some, None, option_map, if◌then◌else◌, ◌==◌, nat_lt}
use Rattle.vkg_tokens.specs.declared.characters.CodePoint.{CodePoint}
use Rattle.vkg_tokens.specs.declared.strings.Quotes.{Quotes}
use Rattle.vkg_tokens.specs.declared.strings.Quoted.{Quoted}
use Rattle.vkg_tokens.specs.declared.strings.Quoted.TheVariants.{Opened, Emptied, Inside, Escape, Digits, Closed}
use Rattle.vkg_tokens.specs.Characters.{is_escaped_letter, code_point_begin, code_point_more}

-- `"` (34) or `'` (39)
abbrev pub quoted_begin : ℕ → Option Quoted
quoted_begin c = if (c == 0x22) || (c == 0x27) then Some (Opened c) else None

-- so many bare quotes of the opening kind were the last characters; LF and CR stand in long strings alone
abbrev pub in_quotes : Quotes → ℕ → ℕ → Option Quoted
in_quotes of quotes c =
    if c == of.mark then Some (if of.is_long && nat_lt quotes 2 then Inside of (quotes + 1) else Closed)
    else if c == 0x5c then Some (Escape of)
    else if not of.is_long && ((c == 0x0a) || (c == 0x0d)) then None
    else Some (Inside of 0)

abbrev pub behind_digit : Quotes → CodePoint → Quoted
behind_digit of point = if point.left == 0 then Inside of 0 else Digits of point

abbrev pub behind_backslash : Quotes → ℕ → Option Quoted
behind_backslash of c = if is_escaped_letter c then Some (Inside of 0) else option_map (Digits of) (code_point_begin c)

-- A quote of one kind, then characters, ECHAR and UCHAR but for that quote, `\`, LF and CR, then that quote; or three of them, then
-- `(('"' | '""')? ([^"\] | ECHAR | UCHAR))*`, then three. Two quotes are the empty string, three open a long one.
abbrev pub quoted_step : Quoted → ℕ → Option Quoted
quoted_step (Opened mark) c = if c == mark then Some (Emptied mark) else in_quotes (record { mark = mark; is_long = false }) 0 c
quoted_step (Emptied mark) c = if c == mark then Some (Inside (record { mark = mark; is_long = true }) 0) else None
quoted_step (Inside of quotes) c = in_quotes of quotes c
quoted_step (Escape of) c = behind_backslash of c
quoted_step (Digits of point) c = option_map (behind_digit of) (code_point_more point c)
quoted_step Closed c = None
