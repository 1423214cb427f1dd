-- One automaton for the tokens of Turtle and of SPARQL 1.1; the class of what was read, if it is a token, differs.
use Rattle.std.specs.Prelude.{ℕ, ◌+◌, ◌*◌, ◌-◌, ◌||◌, Option, Some, None, option_map, if◌then◌else◌, ◌==◌, nat_le, nat_lt}
use lib.Utf8.{scalar}
use Rattle.std.specs.Option.{option_or}
use Rattle.vkg_tokens.specs.declared.sparql_kinds.TheConstants as sparql
use Rattle.vkg_tokens.specs.declared.turtle_kinds.TheConstants as turtle
use Rattle.vkg_tokens.specs.declared.lexeme.Lexeme.{Lexeme}
use Rattle.vkg_tokens.specs.declared.lexeme.Lexeme.TheVariants.{Start, OfName, OfNumber, OfString, OfIri, OfSign, OfTag, OfVariable}
use Rattle.vkg_tokens.specs.declared.names.Name.{Name}
use Rattle.vkg_tokens.specs.declared.names.Name.TheVariants as name
use Rattle.vkg_tokens.specs.declared.numbers.Number.{Number}
use Rattle.vkg_tokens.specs.declared.numbers.Number.TheVariants as number
use Rattle.vkg_tokens.specs.declared.strings.Quoted.{Quoted}
use Rattle.vkg_tokens.specs.declared.strings.Quoted.TheVariants as string
use Rattle.vkg_tokens.specs.declared.iris.IriRef.{IriRef}
use Rattle.vkg_tokens.specs.declared.iris.IriRef.TheVariants as iri
use Rattle.vkg_tokens.specs.declared.tags.Tag.{Tag}
use Rattle.vkg_tokens.specs.declared.tags.Tag.TheVariants as tag
use Rattle.vkg_tokens.specs.declared.variables.Variable.{Variable}
use Rattle.vkg_tokens.specs.declared.variables.Variable.TheVariants as variable
use Rattle.vkg_tokens.specs.declared.scan.Scan.{Scan}
use Rattle.vkg_tokens.specs.declared.scan.Scan.TheVariants.{Between, Within}
use Rattle.vkg_tokens.specs.Names.{name_begin, name_step}
use Rattle.vkg_tokens.specs.Numbers.{number_begin, number_step}
use Rattle.vkg_tokens.specs.Strings.{quoted_begin, quoted_step}
use Rattle.vkg_tokens.specs.Iris.{iri_step}
use Rattle.vkg_tokens.specs.Signs.{sign_begin, sign_step, turtle_sign, sparql_sign}
use Rattle.vkg_tokens.specs.Tags.{tag_step, variable_step}

-- `<` (60), `@` (64), `?` (63), `$` (36)
abbrev pub mark_begin : ℕ → Option Lexeme
mark_begin c =
    if c == 0x3c then Some (OfIri iri.Less)
    else if c == 0x40 then Some (OfTag tag.At)
    else if c == 0x3f then Some (OfVariable variable.Question)
    else if c == 0x24 then Some (OfVariable variable.Dollar)
    else None

abbrev pub lexeme_begin : ℕ → Option Lexeme
lexeme_begin c =
    option_or (option_map OfName (name_begin c))
    (option_or (option_map OfNumber (number_begin c))
    (option_or (option_map OfString (quoted_begin c))
    (option_or (option_map OfSign (sign_begin c)) (mark_begin c))))

-- what was read with one more character
abbrev pub lexeme_step : Lexeme → ℕ → Option Lexeme
lexeme_step Start c = lexeme_begin c
lexeme_step (OfName state) c = option_map OfName (name_step state c)
lexeme_step (OfNumber state) c = option_map OfNumber (number_step state c)
lexeme_step (OfString state) c = option_map OfString (quoted_step state c)
lexeme_step (OfIri state) c = option_map OfIri (iri_step state c)
lexeme_step (OfSign state) c = option_map OfSign (sign_step state c)
lexeme_step (OfTag state) c = option_map OfTag (tag_step state c)
lexeme_step (OfVariable state) c = option_map OfVariable (variable_step state c)

-- with one more character, if this is the code of one
abbrev pub with_code : Lexeme → ℕ → Option Scan
with_code lexeme code = if scalar code then option_map Between (lexeme_step lexeme code) else None

-- UTF-8 (RFC 3629, section 3): the first byte of a character says how many follow, each of those has six bits of it
abbrev pub first_byte : Lexeme → ℕ → Option Scan
first_byte lexeme b =
    if nat_lt b 0x80 then with_code lexeme b
    else if nat_lt b 0xc0 then None
    else if nat_lt b 0xe0 then Some (Within lexeme 1 (b - 0xc0))
    else if nat_lt b 0xf0 then Some (Within lexeme 2 (b - 0xe0))
    else if nat_lt b 0xf8 then Some (Within lexeme 3 (b - 0xf0))
    else None

abbrev pub further_byte : Lexeme → ℕ → ℕ → ℕ → Option Scan
further_byte lexeme left bits b =
    if nat_lt b 0x80 || nat_le 0xc0 b || nat_le 0x8000 bits then None
    else if nat_lt 1 left then Some (Within lexeme (left - 1) (bits * 64 + (b - 0x80)))
    else with_code lexeme (bits * 64 + (b - 0x80))

-- what was read with one more byte
abbrev pub scan_step : Scan → ℕ → Option Scan
scan_step (Between lexeme) b = first_byte lexeme b
scan_step (Within lexeme left bits) b = further_byte lexeme left bits b

-- the classes of Turtle's tokens, words all one
abbrev pub turtle_name : Name → Option ℕ
turtle_name name.Word = Some turtle.WORD
turtle_name name.LowLine = Some turtle.WORD
turtle_name name.LowWord = Some turtle.WORD
turtle_name name.Colon = Some turtle.PNAME_NS
turtle_name name.Local = Some turtle.PNAME_LN
turtle_name name.Blank = Some turtle.BLANK
turtle_name state = None

abbrev pub turtle_number : Number → Option ℕ
turtle_number number.Dot = Some turtle.DOT
turtle_number number.Digits = Some turtle.INTEGER
turtle_number number.Fraction = Some turtle.DECIMAL
turtle_number number.ExponentDigits = Some turtle.DOUBLE
turtle_number state = None

abbrev pub string_or_none : ℕ → Quoted → Option ℕ
string_or_none class (string.Emptied mark) = Some class
string_or_none class string.Closed = Some class
string_or_none class state = None

abbrev pub tag_or_none : ℕ → Tag → Option ℕ
tag_or_none class tag.Letters = Some class
tag_or_none class tag.Part = Some class
tag_or_none class state = None

abbrev pub turtle_iri : IriRef → Option ℕ
turtle_iri iri.Closed = Some turtle.IRIREF
turtle_iri state = None

abbrev pub turtle_lexeme : Lexeme → Option ℕ
turtle_lexeme Start = None
turtle_lexeme (OfName state) = turtle_name state
turtle_lexeme (OfNumber state) = turtle_number state
turtle_lexeme (OfString state) = string_or_none turtle.STRING state
turtle_lexeme (OfIri state) = turtle_iri state
turtle_lexeme (OfSign sign) = turtle_sign sign
turtle_lexeme (OfTag state) = tag_or_none turtle.LANGTAG state
turtle_lexeme (OfVariable state) = None

-- the classes of SPARQL's tokens, words all one
abbrev pub sparql_name : Name → Option ℕ
sparql_name name.Word = Some sparql.WORD
sparql_name name.LowLine = Some sparql.WORD
sparql_name name.LowWord = Some sparql.WORD
sparql_name name.Colon = Some sparql.PNAME_NS
sparql_name name.Local = Some sparql.PNAME_LN
sparql_name name.Blank = Some sparql.BLANK
sparql_name state = None

abbrev pub sparql_number : Number → Option ℕ
sparql_number number.Dot = Some sparql.DOT
sparql_number number.Plus = Some sparql.PLUS_SIGN
sparql_number number.Minus = Some sparql.MINUS_SIGN
sparql_number number.Digits = Some sparql.INTEGER
sparql_number number.Fraction = Some sparql.DECIMAL
sparql_number number.ExponentDigits = Some sparql.DOUBLE
sparql_number state = None

abbrev pub sparql_iri : IriRef → Option ℕ
sparql_iri iri.Less = Some sparql.LESS
sparql_iri iri.LessEqual = Some sparql.LESS_EQUAL
sparql_iri iri.Closed = Some sparql.IRIREF
sparql_iri state = None

abbrev pub sparql_variable : Variable → Option ℕ
sparql_variable variable.Question = Some sparql.QUESTION
sparql_variable variable.Dollar = None
sparql_variable variable.Named = Some sparql.VAR

abbrev pub sparql_lexeme : Lexeme → Option ℕ
sparql_lexeme Start = None
sparql_lexeme (OfName state) = sparql_name state
sparql_lexeme (OfNumber state) = sparql_number state
sparql_lexeme (OfString state) = string_or_none sparql.STRING state
sparql_lexeme (OfIri state) = sparql_iri state
sparql_lexeme (OfSign sign) = sparql_sign sign
sparql_lexeme (OfTag state) = tag_or_none sparql.LANGTAG state
sparql_lexeme (OfVariable state) = sparql_variable state

-- within a character there is no token
abbrev pub turtle_class : Scan → Option ℕ
turtle_class (Between lexeme) = turtle_lexeme lexeme
turtle_class (Within lexeme left bits) = None

abbrev pub sparql_class : Scan → Option ℕ
sparql_class (Between lexeme) = sparql_lexeme lexeme
sparql_class (Within lexeme left bits) = None
