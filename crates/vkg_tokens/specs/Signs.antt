-- The signs of Turtle and SPARQL 1.1 (RDF 1.1 Turtle, 6.5, and SPARQL 1.1 Query Language, 19.8) that begin nothing longer, and their kinds in each language.
use Rattle.std.specs.Prelude.{ℕ, Option, Some, None, if◌then◌else◌, ◌==◌}
use Rattle.std.specs.Bool.{then_some}
use Rattle.vkg_tokens.specs.declared.sparql_kinds.TheConstants as sparql
use Rattle.vkg_tokens.specs.declared.turtle_kinds.TheConstants as turtle
use Rattle.vkg_tokens.specs.declared.signs.Sign.{Sign}
use Rattle.vkg_tokens.specs.declared.signs.Sign.TheVariants.{OpenBrace, CloseBrace, Open, Close, OpenBracket, CloseBracket, Semicolon, Comma, Equal, Greater, GreaterEqual, Not, NotEqual, Ampersand, And, Bar, Or, Caret, Carets, Star, Slash}

-- ( ) * , / ; = > [ ] ^ { | }, then ! and &
abbrev pub sign_begin : ℕ → Option Sign
sign_begin c =
    if c == 0x28 then Some Open
    else if c == 0x29 then Some Close
    else if c == 0x2a then Some Star
    else if c == 0x2c then Some Comma
    else if c == 0x2f then Some Slash
    else if c == 0x3b then Some Semicolon
    else if c == 0x3d then Some Equal
    else if c == 0x3e then Some Greater
    else if c == 0x5b then Some OpenBracket
    else if c == 0x5d then Some CloseBracket
    else if c == 0x5e then Some Caret
    else if c == 0x7b then Some OpenBrace
    else if c == 0x7c then Some Bar
    else if c == 0x7d then Some CloseBrace
    else if c == 0x21 then Some Not
    else if c == 0x26 then Some Ampersand
    else None

-- the signs of two characters: >= != && || ^^
abbrev pub sign_step : Sign → ℕ → Option Sign
sign_step Greater c = then_some (c == 0x3d) GreaterEqual
sign_step Not c = then_some (c == 0x3d) NotEqual
sign_step Ampersand c = then_some (c == 0x26) And
sign_step Bar c = then_some (c == 0x7c) Or
sign_step Caret c = then_some (c == 0x5e) Carets
sign_step sign c = None

abbrev pub turtle_sign : Sign → Option ℕ
turtle_sign OpenBracket = Some turtle.OPEN_BRACKET
turtle_sign CloseBracket = Some turtle.CLOSE_BRACKET
turtle_sign Semicolon = Some turtle.SEMICOLON
turtle_sign Comma = Some turtle.COMMA
turtle_sign Carets = Some turtle.CARETS
turtle_sign Open = Some turtle.OPEN
turtle_sign Close = Some turtle.CLOSE
turtle_sign sign = None

abbrev pub sparql_sign : Sign → Option ℕ
sparql_sign OpenBrace = Some sparql.OPEN_BRACE
sparql_sign CloseBrace = Some sparql.CLOSE_BRACE
sparql_sign Open = Some sparql.OPEN
sparql_sign Close = Some sparql.CLOSE
sparql_sign OpenBracket = Some sparql.OPEN_BRACKET
sparql_sign CloseBracket = Some sparql.CLOSE_BRACKET
sparql_sign Semicolon = Some sparql.SEMICOLON
sparql_sign Comma = Some sparql.COMMA
sparql_sign Equal = Some sparql.EQUAL
sparql_sign NotEqual = Some sparql.NOT_EQUAL
sparql_sign Greater = Some sparql.GREATER
sparql_sign GreaterEqual = Some sparql.GREATER_EQUAL
sparql_sign Not = Some sparql.NOT
sparql_sign And = Some sparql.AND
sparql_sign Or = Some sparql.OR
sparql_sign Star = Some sparql.STAR
sparql_sign Slash = Some sparql.SLASH
sparql_sign Bar = Some sparql.BAR
sparql_sign Caret = Some sparql.CARET
sparql_sign Carets = Some sparql.CARETS
sparql_sign Ampersand = None
