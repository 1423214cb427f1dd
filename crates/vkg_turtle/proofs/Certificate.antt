-- That the grammar of Turtle is LL(1), by what begins and follows each symbol.
use Rattle.std.proofs.Common.{◌∷◌, List, [], true, false, refl, lit<}
use Rattle.vkg_grammar.specs.Certified.{Claim}
use Rattle.vkg_grammar.specs.Form.{IsWellFormed}
use Rattle.vkg_grammar.specs.Grammar.{IsLL1}
use Rattle.vkg_grammar.proofs.Certifying.{passes_ll1, is_grammar, has_kinds}
use Rattle.vkg_tokens.specs.declared.turtle_kinds.TheConstants.{AT_PREFIX, AT_BASE, PREFIX, BASE, DOT, OPEN_BRACKET, CLOSE_BRACKET, SEMICOLON, COMMA, IS_A, CARETS, TRUE, FALSE, IRIREF, PNAME_NS, PNAME_LN, BLANK, STRING, LANGTAG, INTEGER, DECIMAL, DOUBLE, KIND_COUNT}
use Rattle.vkg_turtle.specs.declared.grammar_table.TheConstants.{TURTLE}

abbrev claims : List Claim
claims =
    record { empty = true; begin = AT_PREFIX ∷ AT_BASE ∷ PREFIX ∷ BASE ∷ OPEN_BRACKET ∷ IRIREF ∷ PNAME_NS ∷ PNAME_LN ∷ BLANK ∷ []; follow = []; level = 1 }
    ∷ record { empty = false; begin = AT_PREFIX ∷ []; follow = PNAME_NS ∷ []; level = 1 }
    ∷ record { empty = false; begin = PNAME_NS ∷ []; follow = IRIREF ∷ []; level = 1 }
    ∷ record { empty = false; begin = IRIREF ∷ []; follow = AT_PREFIX ∷ AT_BASE ∷ PREFIX ∷ BASE ∷ DOT ∷ OPEN_BRACKET ∷ IRIREF ∷ PNAME_NS ∷ PNAME_LN ∷ BLANK ∷ []; level = 1 }
    ∷ record { empty = false; begin = DOT ∷ []; follow = AT_PREFIX ∷ AT_BASE ∷ PREFIX ∷ BASE ∷ OPEN_BRACKET ∷ IRIREF ∷ PNAME_NS ∷ PNAME_LN ∷ BLANK ∷ []; level = 1 }
    ∷ record { empty = false; begin = IRIREF ∷ []; follow = AT_PREFIX ∷ AT_BASE ∷ PREFIX ∷ BASE ∷ OPEN_BRACKET ∷ IRIREF ∷ PNAME_NS ∷ PNAME_LN ∷ BLANK ∷ []; level = 2 }
    ∷ record { empty = false; begin = PNAME_NS ∷ []; follow = AT_PREFIX ∷ AT_BASE ∷ PREFIX ∷ BASE ∷ OPEN_BRACKET ∷ IRIREF ∷ PNAME_NS ∷ PNAME_LN ∷ BLANK ∷ []; level = 3 }
    ∷ record { empty = false; begin = AT_PREFIX ∷ []; follow = AT_PREFIX ∷ AT_BASE ∷ PREFIX ∷ BASE ∷ OPEN_BRACKET ∷ IRIREF ∷ PNAME_NS ∷ PNAME_LN ∷ BLANK ∷ []; level = 4 }
    ∷ record { empty = false; begin = AT_BASE ∷ []; follow = IRIREF ∷ []; level = 1 }
    ∷ record { empty = false; begin = IRIREF ∷ []; follow = AT_PREFIX ∷ AT_BASE ∷ PREFIX ∷ BASE ∷ DOT ∷ OPEN_BRACKET ∷ IRIREF ∷ PNAME_NS ∷ PNAME_LN ∷ BLANK ∷ []; level = 1 }
    ∷ record { empty = false; begin = IRIREF ∷ []; follow = AT_PREFIX ∷ AT_BASE ∷ PREFIX ∷ BASE ∷ OPEN_BRACKET ∷ IRIREF ∷ PNAME_NS ∷ PNAME_LN ∷ BLANK ∷ []; level = 2 }
    ∷ record { empty = false; begin = AT_BASE ∷ []; follow = AT_PREFIX ∷ AT_BASE ∷ PREFIX ∷ BASE ∷ OPEN_BRACKET ∷ IRIREF ∷ PNAME_NS ∷ PNAME_LN ∷ BLANK ∷ []; level = 3 }
    ∷ record { empty = false; begin = PREFIX ∷ []; follow = PNAME_NS ∷ []; level = 1 }
    ∷ record { empty = false; begin = PNAME_NS ∷ []; follow = AT_PREFIX ∷ AT_BASE ∷ PREFIX ∷ BASE ∷ OPEN_BRACKET ∷ IRIREF ∷ PNAME_NS ∷ PNAME_LN ∷ BLANK ∷ []; level = 2 }
    ∷ record { empty = false; begin = PREFIX ∷ []; follow = AT_PREFIX ∷ AT_BASE ∷ PREFIX ∷ BASE ∷ OPEN_BRACKET ∷ IRIREF ∷ PNAME_NS ∷ PNAME_LN ∷ BLANK ∷ []; level = 3 }
    ∷ record { empty = false; begin = BASE ∷ []; follow = IRIREF ∷ []; level = 1 }
    ∷ record { empty = false; begin = BASE ∷ []; follow = AT_PREFIX ∷ AT_BASE ∷ PREFIX ∷ BASE ∷ OPEN_BRACKET ∷ IRIREF ∷ PNAME_NS ∷ PNAME_LN ∷ BLANK ∷ []; level = 2 }
    ∷ record { empty = false; begin = OPEN_BRACKET ∷ IRIREF ∷ PNAME_NS ∷ PNAME_LN ∷ BLANK ∷ []; follow = DOT ∷ []; level = 8 }
    ∷ record { empty = false; begin = IRIREF ∷ PNAME_NS ∷ PNAME_LN ∷ BLANK ∷ []; follow = IS_A ∷ IRIREF ∷ PNAME_NS ∷ PNAME_LN ∷ []; level = 2 }
    ∷ record { empty = false; begin = IRIREF ∷ PNAME_NS ∷ PNAME_LN ∷ []; follow = IS_A ∷ IRIREF ∷ PNAME_NS ∷ PNAME_LN ∷ []; level = 2 }
    ∷ record { empty = false; begin = IRIREF ∷ []; follow = IS_A ∷ IRIREF ∷ PNAME_NS ∷ PNAME_LN ∷ []; level = 1 }
    ∷ record { empty = false; begin = PNAME_LN ∷ []; follow = IS_A ∷ IRIREF ∷ PNAME_NS ∷ PNAME_LN ∷ []; level = 1 }
    ∷ record { empty = false; begin = PNAME_NS ∷ []; follow = IS_A ∷ IRIREF ∷ PNAME_NS ∷ PNAME_LN ∷ []; level = 1 }
    ∷ record { empty = false; begin = PNAME_NS ∷ PNAME_LN ∷ []; follow = IS_A ∷ IRIREF ∷ PNAME_NS ∷ PNAME_LN ∷ []; level = 2 }
    ∷ record { empty = false; begin = BLANK ∷ []; follow = IS_A ∷ IRIREF ∷ PNAME_NS ∷ PNAME_LN ∷ []; level = 1 }
    ∷ record { empty = false; begin = IS_A ∷ IRIREF ∷ PNAME_NS ∷ PNAME_LN ∷ []; follow = DOT ∷ CLOSE_BRACKET ∷ []; level = 6 }
    ∷ record { empty = false; begin = IS_A ∷ IRIREF ∷ PNAME_NS ∷ PNAME_LN ∷ []; follow = OPEN_BRACKET ∷ TRUE ∷ FALSE ∷ IRIREF ∷ PNAME_NS ∷ PNAME_LN ∷ BLANK ∷ STRING ∷ INTEGER ∷ DECIMAL ∷ DOUBLE ∷ []; level = 2 }
    ∷ record { empty = false; begin = IRIREF ∷ PNAME_NS ∷ PNAME_LN ∷ []; follow = OPEN_BRACKET ∷ TRUE ∷ FALSE ∷ IRIREF ∷ PNAME_NS ∷ PNAME_LN ∷ BLANK ∷ STRING ∷ INTEGER ∷ DECIMAL ∷ DOUBLE ∷ []; level = 2 }
    ∷ record { empty = false; begin = IRIREF ∷ []; follow = OPEN_BRACKET ∷ TRUE ∷ FALSE ∷ IRIREF ∷ PNAME_NS ∷ PNAME_LN ∷ BLANK ∷ STRING ∷ INTEGER ∷ DECIMAL ∷ DOUBLE ∷ []; level = 1 }
    ∷ record { empty = false; begin = PNAME_LN ∷ []; follow = OPEN_BRACKET ∷ TRUE ∷ FALSE ∷ IRIREF ∷ PNAME_NS ∷ PNAME_LN ∷ BLANK ∷ STRING ∷ INTEGER ∷ DECIMAL ∷ DOUBLE ∷ []; level = 1 }
    ∷ record { empty = false; begin = PNAME_NS ∷ []; follow = OPEN_BRACKET ∷ TRUE ∷ FALSE ∷ IRIREF ∷ PNAME_NS ∷ PNAME_LN ∷ BLANK ∷ STRING ∷ INTEGER ∷ DECIMAL ∷ DOUBLE ∷ []; level = 1 }
    ∷ record { empty = false; begin = PNAME_NS ∷ PNAME_LN ∷ []; follow = OPEN_BRACKET ∷ TRUE ∷ FALSE ∷ IRIREF ∷ PNAME_NS ∷ PNAME_LN ∷ BLANK ∷ STRING ∷ INTEGER ∷ DECIMAL ∷ DOUBLE ∷ []; level = 2 }
    ∷ record { empty = false; begin = IS_A ∷ []; follow = OPEN_BRACKET ∷ TRUE ∷ FALSE ∷ IRIREF ∷ PNAME_NS ∷ PNAME_LN ∷ BLANK ∷ STRING ∷ INTEGER ∷ DECIMAL ∷ DOUBLE ∷ []; level = 1 }
    ∷ record { empty = false; begin = OPEN_BRACKET ∷ TRUE ∷ FALSE ∷ IRIREF ∷ PNAME_NS ∷ PNAME_LN ∷ BLANK ∷ STRING ∷ INTEGER ∷ DECIMAL ∷ DOUBLE ∷ []; follow = DOT ∷ CLOSE_BRACKET ∷ SEMICOLON ∷ []; level = 4 }
    ∷ record { empty = false; begin = OPEN_BRACKET ∷ TRUE ∷ FALSE ∷ IRIREF ∷ PNAME_NS ∷ PNAME_LN ∷ BLANK ∷ STRING ∷ INTEGER ∷ DECIMAL ∷ DOUBLE ∷ []; follow = DOT ∷ CLOSE_BRACKET ∷ SEMICOLON ∷ COMMA ∷ []; level = 3 }
    ∷ record { empty = false; begin = IRIREF ∷ PNAME_NS ∷ PNAME_LN ∷ []; follow = DOT ∷ CLOSE_BRACKET ∷ SEMICOLON ∷ COMMA ∷ []; level = 2 }
    ∷ record { empty = false; begin = IRIREF ∷ []; follow = DOT ∷ CLOSE_BRACKET ∷ SEMICOLON ∷ COMMA ∷ []; level = 1 }
    ∷ record { empty = false; begin = PNAME_LN ∷ []; follow = DOT ∷ CLOSE_BRACKET ∷ SEMICOLON ∷ COMMA ∷ []; level = 1 }
    ∷ record { empty = false; begin = PNAME_NS ∷ []; follow = DOT ∷ CLOSE_BRACKET ∷ SEMICOLON ∷ COMMA ∷ []; level = 1 }
    ∷ record { empty = false; begin = PNAME_NS ∷ PNAME_LN ∷ []; follow = DOT ∷ CLOSE_BRACKET ∷ SEMICOLON ∷ COMMA ∷ []; level = 2 }
    ∷ record { empty = false; begin = BLANK ∷ []; follow = DOT ∷ CLOSE_BRACKET ∷ SEMICOLON ∷ COMMA ∷ []; level = 1 }
    ∷ record { empty = false; begin = TRUE ∷ FALSE ∷ STRING ∷ INTEGER ∷ DECIMAL ∷ DOUBLE ∷ []; follow = DOT ∷ CLOSE_BRACKET ∷ SEMICOLON ∷ COMMA ∷ []; level = 3 }
    ∷ record { empty = false; begin = STRING ∷ []; follow = DOT ∷ CLOSE_BRACKET ∷ SEMICOLON ∷ COMMA ∷ CARETS ∷ LANGTAG ∷ []; level = 1 }
    ∷ record { empty = false; begin = LANGTAG ∷ []; follow = DOT ∷ CLOSE_BRACKET ∷ SEMICOLON ∷ COMMA ∷ []; level = 1 }
    ∷ record { empty = false; begin = CARETS ∷ []; follow = IRIREF ∷ PNAME_NS ∷ PNAME_LN ∷ []; level = 1 }
    ∷ record { empty = false; begin = IRIREF ∷ PNAME_NS ∷ PNAME_LN ∷ []; follow = DOT ∷ CLOSE_BRACKET ∷ SEMICOLON ∷ COMMA ∷ []; level = 2 }
    ∷ record { empty = false; begin = IRIREF ∷ []; follow = DOT ∷ CLOSE_BRACKET ∷ SEMICOLON ∷ COMMA ∷ []; level = 1 }
    ∷ record { empty = false; begin = PNAME_LN ∷ []; follow = DOT ∷ CLOSE_BRACKET ∷ SEMICOLON ∷ COMMA ∷ []; level = 1 }
    ∷ record { empty = false; begin = PNAME_NS ∷ []; follow = DOT ∷ CLOSE_BRACKET ∷ SEMICOLON ∷ COMMA ∷ []; level = 1 }
    ∷ record { empty = false; begin = PNAME_NS ∷ PNAME_LN ∷ []; follow = DOT ∷ CLOSE_BRACKET ∷ SEMICOLON ∷ COMMA ∷ []; level = 2 }
    ∷ record { empty = false; begin = CARETS ∷ []; follow = DOT ∷ CLOSE_BRACKET ∷ SEMICOLON ∷ COMMA ∷ []; level = 3 }
    ∷ record { empty = false; begin = CARETS ∷ LANGTAG ∷ []; follow = DOT ∷ CLOSE_BRACKET ∷ SEMICOLON ∷ COMMA ∷ []; level = 2 }
    ∷ record { empty = true; begin = CARETS ∷ LANGTAG ∷ []; follow = DOT ∷ CLOSE_BRACKET ∷ SEMICOLON ∷ COMMA ∷ []; level = 1 }
    ∷ record { empty = false; begin = STRING ∷ []; follow = DOT ∷ CLOSE_BRACKET ∷ SEMICOLON ∷ COMMA ∷ []; level = 2 }
    ∷ record { empty = false; begin = INTEGER ∷ []; follow = DOT ∷ CLOSE_BRACKET ∷ SEMICOLON ∷ COMMA ∷ []; level = 1 }
    ∷ record { empty = false; begin = DECIMAL ∷ []; follow = DOT ∷ CLOSE_BRACKET ∷ SEMICOLON ∷ COMMA ∷ []; level = 1 }
    ∷ record { empty = false; begin = DOUBLE ∷ []; follow = DOT ∷ CLOSE_BRACKET ∷ SEMICOLON ∷ COMMA ∷ []; level = 1 }
    ∷ record { empty = false; begin = TRUE ∷ []; follow = DOT ∷ CLOSE_BRACKET ∷ SEMICOLON ∷ COMMA ∷ []; level = 1 }
    ∷ record { empty = false; begin = FALSE ∷ []; follow = DOT ∷ CLOSE_BRACKET ∷ SEMICOLON ∷ COMMA ∷ []; level = 1 }
    ∷ record { empty = false; begin = TRUE ∷ FALSE ∷ []; follow = DOT ∷ CLOSE_BRACKET ∷ SEMICOLON ∷ COMMA ∷ []; level = 2 }
    ∷ record { empty = false; begin = TRUE ∷ FALSE ∷ DOUBLE ∷ []; follow = DOT ∷ CLOSE_BRACKET ∷ SEMICOLON ∷ COMMA ∷ []; level = 2 }
    ∷ record { empty = false; begin = TRUE ∷ FALSE ∷ DECIMAL ∷ DOUBLE ∷ []; follow = DOT ∷ CLOSE_BRACKET ∷ SEMICOLON ∷ COMMA ∷ []; level = 2 }
    ∷ record { empty = false; begin = TRUE ∷ FALSE ∷ INTEGER ∷ DECIMAL ∷ DOUBLE ∷ []; follow = DOT ∷ CLOSE_BRACKET ∷ SEMICOLON ∷ COMMA ∷ []; level = 2 }
    ∷ record { empty = false; begin = OPEN_BRACKET ∷ []; follow = CLOSE_BRACKET ∷ IS_A ∷ IRIREF ∷ PNAME_NS ∷ PNAME_LN ∷ []; level = 1 }
    ∷ record { empty = true; begin = IS_A ∷ IRIREF ∷ PNAME_NS ∷ PNAME_LN ∷ []; follow = DOT ∷ CLOSE_BRACKET ∷ []; level = 1 }
    ∷ record { empty = false; begin = CLOSE_BRACKET ∷ []; follow = DOT ∷ CLOSE_BRACKET ∷ SEMICOLON ∷ COMMA ∷ []; level = 1 }
    ∷ record { empty = false; begin = CLOSE_BRACKET ∷ IS_A ∷ IRIREF ∷ PNAME_NS ∷ PNAME_LN ∷ []; follow = DOT ∷ CLOSE_BRACKET ∷ SEMICOLON ∷ COMMA ∷ []; level = 2 }
    ∷ record { empty = false; begin = OPEN_BRACKET ∷ []; follow = DOT ∷ CLOSE_BRACKET ∷ SEMICOLON ∷ COMMA ∷ []; level = 3 }
    ∷ record { empty = false; begin = OPEN_BRACKET ∷ TRUE ∷ FALSE ∷ STRING ∷ INTEGER ∷ DECIMAL ∷ DOUBLE ∷ []; follow = DOT ∷ CLOSE_BRACKET ∷ SEMICOLON ∷ COMMA ∷ []; level = 4 }
    ∷ record { empty = false; begin = OPEN_BRACKET ∷ TRUE ∷ FALSE ∷ BLANK ∷ STRING ∷ INTEGER ∷ DECIMAL ∷ DOUBLE ∷ []; follow = DOT ∷ CLOSE_BRACKET ∷ SEMICOLON ∷ COMMA ∷ []; level = 2 }
    ∷ record { empty = false; begin = COMMA ∷ []; follow = OPEN_BRACKET ∷ TRUE ∷ FALSE ∷ IRIREF ∷ PNAME_NS ∷ PNAME_LN ∷ BLANK ∷ STRING ∷ INTEGER ∷ DECIMAL ∷ DOUBLE ∷ []; level = 1 }
    ∷ record { empty = false; begin = COMMA ∷ []; follow = DOT ∷ CLOSE_BRACKET ∷ SEMICOLON ∷ COMMA ∷ []; level = 4 }
    ∷ record { empty = true; begin = COMMA ∷ []; follow = DOT ∷ CLOSE_BRACKET ∷ SEMICOLON ∷ []; level = 1 }
    ∷ record { empty = false; begin = SEMICOLON ∷ []; follow = DOT ∷ CLOSE_BRACKET ∷ SEMICOLON ∷ IS_A ∷ IRIREF ∷ PNAME_NS ∷ PNAME_LN ∷ []; level = 1 }
    ∷ record { empty = false; begin = IS_A ∷ IRIREF ∷ PNAME_NS ∷ PNAME_LN ∷ []; follow = DOT ∷ CLOSE_BRACKET ∷ SEMICOLON ∷ []; level = 5 }
    ∷ record { empty = true; begin = IS_A ∷ IRIREF ∷ PNAME_NS ∷ PNAME_LN ∷ []; follow = DOT ∷ CLOSE_BRACKET ∷ SEMICOLON ∷ []; level = 1 }
    ∷ record { empty = false; begin = SEMICOLON ∷ []; follow = DOT ∷ CLOSE_BRACKET ∷ SEMICOLON ∷ []; level = 2 }
    ∷ record { empty = true; begin = SEMICOLON ∷ []; follow = DOT ∷ CLOSE_BRACKET ∷ []; level = 1 }
    ∷ record { empty = false; begin = OPEN_BRACKET ∷ TRUE ∷ FALSE ∷ IRIREF ∷ PNAME_NS ∷ PNAME_LN ∷ BLANK ∷ STRING ∷ INTEGER ∷ DECIMAL ∷ DOUBLE ∷ []; follow = DOT ∷ CLOSE_BRACKET ∷ []; level = 5 }
    ∷ record { empty = false; begin = IRIREF ∷ PNAME_NS ∷ PNAME_LN ∷ BLANK ∷ []; follow = DOT ∷ []; level = 7 }
    ∷ record { empty = false; begin = OPEN_BRACKET ∷ []; follow = CLOSE_BRACKET ∷ IS_A ∷ IRIREF ∷ PNAME_NS ∷ PNAME_LN ∷ []; level = 1 }
    ∷ record { empty = false; begin = CLOSE_BRACKET ∷ []; follow = DOT ∷ IS_A ∷ IRIREF ∷ PNAME_NS ∷ PNAME_LN ∷ []; level = 1 }
    ∷ record { empty = false; begin = CLOSE_BRACKET ∷ []; follow = DOT ∷ []; level = 7 }
    ∷ record { empty = false; begin = CLOSE_BRACKET ∷ []; follow = DOT ∷ []; level = 2 }
    ∷ record { empty = false; begin = IS_A ∷ IRIREF ∷ PNAME_NS ∷ PNAME_LN ∷ []; follow = DOT ∷ []; level = 7 }
    ∷ record { empty = false; begin = CLOSE_BRACKET ∷ IS_A ∷ IRIREF ∷ PNAME_NS ∷ PNAME_LN ∷ []; follow = DOT ∷ []; level = 8 }
    ∷ record { empty = false; begin = OPEN_BRACKET ∷ []; follow = DOT ∷ []; level = 9 }
    ∷ record { empty = false; begin = OPEN_BRACKET ∷ IRIREF ∷ PNAME_NS ∷ PNAME_LN ∷ BLANK ∷ []; follow = AT_PREFIX ∷ AT_BASE ∷ PREFIX ∷ BASE ∷ OPEN_BRACKET ∷ IRIREF ∷ PNAME_NS ∷ PNAME_LN ∷ BLANK ∷ []; level = 9 }
    ∷ record { empty = false; begin = BASE ∷ OPEN_BRACKET ∷ IRIREF ∷ PNAME_NS ∷ PNAME_LN ∷ BLANK ∷ []; follow = AT_PREFIX ∷ AT_BASE ∷ PREFIX ∷ BASE ∷ OPEN_BRACKET ∷ IRIREF ∷ PNAME_NS ∷ PNAME_LN ∷ BLANK ∷ []; level = 3 }
    ∷ record { empty = false; begin = PREFIX ∷ BASE ∷ OPEN_BRACKET ∷ IRIREF ∷ PNAME_NS ∷ PNAME_LN ∷ BLANK ∷ []; follow = AT_PREFIX ∷ AT_BASE ∷ PREFIX ∷ BASE ∷ OPEN_BRACKET ∷ IRIREF ∷ PNAME_NS ∷ PNAME_LN ∷ BLANK ∷ []; level = 4 }
    ∷ record { empty = false; begin = AT_BASE ∷ PREFIX ∷ BASE ∷ OPEN_BRACKET ∷ IRIREF ∷ PNAME_NS ∷ PNAME_LN ∷ BLANK ∷ []; follow = AT_PREFIX ∷ AT_BASE ∷ PREFIX ∷ BASE ∷ OPEN_BRACKET ∷ IRIREF ∷ PNAME_NS ∷ PNAME_LN ∷ BLANK ∷ []; level = 4 }
    ∷ record { empty = false; begin = AT_PREFIX ∷ AT_BASE ∷ PREFIX ∷ BASE ∷ OPEN_BRACKET ∷ IRIREF ∷ PNAME_NS ∷ PNAME_LN ∷ BLANK ∷ []; follow = AT_PREFIX ∷ AT_BASE ∷ PREFIX ∷ BASE ∷ OPEN_BRACKET ∷ IRIREF ∷ PNAME_NS ∷ PNAME_LN ∷ BLANK ∷ []; level = 5 }
    ∷ []

pub turtle_form : IsWellFormed TURTLE KIND_COUNT
turtle_form = record { grammar = is_grammar TURTLE claims (lit< tt) refl; has_kinds = has_kinds KIND_COUNT TURTLE refl; small = lit< tt }

pub turtle_ll1 : IsLL1 TURTLE
turtle_ll1 = passes_ll1 TURTLE claims (lit< tt) refl refl refl
