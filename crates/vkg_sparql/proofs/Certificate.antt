-- That the grammar of queries is LL(1), by what begins and follows each symbol.
use Rattle.std.proofs.Common.{◌∷◌, List, [], true, false, refl, lit<}
use Rattle.vkg_grammar.specs.Certified.{Claim}
use Rattle.vkg_grammar.specs.Form.{IsWellFormed}
use Rattle.vkg_grammar.specs.Grammar.{IsLL1}
use Rattle.vkg_grammar.proofs.Certifying.{passes_ll1, is_grammar, has_kinds}
use Rattle.vkg_tokens.specs.declared.sparql_kinds.TheConstants.{OPEN_BRACE, CLOSE_BRACE, OPEN, CLOSE, OPEN_BRACKET, CLOSE_BRACKET, DOT, SEMICOLON, COMMA, EQUAL, NOT_EQUAL, LESS, GREATER, LESS_EQUAL, GREATER_EQUAL, NOT, AND, OR, STAR, CARETS, IRIREF, PNAME_NS, PNAME_LN, BLANK, VAR, STRING, LANGTAG, INTEGER, DECIMAL, IS_A, TRUE, FALSE, BASE, PREFIX, SELECT, DISTINCT, REDUCED, WHERE, OPTIONAL, GRAPH, FILTER, UNION, BOUND, SAMETERM, ISIRI, ISURI, ISBLANK, ISLITERAL, ISNUMERIC, STR, LANG, DATATYPE, STRLEN, STRSTARTS, STRENDS, CONTAINS, ORDER, BY, LIMIT, OFFSET, ASC, DESC, MINUS, BIND, AS, VALUES, UNDEF, ASK, CONSTRUCT, KIND_COUNT}
use Rattle.vkg_sparql.specs.declared.grammar_table.TheConstants.{SPARQL}

abbrev claims : List Claim
claims =
    record { empty = false; begin = BASE ∷ PREFIX ∷ SELECT ∷ ASK ∷ CONSTRUCT ∷ []; follow = []; level = 9 }
    ∷ record { empty = false; begin = BASE ∷ []; follow = IRIREF ∷ []; level = 1 }
    ∷ record { empty = false; begin = IRIREF ∷ []; follow = OPEN_BRACE ∷ CLOSE_BRACE ∷ CLOSE ∷ OPEN_BRACKET ∷ CLOSE_BRACKET ∷ DOT ∷ SEMICOLON ∷ COMMA ∷ EQUAL ∷ NOT_EQUAL ∷ LESS ∷ GREATER ∷ LESS_EQUAL ∷ GREATER_EQUAL ∷ AND ∷ OR ∷ IRIREF ∷ PNAME_NS ∷ PNAME_LN ∷ BLANK ∷ VAR ∷ STRING ∷ INTEGER ∷ DECIMAL ∷ IS_A ∷ TRUE ∷ FALSE ∷ BASE ∷ PREFIX ∷ SELECT ∷ OPTIONAL ∷ GRAPH ∷ FILTER ∷ MINUS ∷ BIND ∷ AS ∷ VALUES ∷ UNDEF ∷ ASK ∷ CONSTRUCT ∷ []; level = 1 }
    ∷ record { empty = false; begin = BASE ∷ []; follow = BASE ∷ PREFIX ∷ SELECT ∷ ASK ∷ CONSTRUCT ∷ []; level = 2 }
    ∷ record { empty = false; begin = PREFIX ∷ []; follow = PNAME_NS ∷ []; level = 1 }
    ∷ record { empty = false; begin = PNAME_NS ∷ []; follow = OPEN_BRACE ∷ CLOSE_BRACE ∷ CLOSE ∷ OPEN_BRACKET ∷ CLOSE_BRACKET ∷ DOT ∷ SEMICOLON ∷ COMMA ∷ EQUAL ∷ NOT_EQUAL ∷ LESS ∷ GREATER ∷ LESS_EQUAL ∷ GREATER_EQUAL ∷ AND ∷ OR ∷ IRIREF ∷ PNAME_NS ∷ PNAME_LN ∷ BLANK ∷ VAR ∷ STRING ∷ INTEGER ∷ DECIMAL ∷ IS_A ∷ TRUE ∷ FALSE ∷ OPTIONAL ∷ GRAPH ∷ FILTER ∷ MINUS ∷ BIND ∷ AS ∷ VALUES ∷ UNDEF ∷ []; level = 1 }
    ∷ record { empty = false; begin = PNAME_NS ∷ []; follow = BASE ∷ PREFIX ∷ SELECT ∷ ASK ∷ CONSTRUCT ∷ []; level = 2 }
    ∷ record { empty = false; begin = PREFIX ∷ []; follow = BASE ∷ PREFIX ∷ SELECT ∷ ASK ∷ CONSTRUCT ∷ []; level = 3 }
    ∷ record { empty = false; begin = BASE ∷ PREFIX ∷ []; follow = BASE ∷ PREFIX ∷ SELECT ∷ ASK ∷ CONSTRUCT ∷ []; level = 3 }
    ∷ record { empty = true; begin = BASE ∷ PREFIX ∷ []; follow = SELECT ∷ ASK ∷ CONSTRUCT ∷ []; level = 1 }
    ∷ record { empty = false; begin = SELECT ∷ ASK ∷ CONSTRUCT ∷ []; follow = []; level = 8 }
    ∷ record { empty = false; begin = SELECT ∷ []; follow = STAR ∷ VAR ∷ DISTINCT ∷ REDUCED ∷ []; level = 1 }
    ∷ record { empty = false; begin = DISTINCT ∷ []; follow = STAR ∷ VAR ∷ []; level = 1 }
    ∷ record { empty = false; begin = REDUCED ∷ []; follow = STAR ∷ VAR ∷ []; level = 1 }
    ∷ record { empty = false; begin = DISTINCT ∷ REDUCED ∷ []; follow = STAR ∷ VAR ∷ []; level = 2 }
    ∷ record { empty = true; begin = DISTINCT ∷ REDUCED ∷ []; follow = STAR ∷ VAR ∷ []; level = 1 }
    ∷ record { empty = false; begin = STAR ∷ VAR ∷ []; follow = OPEN_BRACE ∷ WHERE ∷ []; level = 2 }
    ∷ record { empty = false; begin = VAR ∷ []; follow = OPEN_BRACE ∷ CLOSE_BRACE ∷ OPEN ∷ CLOSE ∷ OPEN_BRACKET ∷ CLOSE_BRACKET ∷ DOT ∷ SEMICOLON ∷ COMMA ∷ EQUAL ∷ NOT_EQUAL ∷ LESS ∷ GREATER ∷ LESS_EQUAL ∷ GREATER_EQUAL ∷ AND ∷ OR ∷ IRIREF ∷ PNAME_NS ∷ PNAME_LN ∷ BLANK ∷ VAR ∷ STRING ∷ INTEGER ∷ DECIMAL ∷ IS_A ∷ TRUE ∷ FALSE ∷ WHERE ∷ OPTIONAL ∷ GRAPH ∷ FILTER ∷ BOUND ∷ SAMETERM ∷ ISIRI ∷ ISURI ∷ ISBLANK ∷ ISLITERAL ∷ ISNUMERIC ∷ STR ∷ LANG ∷ DATATYPE ∷ STRLEN ∷ STRSTARTS ∷ STRENDS ∷ CONTAINS ∷ MINUS ∷ BIND ∷ AS ∷ VALUES ∷ LIMIT ∷ OFFSET ∷ ASC ∷ DESC ∷ []; level = 1 }
    ∷ record { empty = true; begin = VAR ∷ []; follow = OPEN_BRACE ∷ CLOSE ∷ WHERE ∷ []; level = 1 }
    ∷ record { empty = false; begin = VAR ∷ []; follow = OPEN_BRACE ∷ WHERE ∷ []; level = 2 }
    ∷ record { empty = false; begin = STAR ∷ []; follow = OPEN_BRACE ∷ WHERE ∷ []; level = 1 }
    ∷ record { empty = false; begin = OPEN_BRACE ∷ WHERE ∷ []; follow = []; level = 6 }
    ∷ record { empty = false; begin = WHERE ∷ []; follow = OPEN_BRACE ∷ []; level = 1 }
    ∷ record { empty = true; begin = WHERE ∷ []; follow = OPEN_BRACE ∷ []; level = 1 }
    ∷ record { empty = false; begin = OPEN_BRACE ∷ []; follow = OPEN_BRACE ∷ CLOSE_BRACE ∷ OPEN_BRACKET ∷ DOT ∷ IRIREF ∷ PNAME_NS ∷ PNAME_LN ∷ BLANK ∷ VAR ∷ STRING ∷ INTEGER ∷ DECIMAL ∷ TRUE ∷ FALSE ∷ OPTIONAL ∷ GRAPH ∷ FILTER ∷ UNION ∷ MINUS ∷ BIND ∷ VALUES ∷ ORDER ∷ LIMIT ∷ OFFSET ∷ []; level = 4 }
    ∷ record { empty = false; begin = OPEN_BRACE ∷ []; follow = OPEN_BRACE ∷ CLOSE_BRACE ∷ OPEN ∷ OPEN_BRACKET ∷ IRIREF ∷ PNAME_NS ∷ PNAME_LN ∷ BLANK ∷ VAR ∷ STRING ∷ INTEGER ∷ DECIMAL ∷ TRUE ∷ FALSE ∷ OPTIONAL ∷ GRAPH ∷ FILTER ∷ MINUS ∷ BIND ∷ VALUES ∷ UNDEF ∷ []; level = 1 }
    ∷ record { empty = false; begin = OPEN_BRACKET ∷ IRIREF ∷ PNAME_NS ∷ PNAME_LN ∷ BLANK ∷ VAR ∷ STRING ∷ INTEGER ∷ DECIMAL ∷ TRUE ∷ FALSE ∷ []; follow = OPEN_BRACE ∷ CLOSE_BRACE ∷ OPTIONAL ∷ GRAPH ∷ FILTER ∷ MINUS ∷ BIND ∷ VALUES ∷ []; level = 9 }
    ∷ record { empty = false; begin = OPEN_BRACKET ∷ IRIREF ∷ PNAME_NS ∷ PNAME_LN ∷ BLANK ∷ VAR ∷ STRING ∷ INTEGER ∷ DECIMAL ∷ TRUE ∷ FALSE ∷ []; follow = OPEN_BRACE ∷ CLOSE_BRACE ∷ DOT ∷ OPTIONAL ∷ GRAPH ∷ FILTER ∷ MINUS ∷ BIND ∷ VALUES ∷ []; level = 8 }
    ∷ record { empty = false; begin = IRIREF ∷ PNAME_NS ∷ PNAME_LN ∷ BLANK ∷ VAR ∷ STRING ∷ INTEGER ∷ DECIMAL ∷ TRUE ∷ FALSE ∷ []; follow = OPEN_BRACE ∷ CLOSE_BRACE ∷ CLOSE_BRACKET ∷ DOT ∷ SEMICOLON ∷ COMMA ∷ IRIREF ∷ PNAME_NS ∷ PNAME_LN ∷ VAR ∷ IS_A ∷ OPTIONAL ∷ GRAPH ∷ FILTER ∷ MINUS ∷ BIND ∷ VALUES ∷ []; level = 2 }
    ∷ record { empty = false; begin = IRIREF ∷ PNAME_NS ∷ PNAME_LN ∷ []; follow = OPEN_BRACE ∷ CLOSE_BRACE ∷ CLOSE ∷ OPEN_BRACKET ∷ CLOSE_BRACKET ∷ DOT ∷ SEMICOLON ∷ COMMA ∷ EQUAL ∷ NOT_EQUAL ∷ LESS ∷ GREATER ∷ LESS_EQUAL ∷ GREATER_EQUAL ∷ AND ∷ OR ∷ IRIREF ∷ PNAME_NS ∷ PNAME_LN ∷ BLANK ∷ VAR ∷ STRING ∷ INTEGER ∷ DECIMAL ∷ IS_A ∷ TRUE ∷ FALSE ∷ OPTIONAL ∷ GRAPH ∷ FILTER ∷ MINUS ∷ BIND ∷ AS ∷ VALUES ∷ UNDEF ∷ []; level = 2 }
    ∷ record { empty = false; begin = PNAME_LN ∷ []; follow = OPEN_BRACE ∷ CLOSE_BRACE ∷ CLOSE ∷ OPEN_BRACKET ∷ CLOSE_BRACKET ∷ DOT ∷ SEMICOLON ∷ COMMA ∷ EQUAL ∷ NOT_EQUAL ∷ LESS ∷ GREATER ∷ LESS_EQUAL ∷ GREATER_EQUAL ∷ AND ∷ OR ∷ IRIREF ∷ PNAME_NS ∷ PNAME_LN ∷ BLANK ∷ VAR ∷ STRING ∷ INTEGER ∷ DECIMAL ∷ IS_A ∷ TRUE ∷ FALSE ∷ OPTIONAL ∷ GRAPH ∷ FILTER ∷ MINUS ∷ BIND ∷ AS ∷ VALUES ∷ UNDEF ∷ []; level = 1 }
    ∷ record { empty = false; begin = PNAME_NS ∷ PNAME_LN ∷ []; follow = OPEN_BRACE ∷ CLOSE_BRACE ∷ CLOSE ∷ OPEN_BRACKET ∷ CLOSE_BRACKET ∷ DOT ∷ SEMICOLON ∷ COMMA ∷ EQUAL ∷ NOT_EQUAL ∷ LESS ∷ GREATER ∷ LESS_EQUAL ∷ GREATER_EQUAL ∷ AND ∷ OR ∷ IRIREF ∷ PNAME_NS ∷ PNAME_LN ∷ BLANK ∷ VAR ∷ STRING ∷ INTEGER ∷ DECIMAL ∷ IS_A ∷ TRUE ∷ FALSE ∷ OPTIONAL ∷ GRAPH ∷ FILTER ∷ MINUS ∷ BIND ∷ AS ∷ VALUES ∷ UNDEF ∷ []; level = 2 }
    ∷ record { empty = false; begin = BLANK ∷ []; follow = OPEN_BRACE ∷ CLOSE_BRACE ∷ CLOSE_BRACKET ∷ DOT ∷ SEMICOLON ∷ COMMA ∷ IRIREF ∷ PNAME_NS ∷ PNAME_LN ∷ VAR ∷ IS_A ∷ OPTIONAL ∷ GRAPH ∷ FILTER ∷ MINUS ∷ BIND ∷ VALUES ∷ []; level = 1 }
    ∷ record { empty = false; begin = STRING ∷ INTEGER ∷ DECIMAL ∷ TRUE ∷ FALSE ∷ []; follow = OPEN_BRACE ∷ CLOSE_BRACE ∷ CLOSE ∷ CLOSE_BRACKET ∷ DOT ∷ SEMICOLON ∷ COMMA ∷ EQUAL ∷ NOT_EQUAL ∷ LESS ∷ GREATER ∷ LESS_EQUAL ∷ GREATER_EQUAL ∷ AND ∷ OR ∷ IRIREF ∷ PNAME_NS ∷ PNAME_LN ∷ VAR ∷ STRING ∷ INTEGER ∷ DECIMAL ∷ IS_A ∷ TRUE ∷ FALSE ∷ OPTIONAL ∷ GRAPH ∷ FILTER ∷ MINUS ∷ BIND ∷ AS ∷ VALUES ∷ UNDEF ∷ []; level = 3 }
    ∷ record { empty = false; begin = STRING ∷ []; follow = OPEN_BRACE ∷ CLOSE_BRACE ∷ CLOSE ∷ CLOSE_BRACKET ∷ DOT ∷ SEMICOLON ∷ COMMA ∷ EQUAL ∷ NOT_EQUAL ∷ LESS ∷ GREATER ∷ LESS_EQUAL ∷ GREATER_EQUAL ∷ AND ∷ OR ∷ CARETS ∷ IRIREF ∷ PNAME_NS ∷ PNAME_LN ∷ VAR ∷ STRING ∷ LANGTAG ∷ INTEGER ∷ DECIMAL ∷ IS_A ∷ TRUE ∷ FALSE ∷ OPTIONAL ∷ GRAPH ∷ FILTER ∷ MINUS ∷ BIND ∷ AS ∷ VALUES ∷ UNDEF ∷ []; level = 1 }
    ∷ record { empty = false; begin = LANGTAG ∷ []; follow = OPEN_BRACE ∷ CLOSE_BRACE ∷ CLOSE ∷ CLOSE_BRACKET ∷ DOT ∷ SEMICOLON ∷ COMMA ∷ EQUAL ∷ NOT_EQUAL ∷ LESS ∷ GREATER ∷ LESS_EQUAL ∷ GREATER_EQUAL ∷ AND ∷ OR ∷ IRIREF ∷ PNAME_NS ∷ PNAME_LN ∷ VAR ∷ STRING ∷ INTEGER ∷ DECIMAL ∷ IS_A ∷ TRUE ∷ FALSE ∷ OPTIONAL ∷ GRAPH ∷ FILTER ∷ MINUS ∷ BIND ∷ AS ∷ VALUES ∷ UNDEF ∷ []; level = 1 }
    ∷ record { empty = false; begin = CARETS ∷ []; follow = IRIREF ∷ PNAME_NS ∷ PNAME_LN ∷ []; level = 1 }
    ∷ record { empty = false; begin = CARETS ∷ []; follow = OPEN_BRACE ∷ CLOSE_BRACE ∷ CLOSE ∷ CLOSE_BRACKET ∷ DOT ∷ SEMICOLON ∷ COMMA ∷ EQUAL ∷ NOT_EQUAL ∷ LESS ∷ GREATER ∷ LESS_EQUAL ∷ GREATER_EQUAL ∷ AND ∷ OR ∷ IRIREF ∷ PNAME_NS ∷ PNAME_LN ∷ VAR ∷ STRING ∷ INTEGER ∷ DECIMAL ∷ IS_A ∷ TRUE ∷ FALSE ∷ OPTIONAL ∷ GRAPH ∷ FILTER ∷ MINUS ∷ BIND ∷ AS ∷ VALUES ∷ UNDEF ∷ []; level = 3 }
    ∷ record { empty = false; begin = CARETS ∷ LANGTAG ∷ []; follow = OPEN_BRACE ∷ CLOSE_BRACE ∷ CLOSE ∷ CLOSE_BRACKET ∷ DOT ∷ SEMICOLON ∷ COMMA ∷ EQUAL ∷ NOT_EQUAL ∷ LESS ∷ GREATER ∷ LESS_EQUAL ∷ GREATER_EQUAL ∷ AND ∷ OR ∷ IRIREF ∷ PNAME_NS ∷ PNAME_LN ∷ VAR ∷ STRING ∷ INTEGER ∷ DECIMAL ∷ IS_A ∷ TRUE ∷ FALSE ∷ OPTIONAL ∷ GRAPH ∷ FILTER ∷ MINUS ∷ BIND ∷ AS ∷ VALUES ∷ UNDEF ∷ []; level = 2 }
    ∷ record { empty = true; begin = CARETS ∷ LANGTAG ∷ []; follow = OPEN_BRACE ∷ CLOSE_BRACE ∷ CLOSE ∷ CLOSE_BRACKET ∷ DOT ∷ SEMICOLON ∷ COMMA ∷ EQUAL ∷ NOT_EQUAL ∷ LESS ∷ GREATER ∷ LESS_EQUAL ∷ GREATER_EQUAL ∷ AND ∷ OR ∷ IRIREF ∷ PNAME_NS ∷ PNAME_LN ∷ VAR ∷ STRING ∷ INTEGER ∷ DECIMAL ∷ IS_A ∷ TRUE ∷ FALSE ∷ OPTIONAL ∷ GRAPH ∷ FILTER ∷ MINUS ∷ BIND ∷ AS ∷ VALUES ∷ UNDEF ∷ []; level = 1 }
    ∷ record { empty = false; begin = STRING ∷ []; follow = OPEN_BRACE ∷ CLOSE_BRACE ∷ CLOSE ∷ CLOSE_BRACKET ∷ DOT ∷ SEMICOLON ∷ COMMA ∷ EQUAL ∷ NOT_EQUAL ∷ LESS ∷ GREATER ∷ LESS_EQUAL ∷ GREATER_EQUAL ∷ AND ∷ OR ∷ IRIREF ∷ PNAME_NS ∷ PNAME_LN ∷ VAR ∷ STRING ∷ INTEGER ∷ DECIMAL ∷ IS_A ∷ TRUE ∷ FALSE ∷ OPTIONAL ∷ GRAPH ∷ FILTER ∷ MINUS ∷ BIND ∷ AS ∷ VALUES ∷ UNDEF ∷ []; level = 2 }
    ∷ record { empty = false; begin = INTEGER ∷ []; follow = OPEN_BRACE ∷ CLOSE_BRACE ∷ CLOSE ∷ CLOSE_BRACKET ∷ DOT ∷ SEMICOLON ∷ COMMA ∷ EQUAL ∷ NOT_EQUAL ∷ LESS ∷ GREATER ∷ LESS_EQUAL ∷ GREATER_EQUAL ∷ AND ∷ OR ∷ IRIREF ∷ PNAME_NS ∷ PNAME_LN ∷ VAR ∷ STRING ∷ INTEGER ∷ DECIMAL ∷ IS_A ∷ TRUE ∷ FALSE ∷ OPTIONAL ∷ GRAPH ∷ FILTER ∷ MINUS ∷ BIND ∷ AS ∷ VALUES ∷ UNDEF ∷ LIMIT ∷ OFFSET ∷ []; level = 1 }
    ∷ record { empty = false; begin = DECIMAL ∷ []; follow = OPEN_BRACE ∷ CLOSE_BRACE ∷ CLOSE ∷ CLOSE_BRACKET ∷ DOT ∷ SEMICOLON ∷ COMMA ∷ EQUAL ∷ NOT_EQUAL ∷ LESS ∷ GREATER ∷ LESS_EQUAL ∷ GREATER_EQUAL ∷ AND ∷ OR ∷ IRIREF ∷ PNAME_NS ∷ PNAME_LN ∷ VAR ∷ STRING ∷ INTEGER ∷ DECIMAL ∷ IS_A ∷ TRUE ∷ FALSE ∷ OPTIONAL ∷ GRAPH ∷ FILTER ∷ MINUS ∷ BIND ∷ AS ∷ VALUES ∷ UNDEF ∷ []; level = 1 }
    ∷ record { empty = false; begin = TRUE ∷ []; follow = OPEN_BRACE ∷ CLOSE_BRACE ∷ CLOSE ∷ CLOSE_BRACKET ∷ DOT ∷ SEMICOLON ∷ COMMA ∷ EQUAL ∷ NOT_EQUAL ∷ LESS ∷ GREATER ∷ LESS_EQUAL ∷ GREATER_EQUAL ∷ AND ∷ OR ∷ IRIREF ∷ PNAME_NS ∷ PNAME_LN ∷ VAR ∷ STRING ∷ INTEGER ∷ DECIMAL ∷ IS_A ∷ TRUE ∷ FALSE ∷ OPTIONAL ∷ GRAPH ∷ FILTER ∷ MINUS ∷ BIND ∷ AS ∷ VALUES ∷ UNDEF ∷ []; level = 1 }
    ∷ record { empty = false; begin = FALSE ∷ []; follow = OPEN_BRACE ∷ CLOSE_BRACE ∷ CLOSE ∷ CLOSE_BRACKET ∷ DOT ∷ SEMICOLON ∷ COMMA ∷ EQUAL ∷ NOT_EQUAL ∷ LESS ∷ GREATER ∷ LESS_EQUAL ∷ GREATER_EQUAL ∷ AND ∷ OR ∷ IRIREF ∷ PNAME_NS ∷ PNAME_LN ∷ VAR ∷ STRING ∷ INTEGER ∷ DECIMAL ∷ IS_A ∷ TRUE ∷ FALSE ∷ OPTIONAL ∷ GRAPH ∷ FILTER ∷ MINUS ∷ BIND ∷ AS ∷ VALUES ∷ UNDEF ∷ []; level = 1 }
    ∷ record { empty = false; begin = TRUE ∷ FALSE ∷ []; follow = OPEN_BRACE ∷ CLOSE_BRACE ∷ CLOSE ∷ CLOSE_BRACKET ∷ DOT ∷ SEMICOLON ∷ COMMA ∷ EQUAL ∷ NOT_EQUAL ∷ LESS ∷ GREATER ∷ LESS_EQUAL ∷ GREATER_EQUAL ∷ AND ∷ OR ∷ IRIREF ∷ PNAME_NS ∷ PNAME_LN ∷ VAR ∷ STRING ∷ INTEGER ∷ DECIMAL ∷ IS_A ∷ TRUE ∷ FALSE ∷ OPTIONAL ∷ GRAPH ∷ FILTER ∷ MINUS ∷ BIND ∷ AS ∷ VALUES ∷ UNDEF ∷ []; level = 2 }
    ∷ record { empty = false; begin = DECIMAL ∷ TRUE ∷ FALSE ∷ []; follow = OPEN_BRACE ∷ CLOSE_BRACE ∷ CLOSE ∷ CLOSE_BRACKET ∷ DOT ∷ SEMICOLON ∷ COMMA ∷ EQUAL ∷ NOT_EQUAL ∷ LESS ∷ GREATER ∷ LESS_EQUAL ∷ GREATER_EQUAL ∷ AND ∷ OR ∷ IRIREF ∷ PNAME_NS ∷ PNAME_LN ∷ VAR ∷ STRING ∷ INTEGER ∷ DECIMAL ∷ IS_A ∷ TRUE ∷ FALSE ∷ OPTIONAL ∷ GRAPH ∷ FILTER ∷ MINUS ∷ BIND ∷ AS ∷ VALUES ∷ UNDEF ∷ []; level = 2 }
    ∷ record { empty = false; begin = INTEGER ∷ DECIMAL ∷ TRUE ∷ FALSE ∷ []; follow = OPEN_BRACE ∷ CLOSE_BRACE ∷ CLOSE ∷ CLOSE_BRACKET ∷ DOT ∷ SEMICOLON ∷ COMMA ∷ EQUAL ∷ NOT_EQUAL ∷ LESS ∷ GREATER ∷ LESS_EQUAL ∷ GREATER_EQUAL ∷ AND ∷ OR ∷ IRIREF ∷ PNAME_NS ∷ PNAME_LN ∷ VAR ∷ STRING ∷ INTEGER ∷ DECIMAL ∷ IS_A ∷ TRUE ∷ FALSE ∷ OPTIONAL ∷ GRAPH ∷ FILTER ∷ MINUS ∷ BIND ∷ AS ∷ VALUES ∷ UNDEF ∷ []; level = 2 }
    ∷ record { empty = false; begin = BLANK ∷ STRING ∷ INTEGER ∷ DECIMAL ∷ TRUE ∷ FALSE ∷ []; follow = OPEN_BRACE ∷ CLOSE_BRACE ∷ CLOSE_BRACKET ∷ DOT ∷ SEMICOLON ∷ COMMA ∷ IRIREF ∷ PNAME_NS ∷ PNAME_LN ∷ VAR ∷ IS_A ∷ OPTIONAL ∷ GRAPH ∷ FILTER ∷ MINUS ∷ BIND ∷ VALUES ∷ []; level = 2 }
    ∷ record { empty = false; begin = IRIREF ∷ PNAME_NS ∷ PNAME_LN ∷ BLANK ∷ STRING ∷ INTEGER ∷ DECIMAL ∷ TRUE ∷ FALSE ∷ []; follow = OPEN_BRACE ∷ CLOSE_BRACE ∷ CLOSE_BRACKET ∷ DOT ∷ SEMICOLON ∷ COMMA ∷ IRIREF ∷ PNAME_NS ∷ PNAME_LN ∷ VAR ∷ IS_A ∷ OPTIONAL ∷ GRAPH ∷ FILTER ∷ MINUS ∷ BIND ∷ VALUES ∷ []; level = 3 }
    ∷ record { empty = false; begin = IRIREF ∷ PNAME_NS ∷ PNAME_LN ∷ VAR ∷ IS_A ∷ []; follow = OPEN_BRACE ∷ CLOSE_BRACE ∷ CLOSE_BRACKET ∷ DOT ∷ OPTIONAL ∷ GRAPH ∷ FILTER ∷ MINUS ∷ BIND ∷ VALUES ∷ []; level = 6 }
    ∷ record { empty = false; begin = IRIREF ∷ PNAME_NS ∷ PNAME_LN ∷ VAR ∷ IS_A ∷ []; follow = OPEN_BRACKET ∷ IRIREF ∷ PNAME_NS ∷ PNAME_LN ∷ BLANK ∷ VAR ∷ STRING ∷ INTEGER ∷ DECIMAL ∷ TRUE ∷ FALSE ∷ []; level = 2 }
    ∷ record { empty = false; begin = IS_A ∷ []; follow = OPEN_BRACKET ∷ IRIREF ∷ PNAME_NS ∷ PNAME_LN ∷ BLANK ∷ VAR ∷ STRING ∷ INTEGER ∷ DECIMAL ∷ TRUE ∷ FALSE ∷ []; level = 1 }
    ∷ record { empty = false; begin = IRIREF ∷ PNAME_NS ∷ PNAME_LN ∷ IS_A ∷ []; follow = OPEN_BRACKET ∷ IRIREF ∷ PNAME_NS ∷ PNAME_LN ∷ BLANK ∷ VAR ∷ STRING ∷ INTEGER ∷ DECIMAL ∷ TRUE ∷ FALSE ∷ []; level = 2 }
    ∷ record { empty = false; begin = OPEN_BRACKET ∷ IRIREF ∷ PNAME_NS ∷ PNAME_LN ∷ BLANK ∷ VAR ∷ STRING ∷ INTEGER ∷ DECIMAL ∷ TRUE ∷ FALSE ∷ []; follow = OPEN_BRACE ∷ CLOSE_BRACE ∷ CLOSE_BRACKET ∷ DOT ∷ SEMICOLON ∷ OPTIONAL ∷ GRAPH ∷ FILTER ∷ MINUS ∷ BIND ∷ VALUES ∷ []; level = 4 }
    ∷ record { empty = false; begin = OPEN_BRACKET ∷ IRIREF ∷ PNAME_NS ∷ PNAME_LN ∷ BLANK ∷ VAR ∷ STRING ∷ INTEGER ∷ DECIMAL ∷ TRUE ∷ FALSE ∷ []; follow = OPEN_BRACE ∷ CLOSE_BRACE ∷ CLOSE_BRACKET ∷ DOT ∷ SEMICOLON ∷ COMMA ∷ OPTIONAL ∷ GRAPH ∷ FILTER ∷ MINUS ∷ BIND ∷ VALUES ∷ []; level = 3 }
    ∷ record { empty = false; begin = OPEN_BRACKET ∷ []; follow = CLOSE_BRACKET ∷ IRIREF ∷ PNAME_NS ∷ PNAME_LN ∷ VAR ∷ IS_A ∷ []; level = 1 }
    ∷ record { empty = true; begin = IRIREF ∷ PNAME_NS ∷ PNAME_LN ∷ VAR ∷ IS_A ∷ []; follow = OPEN_BRACE ∷ CLOSE_BRACE ∷ CLOSE_BRACKET ∷ DOT ∷ OPTIONAL ∷ GRAPH ∷ FILTER ∷ MINUS ∷ BIND ∷ VALUES ∷ []; level = 1 }
    ∷ record { empty = false; begin = CLOSE_BRACKET ∷ []; follow = OPEN_BRACE ∷ CLOSE_BRACE ∷ CLOSE_BRACKET ∷ DOT ∷ SEMICOLON ∷ COMMA ∷ IRIREF ∷ PNAME_NS ∷ PNAME_LN ∷ VAR ∷ IS_A ∷ OPTIONAL ∷ GRAPH ∷ FILTER ∷ MINUS ∷ BIND ∷ VALUES ∷ []; level = 1 }
    ∷ record { empty = false; begin = CLOSE_BRACKET ∷ IRIREF ∷ PNAME_NS ∷ PNAME_LN ∷ VAR ∷ IS_A ∷ []; follow = OPEN_BRACE ∷ CLOSE_BRACE ∷ CLOSE_BRACKET ∷ DOT ∷ SEMICOLON ∷ COMMA ∷ OPTIONAL ∷ GRAPH ∷ FILTER ∷ MINUS ∷ BIND ∷ VALUES ∷ []; level = 2 }
    ∷ record { empty = false; begin = OPEN_BRACKET ∷ []; follow = OPEN_BRACE ∷ CLOSE_BRACE ∷ CLOSE_BRACKET ∷ DOT ∷ SEMICOLON ∷ COMMA ∷ OPTIONAL ∷ GRAPH ∷ FILTER ∷ MINUS ∷ BIND ∷ VALUES ∷ []; level = 3 }
    ∷ record { empty = false; begin = COMMA ∷ []; follow = OPEN ∷ OPEN_BRACKET ∷ NOT ∷ IRIREF ∷ PNAME_NS ∷ PNAME_LN ∷ BLANK ∷ VAR ∷ STRING ∷ INTEGER ∷ DECIMAL ∷ TRUE ∷ FALSE ∷ BOUND ∷ SAMETERM ∷ ISIRI ∷ ISURI ∷ ISBLANK ∷ ISLITERAL ∷ ISNUMERIC ∷ STR ∷ LANG ∷ DATATYPE ∷ STRLEN ∷ STRSTARTS ∷ STRENDS ∷ CONTAINS ∷ []; level = 1 }
    ∷ record { empty = false; begin = COMMA ∷ []; follow = OPEN_BRACE ∷ CLOSE_BRACE ∷ CLOSE_BRACKET ∷ DOT ∷ SEMICOLON ∷ COMMA ∷ OPTIONAL ∷ GRAPH ∷ FILTER ∷ MINUS ∷ BIND ∷ VALUES ∷ []; level = 4 }
    ∷ record { empty = true; begin = COMMA ∷ []; follow = OPEN_BRACE ∷ CLOSE_BRACE ∷ CLOSE_BRACKET ∷ DOT ∷ SEMICOLON ∷ OPTIONAL ∷ GRAPH ∷ FILTER ∷ MINUS ∷ BIND ∷ VALUES ∷ []; level = 1 }
    ∷ record { empty = false; begin = SEMICOLON ∷ []; follow = OPEN_BRACE ∷ CLOSE_BRACE ∷ CLOSE_BRACKET ∷ DOT ∷ SEMICOLON ∷ IRIREF ∷ PNAME_NS ∷ PNAME_LN ∷ VAR ∷ IS_A ∷ OPTIONAL ∷ GRAPH ∷ FILTER ∷ MINUS ∷ BIND ∷ VALUES ∷ []; level = 1 }
    ∷ record { empty = false; begin = IRIREF ∷ PNAME_NS ∷ PNAME_LN ∷ VAR ∷ IS_A ∷ []; follow = OPEN_BRACE ∷ CLOSE_BRACE ∷ CLOSE_BRACKET ∷ DOT ∷ SEMICOLON ∷ OPTIONAL ∷ GRAPH ∷ FILTER ∷ MINUS ∷ BIND ∷ VALUES ∷ []; level = 5 }
    ∷ record { empty = true; begin = IRIREF ∷ PNAME_NS ∷ PNAME_LN ∷ VAR ∷ IS_A ∷ []; follow = OPEN_BRACE ∷ CLOSE_BRACE ∷ CLOSE_BRACKET ∷ DOT ∷ SEMICOLON ∷ OPTIONAL ∷ GRAPH ∷ FILTER ∷ MINUS ∷ BIND ∷ VALUES ∷ []; level = 1 }
    ∷ record { empty = false; begin = SEMICOLON ∷ []; follow = OPEN_BRACE ∷ CLOSE_BRACE ∷ CLOSE_BRACKET ∷ DOT ∷ SEMICOLON ∷ OPTIONAL ∷ GRAPH ∷ FILTER ∷ MINUS ∷ BIND ∷ VALUES ∷ []; level = 2 }
    ∷ record { empty = true; begin = SEMICOLON ∷ []; follow = OPEN_BRACE ∷ CLOSE_BRACE ∷ CLOSE_BRACKET ∷ DOT ∷ OPTIONAL ∷ GRAPH ∷ FILTER ∷ MINUS ∷ BIND ∷ VALUES ∷ []; level = 1 }
    ∷ record { empty = false; begin = OPEN_BRACKET ∷ IRIREF ∷ PNAME_NS ∷ PNAME_LN ∷ BLANK ∷ VAR ∷ STRING ∷ INTEGER ∷ DECIMAL ∷ TRUE ∷ FALSE ∷ []; follow = OPEN_BRACE ∷ CLOSE_BRACE ∷ CLOSE_BRACKET ∷ DOT ∷ OPTIONAL ∷ GRAPH ∷ FILTER ∷ MINUS ∷ BIND ∷ VALUES ∷ []; level = 5 }
    ∷ record { empty = false; begin = IRIREF ∷ PNAME_NS ∷ PNAME_LN ∷ BLANK ∷ VAR ∷ STRING ∷ INTEGER ∷ DECIMAL ∷ TRUE ∷ FALSE ∷ []; follow = OPEN_BRACE ∷ CLOSE_BRACE ∷ DOT ∷ OPTIONAL ∷ GRAPH ∷ FILTER ∷ MINUS ∷ BIND ∷ VALUES ∷ []; level = 7 }
    ∷ record { empty = false; begin = CLOSE_BRACKET ∷ []; follow = OPEN_BRACE ∷ CLOSE_BRACE ∷ DOT ∷ OPTIONAL ∷ GRAPH ∷ FILTER ∷ MINUS ∷ BIND ∷ VALUES ∷ []; level = 7 }
    ∷ record { empty = false; begin = CLOSE_BRACKET ∷ []; follow = OPEN_BRACE ∷ CLOSE_BRACE ∷ DOT ∷ OPTIONAL ∷ GRAPH ∷ FILTER ∷ MINUS ∷ BIND ∷ VALUES ∷ []; level = 2 }
    ∷ record { empty = false; begin = IRIREF ∷ PNAME_NS ∷ PNAME_LN ∷ VAR ∷ IS_A ∷ []; follow = OPEN_BRACE ∷ CLOSE_BRACE ∷ DOT ∷ OPTIONAL ∷ GRAPH ∷ FILTER ∷ MINUS ∷ BIND ∷ VALUES ∷ []; level = 7 }
    ∷ record { empty = false; begin = CLOSE_BRACKET ∷ IRIREF ∷ PNAME_NS ∷ PNAME_LN ∷ VAR ∷ IS_A ∷ []; follow = OPEN_BRACE ∷ CLOSE_BRACE ∷ DOT ∷ OPTIONAL ∷ GRAPH ∷ FILTER ∷ MINUS ∷ BIND ∷ VALUES ∷ []; level = 8 }
    ∷ record { empty = false; begin = OPEN_BRACKET ∷ []; follow = OPEN_BRACE ∷ CLOSE_BRACE ∷ DOT ∷ OPTIONAL ∷ GRAPH ∷ FILTER ∷ MINUS ∷ BIND ∷ VALUES ∷ []; level = 9 }
    ∷ record { empty = false; begin = DOT ∷ []; follow = OPEN_BRACE ∷ CLOSE_BRACE ∷ OPEN_BRACKET ∷ IRIREF ∷ PNAME_NS ∷ PNAME_LN ∷ BLANK ∷ VAR ∷ STRING ∷ INTEGER ∷ DECIMAL ∷ TRUE ∷ FALSE ∷ OPTIONAL ∷ GRAPH ∷ FILTER ∷ MINUS ∷ BIND ∷ VALUES ∷ []; level = 1 }
    ∷ record { empty = true; begin = OPEN_BRACKET ∷ IRIREF ∷ PNAME_NS ∷ PNAME_LN ∷ BLANK ∷ VAR ∷ STRING ∷ INTEGER ∷ DECIMAL ∷ TRUE ∷ FALSE ∷ []; follow = OPEN_BRACE ∷ CLOSE_BRACE ∷ OPTIONAL ∷ GRAPH ∷ FILTER ∷ MINUS ∷ BIND ∷ VALUES ∷ []; level = 1 }
    ∷ record { empty = false; begin = DOT ∷ []; follow = OPEN_BRACE ∷ CLOSE_BRACE ∷ OPTIONAL ∷ GRAPH ∷ FILTER ∷ MINUS ∷ BIND ∷ VALUES ∷ []; level = 2 }
    ∷ record { empty = true; begin = DOT ∷ []; follow = OPEN_BRACE ∷ CLOSE_BRACE ∷ OPTIONAL ∷ GRAPH ∷ FILTER ∷ MINUS ∷ BIND ∷ VALUES ∷ []; level = 1 }
    ∷ record { empty = true; begin = OPEN_BRACKET ∷ IRIREF ∷ PNAME_NS ∷ PNAME_LN ∷ BLANK ∷ VAR ∷ STRING ∷ INTEGER ∷ DECIMAL ∷ TRUE ∷ FALSE ∷ []; follow = OPEN_BRACE ∷ CLOSE_BRACE ∷ OPTIONAL ∷ GRAPH ∷ FILTER ∷ MINUS ∷ BIND ∷ VALUES ∷ []; level = 1 }
    ∷ record { empty = false; begin = OPEN_BRACE ∷ OPTIONAL ∷ GRAPH ∷ FILTER ∷ MINUS ∷ BIND ∷ VALUES ∷ []; follow = OPEN_BRACE ∷ CLOSE_BRACE ∷ OPEN_BRACKET ∷ DOT ∷ IRIREF ∷ PNAME_NS ∷ PNAME_LN ∷ BLANK ∷ VAR ∷ STRING ∷ INTEGER ∷ DECIMAL ∷ TRUE ∷ FALSE ∷ OPTIONAL ∷ GRAPH ∷ FILTER ∷ MINUS ∷ BIND ∷ VALUES ∷ []; level = 6 }
    ∷ record { empty = false; begin = OPTIONAL ∷ []; follow = OPEN_BRACE ∷ []; level = 1 }
    ∷ record { empty = false; begin = OPTIONAL ∷ []; follow = OPEN_BRACE ∷ CLOSE_BRACE ∷ OPEN_BRACKET ∷ DOT ∷ IRIREF ∷ PNAME_NS ∷ PNAME_LN ∷ BLANK ∷ VAR ∷ STRING ∷ INTEGER ∷ DECIMAL ∷ TRUE ∷ FALSE ∷ OPTIONAL ∷ GRAPH ∷ FILTER ∷ MINUS ∷ BIND ∷ VALUES ∷ []; level = 5 }
    ∷ record { empty = false; begin = GRAPH ∷ []; follow = IRIREF ∷ PNAME_NS ∷ PNAME_LN ∷ VAR ∷ []; level = 1 }
    ∷ record { empty = false; begin = IRIREF ∷ PNAME_NS ∷ PNAME_LN ∷ VAR ∷ []; follow = OPEN_BRACE ∷ []; level = 2 }
    ∷ record { empty = false; begin = IRIREF ∷ PNAME_NS ∷ PNAME_LN ∷ VAR ∷ []; follow = OPEN_BRACE ∷ CLOSE_BRACE ∷ OPEN_BRACKET ∷ DOT ∷ IRIREF ∷ PNAME_NS ∷ PNAME_LN ∷ BLANK ∷ VAR ∷ STRING ∷ INTEGER ∷ DECIMAL ∷ TRUE ∷ FALSE ∷ OPTIONAL ∷ GRAPH ∷ FILTER ∷ MINUS ∷ BIND ∷ VALUES ∷ []; level = 5 }
    ∷ record { empty = false; begin = GRAPH ∷ []; follow = OPEN_BRACE ∷ CLOSE_BRACE ∷ OPEN_BRACKET ∷ DOT ∷ IRIREF ∷ PNAME_NS ∷ PNAME_LN ∷ BLANK ∷ VAR ∷ STRING ∷ INTEGER ∷ DECIMAL ∷ TRUE ∷ FALSE ∷ OPTIONAL ∷ GRAPH ∷ FILTER ∷ MINUS ∷ BIND ∷ VALUES ∷ []; level = 6 }
    ∷ record { empty = false; begin = FILTER ∷ []; follow = OPEN ∷ BOUND ∷ SAMETERM ∷ ISIRI ∷ ISURI ∷ ISBLANK ∷ ISLITERAL ∷ ISNUMERIC ∷ STR ∷ LANG ∷ DATATYPE ∷ STRLEN ∷ STRSTARTS ∷ STRENDS ∷ CONTAINS ∷ []; level = 1 }
    ∷ record { empty = false; begin = OPEN ∷ BOUND ∷ SAMETERM ∷ ISIRI ∷ ISURI ∷ ISBLANK ∷ ISLITERAL ∷ ISNUMERIC ∷ STR ∷ LANG ∷ DATATYPE ∷ STRLEN ∷ STRSTARTS ∷ STRENDS ∷ CONTAINS ∷ []; follow = OPEN_BRACE ∷ CLOSE_BRACE ∷ OPEN_BRACKET ∷ DOT ∷ IRIREF ∷ PNAME_NS ∷ PNAME_LN ∷ BLANK ∷ VAR ∷ STRING ∷ INTEGER ∷ DECIMAL ∷ TRUE ∷ FALSE ∷ OPTIONAL ∷ GRAPH ∷ FILTER ∷ MINUS ∷ BIND ∷ VALUES ∷ []; level = 6 }
    ∷ record { empty = false; begin = OPEN ∷ []; follow = OPEN_BRACE ∷ CLOSE_BRACE ∷ OPEN ∷ CLOSE ∷ OPEN_BRACKET ∷ DOT ∷ COMMA ∷ EQUAL ∷ NOT_EQUAL ∷ LESS ∷ GREATER ∷ LESS_EQUAL ∷ GREATER_EQUAL ∷ AND ∷ OR ∷ IRIREF ∷ PNAME_NS ∷ PNAME_LN ∷ BLANK ∷ VAR ∷ STRING ∷ INTEGER ∷ DECIMAL ∷ TRUE ∷ FALSE ∷ OPTIONAL ∷ GRAPH ∷ FILTER ∷ BOUND ∷ SAMETERM ∷ ISIRI ∷ ISURI ∷ ISBLANK ∷ ISLITERAL ∷ ISNUMERIC ∷ STR ∷ LANG ∷ DATATYPE ∷ STRLEN ∷ STRSTARTS ∷ STRENDS ∷ CONTAINS ∷ MINUS ∷ BIND ∷ AS ∷ VALUES ∷ LIMIT ∷ OFFSET ∷ ASC ∷ DESC ∷ []; level = 10 }
    ∷ record { empty = false; begin = OPEN ∷ []; follow = OPEN ∷ CLOSE ∷ NOT ∷ IRIREF ∷ PNAME_NS ∷ PNAME_LN ∷ VAR ∷ STRING ∷ INTEGER ∷ DECIMAL ∷ TRUE ∷ FALSE ∷ BOUND ∷ SAMETERM ∷ ISIRI ∷ ISURI ∷ ISBLANK ∷ ISLITERAL ∷ ISNUMERIC ∷ STR ∷ LANG ∷ DATATYPE ∷ STRLEN ∷ STRSTARTS ∷ STRENDS ∷ CONTAINS ∷ UNDEF ∷ []; level = 1 }
    ∷ record { empty = false; begin = OPEN ∷ NOT ∷ IRIREF ∷ PNAME_NS ∷ PNAME_LN ∷ VAR ∷ STRING ∷ INTEGER ∷ DECIMAL ∷ TRUE ∷ FALSE ∷ BOUND ∷ SAMETERM ∷ ISIRI ∷ ISURI ∷ ISBLANK ∷ ISLITERAL ∷ ISNUMERIC ∷ STR ∷ LANG ∷ DATATYPE ∷ STRLEN ∷ STRSTARTS ∷ STRENDS ∷ CONTAINS ∷ []; follow = CLOSE ∷ COMMA ∷ AS ∷ []; level = 8 }
    ∷ record { empty = false; begin = OPEN ∷ NOT ∷ IRIREF ∷ PNAME_NS ∷ PNAME_LN ∷ VAR ∷ STRING ∷ INTEGER ∷ DECIMAL ∷ TRUE ∷ FALSE ∷ BOUND ∷ SAMETERM ∷ ISIRI ∷ ISURI ∷ ISBLANK ∷ ISLITERAL ∷ ISNUMERIC ∷ STR ∷ LANG ∷ DATATYPE ∷ STRLEN ∷ STRSTARTS ∷ STRENDS ∷ CONTAINS ∷ []; follow = CLOSE ∷ COMMA ∷ OR ∷ AS ∷ []; level = 7 }
    ∷ record { empty = false; begin = OPEN ∷ NOT ∷ IRIREF ∷ PNAME_NS ∷ PNAME_LN ∷ VAR ∷ STRING ∷ INTEGER ∷ DECIMAL ∷ TRUE ∷ FALSE ∷ BOUND ∷ SAMETERM ∷ ISIRI ∷ ISURI ∷ ISBLANK ∷ ISLITERAL ∷ ISNUMERIC ∷ STR ∷ LANG ∷ DATATYPE ∷ STRLEN ∷ STRSTARTS ∷ STRENDS ∷ CONTAINS ∷ []; follow = CLOSE ∷ COMMA ∷ AND ∷ OR ∷ AS ∷ []; level = 6 }
    ∷ record { empty = false; begin = OPEN ∷ NOT ∷ IRIREF ∷ PNAME_NS ∷ PNAME_LN ∷ VAR ∷ STRING ∷ INTEGER ∷ DECIMAL ∷ TRUE ∷ FALSE ∷ BOUND ∷ SAMETERM ∷ ISIRI ∷ ISURI ∷ ISBLANK ∷ ISLITERAL ∷ ISNUMERIC ∷ STR ∷ LANG ∷ DATATYPE ∷ STRLEN ∷ STRSTARTS ∷ STRENDS ∷ CONTAINS ∷ []; follow = CLOSE ∷ COMMA ∷ EQUAL ∷ NOT_EQUAL ∷ LESS ∷ GREATER ∷ LESS_EQUAL ∷ GREATER_EQUAL ∷ AND ∷ OR ∷ AS ∷ []; level = 5 }
    ∷ record { empty = false; begin = NOT ∷ []; follow = OPEN ∷ IRIREF ∷ PNAME_NS ∷ PNAME_LN ∷ VAR ∷ STRING ∷ INTEGER ∷ DECIMAL ∷ TRUE ∷ FALSE ∷ BOUND ∷ SAMETERM ∷ ISIRI ∷ ISURI ∷ ISBLANK ∷ ISLITERAL ∷ ISNUMERIC ∷ STR ∷ LANG ∷ DATATYPE ∷ STRLEN ∷ STRSTARTS ∷ STRENDS ∷ CONTAINS ∷ []; level = 1 }
    ∷ record { empty = true; begin = NOT ∷ []; follow = OPEN ∷ IRIREF ∷ PNAME_NS ∷ PNAME_LN ∷ VAR ∷ STRING ∷ INTEGER ∷ DECIMAL ∷ TRUE ∷ FALSE ∷ BOUND ∷ SAMETERM ∷ ISIRI ∷ ISURI ∷ ISBLANK ∷ ISLITERAL ∷ ISNUMERIC ∷ STR ∷ LANG ∷ DATATYPE ∷ STRLEN ∷ STRSTARTS ∷ STRENDS ∷ CONTAINS ∷ []; level = 1 }
    ∷ record { empty = false; begin = OPEN ∷ IRIREF ∷ PNAME_NS ∷ PNAME_LN ∷ VAR ∷ STRING ∷ INTEGER ∷ DECIMAL ∷ TRUE ∷ FALSE ∷ BOUND ∷ SAMETERM ∷ ISIRI ∷ ISURI ∷ ISBLANK ∷ ISLITERAL ∷ ISNUMERIC ∷ STR ∷ LANG ∷ DATATYPE ∷ STRLEN ∷ STRSTARTS ∷ STRENDS ∷ CONTAINS ∷ []; follow = CLOSE ∷ COMMA ∷ EQUAL ∷ NOT_EQUAL ∷ LESS ∷ GREATER ∷ LESS_EQUAL ∷ GREATER_EQUAL ∷ AND ∷ OR ∷ AS ∷ []; level = 4 }
    ∷ record { empty = false; begin = BOUND ∷ SAMETERM ∷ ISIRI ∷ ISURI ∷ ISBLANK ∷ ISLITERAL ∷ ISNUMERIC ∷ STR ∷ LANG ∷ DATATYPE ∷ STRLEN ∷ STRSTARTS ∷ STRENDS ∷ CONTAINS ∷ []; follow = OPEN_BRACE ∷ CLOSE_BRACE ∷ OPEN ∷ CLOSE ∷ OPEN_BRACKET ∷ DOT ∷ COMMA ∷ EQUAL ∷ NOT_EQUAL ∷ LESS ∷ GREATER ∷ LESS_EQUAL ∷ GREATER_EQUAL ∷ AND ∷ OR ∷ IRIREF ∷ PNAME_NS ∷ PNAME_LN ∷ BLANK ∷ VAR ∷ STRING ∷ INTEGER ∷ DECIMAL ∷ TRUE ∷ FALSE ∷ OPTIONAL ∷ GRAPH ∷ FILTER ∷ BOUND ∷ SAMETERM ∷ ISIRI ∷ ISURI ∷ ISBLANK ∷ ISLITERAL ∷ ISNUMERIC ∷ STR ∷ LANG ∷ DATATYPE ∷ STRLEN ∷ STRSTARTS ∷ STRENDS ∷ CONTAINS ∷ MINUS ∷ BIND ∷ AS ∷ VALUES ∷ LIMIT ∷ OFFSET ∷ ASC ∷ DESC ∷ []; level = 5 }
    ∷ record { empty = false; begin = BOUND ∷ []; follow = OPEN ∷ []; level = 1 }
    ∷ record { empty = false; begin = CLOSE ∷ []; follow = OPEN_BRACE ∷ CLOSE_BRACE ∷ OPEN ∷ CLOSE ∷ OPEN_BRACKET ∷ DOT ∷ COMMA ∷ EQUAL ∷ NOT_EQUAL ∷ LESS ∷ GREATER ∷ LESS_EQUAL ∷ GREATER_EQUAL ∷ AND ∷ OR ∷ IRIREF ∷ PNAME_NS ∷ PNAME_LN ∷ BLANK ∷ VAR ∷ STRING ∷ INTEGER ∷ DECIMAL ∷ TRUE ∷ FALSE ∷ OPTIONAL ∷ GRAPH ∷ FILTER ∷ BOUND ∷ SAMETERM ∷ ISIRI ∷ ISURI ∷ ISBLANK ∷ ISLITERAL ∷ ISNUMERIC ∷ STR ∷ LANG ∷ DATATYPE ∷ STRLEN ∷ STRSTARTS ∷ STRENDS ∷ CONTAINS ∷ MINUS ∷ BIND ∷ AS ∷ VALUES ∷ LIMIT ∷ OFFSET ∷ ASC ∷ DESC ∷ []; level = 1 }
    ∷ record { empty = false; begin = VAR ∷ []; follow = OPEN_BRACE ∷ CLOSE_BRACE ∷ OPEN ∷ CLOSE ∷ OPEN_BRACKET ∷ DOT ∷ COMMA ∷ EQUAL ∷ NOT_EQUAL ∷ LESS ∷ GREATER ∷ LESS_EQUAL ∷ GREATER_EQUAL ∷ AND ∷ OR ∷ IRIREF ∷ PNAME_NS ∷ PNAME_LN ∷ BLANK ∷ VAR ∷ STRING ∷ INTEGER ∷ DECIMAL ∷ TRUE ∷ FALSE ∷ OPTIONAL ∷ GRAPH ∷ FILTER ∷ BOUND ∷ SAMETERM ∷ ISIRI ∷ ISURI ∷ ISBLANK ∷ ISLITERAL ∷ ISNUMERIC ∷ STR ∷ LANG ∷ DATATYPE ∷ STRLEN ∷ STRSTARTS ∷ STRENDS ∷ CONTAINS ∷ MINUS ∷ BIND ∷ AS ∷ VALUES ∷ LIMIT ∷ OFFSET ∷ ASC ∷ DESC ∷ []; level = 2 }
    ∷ record { empty = false; begin = OPEN ∷ []; follow = OPEN_BRACE ∷ CLOSE_BRACE ∷ OPEN ∷ CLOSE ∷ OPEN_BRACKET ∷ DOT ∷ COMMA ∷ EQUAL ∷ NOT_EQUAL ∷ LESS ∷ GREATER ∷ LESS_EQUAL ∷ GREATER_EQUAL ∷ AND ∷ OR ∷ IRIREF ∷ PNAME_NS ∷ PNAME_LN ∷ BLANK ∷ VAR ∷ STRING ∷ INTEGER ∷ DECIMAL ∷ TRUE ∷ FALSE ∷ OPTIONAL ∷ GRAPH ∷ FILTER ∷ BOUND ∷ SAMETERM ∷ ISIRI ∷ ISURI ∷ ISBLANK ∷ ISLITERAL ∷ ISNUMERIC ∷ STR ∷ LANG ∷ DATATYPE ∷ STRLEN ∷ STRSTARTS ∷ STRENDS ∷ CONTAINS ∷ MINUS ∷ BIND ∷ AS ∷ VALUES ∷ LIMIT ∷ OFFSET ∷ ASC ∷ DESC ∷ []; level = 3 }
    ∷ record { empty = false; begin = BOUND ∷ []; follow = OPEN_BRACE ∷ CLOSE_BRACE ∷ OPEN ∷ CLOSE ∷ OPEN_BRACKET ∷ DOT ∷ COMMA ∷ EQUAL ∷ NOT_EQUAL ∷ LESS ∷ GREATER ∷ LESS_EQUAL ∷ GREATER_EQUAL ∷ AND ∷ OR ∷ IRIREF ∷ PNAME_NS ∷ PNAME_LN ∷ BLANK ∷ VAR ∷ STRING ∷ INTEGER ∷ DECIMAL ∷ TRUE ∷ FALSE ∷ OPTIONAL ∷ GRAPH ∷ FILTER ∷ BOUND ∷ SAMETERM ∷ ISIRI ∷ ISURI ∷ ISBLANK ∷ ISLITERAL ∷ ISNUMERIC ∷ STR ∷ LANG ∷ DATATYPE ∷ STRLEN ∷ STRSTARTS ∷ STRENDS ∷ CONTAINS ∷ MINUS ∷ BIND ∷ AS ∷ VALUES ∷ LIMIT ∷ OFFSET ∷ ASC ∷ DESC ∷ []; level = 4 }
    ∷ record { empty = false; begin = SAMETERM ∷ STRSTARTS ∷ STRENDS ∷ CONTAINS ∷ []; follow = OPEN ∷ []; level = 2 }
    ∷ record { empty = false; begin = SAMETERM ∷ []; follow = OPEN ∷ []; level = 1 }
    ∷ record { empty = false; begin = STRSTARTS ∷ []; follow = OPEN ∷ []; level = 1 }
    ∷ record { empty = false; begin = STRENDS ∷ []; follow = OPEN ∷ []; level = 1 }
    ∷ record { empty = false; begin = CONTAINS ∷ []; follow = OPEN ∷ []; level = 1 }
    ∷ record { empty = false; begin = STRENDS ∷ CONTAINS ∷ []; follow = OPEN ∷ []; level = 2 }
    ∷ record { empty = false; begin = STRSTARTS ∷ STRENDS ∷ CONTAINS ∷ []; follow = OPEN ∷ []; level = 2 }
    ∷ record { empty = false; begin = OPEN ∷ NOT ∷ IRIREF ∷ PNAME_NS ∷ PNAME_LN ∷ VAR ∷ STRING ∷ INTEGER ∷ DECIMAL ∷ TRUE ∷ FALSE ∷ BOUND ∷ SAMETERM ∷ ISIRI ∷ ISURI ∷ ISBLANK ∷ ISLITERAL ∷ ISNUMERIC ∷ STR ∷ LANG ∷ DATATYPE ∷ STRLEN ∷ STRSTARTS ∷ STRENDS ∷ CONTAINS ∷ []; follow = OPEN_BRACE ∷ CLOSE_BRACE ∷ OPEN ∷ CLOSE ∷ OPEN_BRACKET ∷ DOT ∷ COMMA ∷ EQUAL ∷ NOT_EQUAL ∷ LESS ∷ GREATER ∷ LESS_EQUAL ∷ GREATER_EQUAL ∷ AND ∷ OR ∷ IRIREF ∷ PNAME_NS ∷ PNAME_LN ∷ BLANK ∷ VAR ∷ STRING ∷ INTEGER ∷ DECIMAL ∷ TRUE ∷ FALSE ∷ OPTIONAL ∷ GRAPH ∷ FILTER ∷ BOUND ∷ SAMETERM ∷ ISIRI ∷ ISURI ∷ ISBLANK ∷ ISLITERAL ∷ ISNUMERIC ∷ STR ∷ LANG ∷ DATATYPE ∷ STRLEN ∷ STRSTARTS ∷ STRENDS ∷ CONTAINS ∷ MINUS ∷ BIND ∷ AS ∷ VALUES ∷ LIMIT ∷ OFFSET ∷ ASC ∷ DESC ∷ []; level = 9 }
    ∷ record { empty = false; begin = COMMA ∷ []; follow = OPEN_BRACE ∷ CLOSE_BRACE ∷ OPEN ∷ CLOSE ∷ OPEN_BRACKET ∷ DOT ∷ COMMA ∷ EQUAL ∷ NOT_EQUAL ∷ LESS ∷ GREATER ∷ LESS_EQUAL ∷ GREATER_EQUAL ∷ AND ∷ OR ∷ IRIREF ∷ PNAME_NS ∷ PNAME_LN ∷ BLANK ∷ VAR ∷ STRING ∷ INTEGER ∷ DECIMAL ∷ TRUE ∷ FALSE ∷ OPTIONAL ∷ GRAPH ∷ FILTER ∷ BOUND ∷ SAMETERM ∷ ISIRI ∷ ISURI ∷ ISBLANK ∷ ISLITERAL ∷ ISNUMERIC ∷ STR ∷ LANG ∷ DATATYPE ∷ STRLEN ∷ STRSTARTS ∷ STRENDS ∷ CONTAINS ∷ MINUS ∷ BIND ∷ AS ∷ VALUES ∷ LIMIT ∷ OFFSET ∷ ASC ∷ DESC ∷ []; level = 10 }
    ∷ record { empty = false; begin = OPEN ∷ NOT ∷ IRIREF ∷ PNAME_NS ∷ PNAME_LN ∷ VAR ∷ STRING ∷ INTEGER ∷ DECIMAL ∷ TRUE ∷ FALSE ∷ BOUND ∷ SAMETERM ∷ ISIRI ∷ ISURI ∷ ISBLANK ∷ ISLITERAL ∷ ISNUMERIC ∷ STR ∷ LANG ∷ DATATYPE ∷ STRLEN ∷ STRSTARTS ∷ STRENDS ∷ CONTAINS ∷ []; follow = OPEN_BRACE ∷ CLOSE_BRACE ∷ OPEN ∷ CLOSE ∷ OPEN_BRACKET ∷ DOT ∷ COMMA ∷ EQUAL ∷ NOT_EQUAL ∷ LESS ∷ GREATER ∷ LESS_EQUAL ∷ GREATER_EQUAL ∷ AND ∷ OR ∷ IRIREF ∷ PNAME_NS ∷ PNAME_LN ∷ BLANK ∷ VAR ∷ STRING ∷ INTEGER ∷ DECIMAL ∷ TRUE ∷ FALSE ∷ OPTIONAL ∷ GRAPH ∷ FILTER ∷ BOUND ∷ SAMETERM ∷ ISIRI ∷ ISURI ∷ ISBLANK ∷ ISLITERAL ∷ ISNUMERIC ∷ STR ∷ LANG ∷ DATATYPE ∷ STRLEN ∷ STRSTARTS ∷ STRENDS ∷ CONTAINS ∷ MINUS ∷ BIND ∷ AS ∷ VALUES ∷ LIMIT ∷ OFFSET ∷ ASC ∷ DESC ∷ []; level = 11 }
    ∷ record { empty = false; begin = OPEN ∷ []; follow = OPEN_BRACE ∷ CLOSE_BRACE ∷ OPEN ∷ CLOSE ∷ OPEN_BRACKET ∷ DOT ∷ COMMA ∷ EQUAL ∷ NOT_EQUAL ∷ LESS ∷ GREATER ∷ LESS_EQUAL ∷ GREATER_EQUAL ∷ AND ∷ OR ∷ IRIREF ∷ PNAME_NS ∷ PNAME_LN ∷ BLANK ∷ VAR ∷ STRING ∷ INTEGER ∷ DECIMAL ∷ TRUE ∷ FALSE ∷ OPTIONAL ∷ GRAPH ∷ FILTER ∷ BOUND ∷ SAMETERM ∷ ISIRI ∷ ISURI ∷ ISBLANK ∷ ISLITERAL ∷ ISNUMERIC ∷ STR ∷ LANG ∷ DATATYPE ∷ STRLEN ∷ STRSTARTS ∷ STRENDS ∷ CONTAINS ∷ MINUS ∷ BIND ∷ AS ∷ VALUES ∷ LIMIT ∷ OFFSET ∷ ASC ∷ DESC ∷ []; level = 12 }
    ∷ record { empty = false; begin = SAMETERM ∷ STRSTARTS ∷ STRENDS ∷ CONTAINS ∷ []; follow = OPEN_BRACE ∷ CLOSE_BRACE ∷ OPEN ∷ CLOSE ∷ OPEN_BRACKET ∷ DOT ∷ COMMA ∷ EQUAL ∷ NOT_EQUAL ∷ LESS ∷ GREATER ∷ LESS_EQUAL ∷ GREATER_EQUAL ∷ AND ∷ OR ∷ IRIREF ∷ PNAME_NS ∷ PNAME_LN ∷ BLANK ∷ VAR ∷ STRING ∷ INTEGER ∷ DECIMAL ∷ TRUE ∷ FALSE ∷ OPTIONAL ∷ GRAPH ∷ FILTER ∷ BOUND ∷ SAMETERM ∷ ISIRI ∷ ISURI ∷ ISBLANK ∷ ISLITERAL ∷ ISNUMERIC ∷ STR ∷ LANG ∷ DATATYPE ∷ STRLEN ∷ STRSTARTS ∷ STRENDS ∷ CONTAINS ∷ MINUS ∷ BIND ∷ AS ∷ VALUES ∷ LIMIT ∷ OFFSET ∷ ASC ∷ DESC ∷ []; level = 13 }
    ∷ record { empty = false; begin = ISIRI ∷ ISURI ∷ ISBLANK ∷ ISLITERAL ∷ ISNUMERIC ∷ STR ∷ LANG ∷ DATATYPE ∷ STRLEN ∷ []; follow = OPEN ∷ []; level = 2 }
    ∷ record { empty = false; begin = ISIRI ∷ []; follow = OPEN ∷ []; level = 1 }
    ∷ record { empty = false; begin = ISURI ∷ []; follow = OPEN ∷ []; level = 1 }
    ∷ record { empty = false; begin = ISBLANK ∷ []; follow = OPEN ∷ []; level = 1 }
    ∷ record { empty = false; begin = ISLITERAL ∷ []; follow = OPEN ∷ []; level = 1 }
    ∷ record { empty = false; begin = ISNUMERIC ∷ []; follow = OPEN ∷ []; level = 1 }
    ∷ record { empty = false; begin = STR ∷ []; follow = OPEN ∷ []; level = 1 }
    ∷ record { empty = false; begin = LANG ∷ []; follow = OPEN ∷ []; level = 1 }
    ∷ record { empty = false; begin = DATATYPE ∷ []; follow = OPEN ∷ []; level = 1 }
    ∷ record { empty = false; begin = STRLEN ∷ []; follow = OPEN ∷ []; level = 1 }
    ∷ record { empty = false; begin = DATATYPE ∷ STRLEN ∷ []; follow = OPEN ∷ []; level = 2 }
    ∷ record { empty = false; begin = LANG ∷ DATATYPE ∷ STRLEN ∷ []; follow = OPEN ∷ []; level = 2 }
    ∷ record { empty = false; begin = STR ∷ LANG ∷ DATATYPE ∷ STRLEN ∷ []; follow = OPEN ∷ []; level = 2 }
    ∷ record { empty = false; begin = ISNUMERIC ∷ STR ∷ LANG ∷ DATATYPE ∷ STRLEN ∷ []; follow = OPEN ∷ []; level = 2 }
    ∷ record { empty = false; begin = ISLITERAL ∷ ISNUMERIC ∷ STR ∷ LANG ∷ DATATYPE ∷ STRLEN ∷ []; follow = OPEN ∷ []; level = 2 }
    ∷ record { empty = false; begin = ISBLANK ∷ ISLITERAL ∷ ISNUMERIC ∷ STR ∷ LANG ∷ DATATYPE ∷ STRLEN ∷ []; follow = OPEN ∷ []; level = 2 }
    ∷ record { empty = false; begin = ISURI ∷ ISBLANK ∷ ISLITERAL ∷ ISNUMERIC ∷ STR ∷ LANG ∷ DATATYPE ∷ STRLEN ∷ []; follow = OPEN ∷ []; level = 2 }
    ∷ record { empty = false; begin = ISIRI ∷ ISURI ∷ ISBLANK ∷ ISLITERAL ∷ ISNUMERIC ∷ STR ∷ LANG ∷ DATATYPE ∷ STRLEN ∷ []; follow = OPEN_BRACE ∷ CLOSE_BRACE ∷ OPEN ∷ CLOSE ∷ OPEN_BRACKET ∷ DOT ∷ COMMA ∷ EQUAL ∷ NOT_EQUAL ∷ LESS ∷ GREATER ∷ LESS_EQUAL ∷ GREATER_EQUAL ∷ AND ∷ OR ∷ IRIREF ∷ PNAME_NS ∷ PNAME_LN ∷ BLANK ∷ VAR ∷ STRING ∷ INTEGER ∷ DECIMAL ∷ TRUE ∷ FALSE ∷ OPTIONAL ∷ GRAPH ∷ FILTER ∷ BOUND ∷ SAMETERM ∷ ISIRI ∷ ISURI ∷ ISBLANK ∷ ISLITERAL ∷ ISNUMERIC ∷ STR ∷ LANG ∷ DATATYPE ∷ STRLEN ∷ STRSTARTS ∷ STRENDS ∷ CONTAINS ∷ MINUS ∷ BIND ∷ AS ∷ VALUES ∷ LIMIT ∷ OFFSET ∷ ASC ∷ DESC ∷ []; level = 11 }
    ∷ record { empty = false; begin = SAMETERM ∷ ISIRI ∷ ISURI ∷ ISBLANK ∷ ISLITERAL ∷ ISNUMERIC ∷ STR ∷ LANG ∷ DATATYPE ∷ STRLEN ∷ STRSTARTS ∷ STRENDS ∷ CONTAINS ∷ []; follow = OPEN_BRACE ∷ CLOSE_BRACE ∷ OPEN ∷ CLOSE ∷ OPEN_BRACKET ∷ DOT ∷ COMMA ∷ EQUAL ∷ NOT_EQUAL ∷ LESS ∷ GREATER ∷ LESS_EQUAL ∷ GREATER_EQUAL ∷ AND ∷ OR ∷ IRIREF ∷ PNAME_NS ∷ PNAME_LN ∷ BLANK ∷ VAR ∷ STRING ∷ INTEGER ∷ DECIMAL ∷ TRUE ∷ FALSE ∷ OPTIONAL ∷ GRAPH ∷ FILTER ∷ BOUND ∷ SAMETERM ∷ ISIRI ∷ ISURI ∷ ISBLANK ∷ ISLITERAL ∷ ISNUMERIC ∷ STR ∷ LANG ∷ DATATYPE ∷ STRLEN ∷ STRSTARTS ∷ STRENDS ∷ CONTAINS ∷ MINUS ∷ BIND ∷ AS ∷ VALUES ∷ LIMIT ∷ OFFSET ∷ ASC ∷ DESC ∷ []; level = 12 }
    ∷ record { empty = false; begin = IRIREF ∷ PNAME_NS ∷ PNAME_LN ∷ STRING ∷ INTEGER ∷ DECIMAL ∷ TRUE ∷ FALSE ∷ []; follow = CLOSE ∷ COMMA ∷ EQUAL ∷ NOT_EQUAL ∷ LESS ∷ GREATER ∷ LESS_EQUAL ∷ GREATER_EQUAL ∷ AND ∷ OR ∷ AS ∷ []; level = 3 }
    ∷ record { empty = false; begin = IRIREF ∷ PNAME_NS ∷ PNAME_LN ∷ VAR ∷ STRING ∷ INTEGER ∷ DECIMAL ∷ TRUE ∷ FALSE ∷ []; follow = CLOSE ∷ COMMA ∷ EQUAL ∷ NOT_EQUAL ∷ LESS ∷ GREATER ∷ LESS_EQUAL ∷ GREATER_EQUAL ∷ AND ∷ OR ∷ AS ∷ []; level = 2 }
    ∷ record { empty = false; begin = IRIREF ∷ PNAME_NS ∷ PNAME_LN ∷ VAR ∷ STRING ∷ INTEGER ∷ DECIMAL ∷ TRUE ∷ FALSE ∷ BOUND ∷ SAMETERM ∷ ISIRI ∷ ISURI ∷ ISBLANK ∷ ISLITERAL ∷ ISNUMERIC ∷ STR ∷ LANG ∷ DATATYPE ∷ STRLEN ∷ STRSTARTS ∷ STRENDS ∷ CONTAINS ∷ []; follow = CLOSE ∷ COMMA ∷ EQUAL ∷ NOT_EQUAL ∷ LESS ∷ GREATER ∷ LESS_EQUAL ∷ GREATER_EQUAL ∷ AND ∷ OR ∷ AS ∷ []; level = 3 }
    ∷ record { empty = false; begin = EQUAL ∷ NOT_EQUAL ∷ LESS ∷ GREATER ∷ LESS_EQUAL ∷ GREATER_EQUAL ∷ []; follow = OPEN ∷ NOT ∷ IRIREF ∷ PNAME_NS ∷ PNAME_LN ∷ VAR ∷ STRING ∷ INTEGER ∷ DECIMAL ∷ TRUE ∷ FALSE ∷ BOUND ∷ SAMETERM ∷ ISIRI ∷ ISURI ∷ ISBLANK ∷ ISLITERAL ∷ ISNUMERIC ∷ STR ∷ LANG ∷ DATATYPE ∷ STRLEN ∷ STRSTARTS ∷ STRENDS ∷ CONTAINS ∷ []; level = 2 }
    ∷ record { empty = false; begin = EQUAL ∷ []; follow = OPEN ∷ NOT ∷ IRIREF ∷ PNAME_NS ∷ PNAME_LN ∷ VAR ∷ STRING ∷ INTEGER ∷ DECIMAL ∷ TRUE ∷ FALSE ∷ BOUND ∷ SAMETERM ∷ ISIRI ∷ ISURI ∷ ISBLANK ∷ ISLITERAL ∷ ISNUMERIC ∷ STR ∷ LANG ∷ DATATYPE ∷ STRLEN ∷ STRSTARTS ∷ STRENDS ∷ CONTAINS ∷ []; level = 1 }
    ∷ record { empty = false; begin = NOT_EQUAL ∷ []; follow = OPEN ∷ NOT ∷ IRIREF ∷ PNAME_NS ∷ PNAME_LN ∷ VAR ∷ STRING ∷ INTEGER ∷ DECIMAL ∷ TRUE ∷ FALSE ∷ BOUND ∷ SAMETERM ∷ ISIRI ∷ ISURI ∷ ISBLANK ∷ ISLITERAL ∷ ISNUMERIC ∷ STR ∷ LANG ∷ DATATYPE ∷ STRLEN ∷ STRSTARTS ∷ STRENDS ∷ CONTAINS ∷ []; level = 1 }
    ∷ record { empty = false; begin = LESS ∷ []; follow = OPEN ∷ NOT ∷ IRIREF ∷ PNAME_NS ∷ PNAME_LN ∷ VAR ∷ STRING ∷ INTEGER ∷ DECIMAL ∷ TRUE ∷ FALSE ∷ BOUND ∷ SAMETERM ∷ ISIRI ∷ ISURI ∷ ISBLANK ∷ ISLITERAL ∷ ISNUMERIC ∷ STR ∷ LANG ∷ DATATYPE ∷ STRLEN ∷ STRSTARTS ∷ STRENDS ∷ CONTAINS ∷ []; level = 1 }
    ∷ record { empty = false; begin = GREATER ∷ []; follow = OPEN ∷ NOT ∷ IRIREF ∷ PNAME_NS ∷ PNAME_LN ∷ VAR ∷ STRING ∷ INTEGER ∷ DECIMAL ∷ TRUE ∷ FALSE ∷ BOUND ∷ SAMETERM ∷ ISIRI ∷ ISURI ∷ ISBLANK ∷ ISLITERAL ∷ ISNUMERIC ∷ STR ∷ LANG ∷ DATATYPE ∷ STRLEN ∷ STRSTARTS ∷ STRENDS ∷ CONTAINS ∷ []; level = 1 }
    ∷ record { empty = false; begin = LESS_EQUAL ∷ []; follow = OPEN ∷ NOT ∷ IRIREF ∷ PNAME_NS ∷ PNAME_LN ∷ VAR ∷ STRING ∷ INTEGER ∷ DECIMAL ∷ TRUE ∷ FALSE ∷ BOUND ∷ SAMETERM ∷ ISIRI ∷ ISURI ∷ ISBLANK ∷ ISLITERAL ∷ ISNUMERIC ∷ STR ∷ LANG ∷ DATATYPE ∷ STRLEN ∷ STRSTARTS ∷ STRENDS ∷ CONTAINS ∷ []; level = 1 }
    ∷ record { empty = false; begin = GREATER_EQUAL ∷ []; follow = OPEN ∷ NOT ∷ IRIREF ∷ PNAME_NS ∷ PNAME_LN ∷ VAR ∷ STRING ∷ INTEGER ∷ DECIMAL ∷ TRUE ∷ FALSE ∷ BOUND ∷ SAMETERM ∷ ISIRI ∷ ISURI ∷ ISBLANK ∷ ISLITERAL ∷ ISNUMERIC ∷ STR ∷ LANG ∷ DATATYPE ∷ STRLEN ∷ STRSTARTS ∷ STRENDS ∷ CONTAINS ∷ []; level = 1 }
    ∷ record { empty = false; begin = LESS_EQUAL ∷ GREATER_EQUAL ∷ []; follow = OPEN ∷ NOT ∷ IRIREF ∷ PNAME_NS ∷ PNAME_LN ∷ VAR ∷ STRING ∷ INTEGER ∷ DECIMAL ∷ TRUE ∷ FALSE ∷ BOUND ∷ SAMETERM ∷ ISIRI ∷ ISURI ∷ ISBLANK ∷ ISLITERAL ∷ ISNUMERIC ∷ STR ∷ LANG ∷ DATATYPE ∷ STRLEN ∷ STRSTARTS ∷ STRENDS ∷ CONTAINS ∷ []; level = 2 }
    ∷ record { empty = false; begin = GREATER ∷ LESS_EQUAL ∷ GREATER_EQUAL ∷ []; follow = OPEN ∷ NOT ∷ IRIREF ∷ PNAME_NS ∷ PNAME_LN ∷ VAR ∷ STRING ∷ INTEGER ∷ DECIMAL ∷ TRUE ∷ FALSE ∷ BOUND ∷ SAMETERM ∷ ISIRI ∷ ISURI ∷ ISBLANK ∷ ISLITERAL ∷ ISNUMERIC ∷ STR ∷ LANG ∷ DATATYPE ∷ STRLEN ∷ STRSTARTS ∷ STRENDS ∷ CONTAINS ∷ []; level = 2 }
    ∷ record { empty = false; begin = LESS ∷ GREATER ∷ LESS_EQUAL ∷ GREATER_EQUAL ∷ []; follow = OPEN ∷ NOT ∷ IRIREF ∷ PNAME_NS ∷ PNAME_LN ∷ VAR ∷ STRING ∷ INTEGER ∷ DECIMAL ∷ TRUE ∷ FALSE ∷ BOUND ∷ SAMETERM ∷ ISIRI ∷ ISURI ∷ ISBLANK ∷ ISLITERAL ∷ ISNUMERIC ∷ STR ∷ LANG ∷ DATATYPE ∷ STRLEN ∷ STRSTARTS ∷ STRENDS ∷ CONTAINS ∷ []; level = 2 }
    ∷ record { empty = false; begin = NOT_EQUAL ∷ LESS ∷ GREATER ∷ LESS_EQUAL ∷ GREATER_EQUAL ∷ []; follow = OPEN ∷ NOT ∷ IRIREF ∷ PNAME_NS ∷ PNAME_LN ∷ VAR ∷ STRING ∷ INTEGER ∷ DECIMAL ∷ TRUE ∷ FALSE ∷ BOUND ∷ SAMETERM ∷ ISIRI ∷ ISURI ∷ ISBLANK ∷ ISLITERAL ∷ ISNUMERIC ∷ STR ∷ LANG ∷ DATATYPE ∷ STRLEN ∷ STRSTARTS ∷ STRENDS ∷ CONTAINS ∷ []; level = 2 }
    ∷ record { empty = false; begin = EQUAL ∷ NOT_EQUAL ∷ LESS ∷ GREATER ∷ LESS_EQUAL ∷ GREATER_EQUAL ∷ []; follow = CLOSE ∷ COMMA ∷ AND ∷ OR ∷ AS ∷ []; level = 6 }
    ∷ record { empty = true; begin = EQUAL ∷ NOT_EQUAL ∷ LESS ∷ GREATER ∷ LESS_EQUAL ∷ GREATER_EQUAL ∷ []; follow = CLOSE ∷ COMMA ∷ AND ∷ OR ∷ AS ∷ []; level = 1 }
    ∷ record { empty = false; begin = AND ∷ []; follow = OPEN ∷ NOT ∷ IRIREF ∷ PNAME_NS ∷ PNAME_LN ∷ VAR ∷ STRING ∷ INTEGER ∷ DECIMAL ∷ TRUE ∷ FALSE ∷ BOUND ∷ SAMETERM ∷ ISIRI ∷ ISURI ∷ ISBLANK ∷ ISLITERAL ∷ ISNUMERIC ∷ STR ∷ LANG ∷ DATATYPE ∷ STRLEN ∷ STRSTARTS ∷ STRENDS ∷ CONTAINS ∷ []; level = 1 }
    ∷ record { empty = false; begin = AND ∷ []; follow = CLOSE ∷ COMMA ∷ AND ∷ OR ∷ AS ∷ []; level = 7 }
    ∷ record { empty = true; begin = AND ∷ []; follow = CLOSE ∷ COMMA ∷ OR ∷ AS ∷ []; level = 1 }
    ∷ record { empty = false; begin = OR ∷ []; follow = OPEN ∷ NOT ∷ IRIREF ∷ PNAME_NS ∷ PNAME_LN ∷ VAR ∷ STRING ∷ INTEGER ∷ DECIMAL ∷ TRUE ∷ FALSE ∷ BOUND ∷ SAMETERM ∷ ISIRI ∷ ISURI ∷ ISBLANK ∷ ISLITERAL ∷ ISNUMERIC ∷ STR ∷ LANG ∷ DATATYPE ∷ STRLEN ∷ STRSTARTS ∷ STRENDS ∷ CONTAINS ∷ []; level = 1 }
    ∷ record { empty = false; begin = OR ∷ []; follow = CLOSE ∷ COMMA ∷ OR ∷ AS ∷ []; level = 8 }
    ∷ record { empty = true; begin = OR ∷ []; follow = CLOSE ∷ COMMA ∷ AS ∷ []; level = 1 }
    ∷ record { empty = false; begin = OPEN ∷ NOT ∷ IRIREF ∷ PNAME_NS ∷ PNAME_LN ∷ VAR ∷ STRING ∷ INTEGER ∷ DECIMAL ∷ TRUE ∷ FALSE ∷ BOUND ∷ SAMETERM ∷ ISIRI ∷ ISURI ∷ ISBLANK ∷ ISLITERAL ∷ ISNUMERIC ∷ STR ∷ LANG ∷ DATATYPE ∷ STRLEN ∷ STRSTARTS ∷ STRENDS ∷ CONTAINS ∷ []; follow = OPEN_BRACE ∷ CLOSE_BRACE ∷ OPEN ∷ CLOSE ∷ OPEN_BRACKET ∷ DOT ∷ COMMA ∷ EQUAL ∷ NOT_EQUAL ∷ LESS ∷ GREATER ∷ LESS_EQUAL ∷ GREATER_EQUAL ∷ AND ∷ OR ∷ IRIREF ∷ PNAME_NS ∷ PNAME_LN ∷ BLANK ∷ VAR ∷ STRING ∷ INTEGER ∷ DECIMAL ∷ TRUE ∷ FALSE ∷ OPTIONAL ∷ GRAPH ∷ FILTER ∷ BOUND ∷ SAMETERM ∷ ISIRI ∷ ISURI ∷ ISBLANK ∷ ISLITERAL ∷ ISNUMERIC ∷ STR ∷ LANG ∷ DATATYPE ∷ STRLEN ∷ STRSTARTS ∷ STRENDS ∷ CONTAINS ∷ MINUS ∷ BIND ∷ AS ∷ VALUES ∷ LIMIT ∷ OFFSET ∷ ASC ∷ DESC ∷ []; level = 9 }
    ∷ record { empty = false; begin = FILTER ∷ []; follow = OPEN_BRACE ∷ CLOSE_BRACE ∷ OPEN_BRACKET ∷ DOT ∷ IRIREF ∷ PNAME_NS ∷ PNAME_LN ∷ BLANK ∷ VAR ∷ STRING ∷ INTEGER ∷ DECIMAL ∷ TRUE ∷ FALSE ∷ OPTIONAL ∷ GRAPH ∷ FILTER ∷ MINUS ∷ BIND ∷ VALUES ∷ []; level = 7 }
    ∷ record { empty = false; begin = UNION ∷ []; follow = OPEN_BRACE ∷ []; level = 1 }
    ∷ record { empty = false; begin = UNION ∷ []; follow = OPEN_BRACE ∷ CLOSE_BRACE ∷ OPEN_BRACKET ∷ DOT ∷ IRIREF ∷ PNAME_NS ∷ PNAME_LN ∷ BLANK ∷ VAR ∷ STRING ∷ INTEGER ∷ DECIMAL ∷ TRUE ∷ FALSE ∷ OPTIONAL ∷ GRAPH ∷ FILTER ∷ UNION ∷ MINUS ∷ BIND ∷ VALUES ∷ []; level = 5 }
    ∷ record { empty = true; begin = UNION ∷ []; follow = OPEN_BRACE ∷ CLOSE_BRACE ∷ OPEN_BRACKET ∷ DOT ∷ IRIREF ∷ PNAME_NS ∷ PNAME_LN ∷ BLANK ∷ VAR ∷ STRING ∷ INTEGER ∷ DECIMAL ∷ TRUE ∷ FALSE ∷ OPTIONAL ∷ GRAPH ∷ FILTER ∷ MINUS ∷ BIND ∷ VALUES ∷ []; level = 1 }
    ∷ record { empty = false; begin = OPEN_BRACE ∷ []; follow = OPEN_BRACE ∷ CLOSE_BRACE ∷ OPEN_BRACKET ∷ DOT ∷ IRIREF ∷ PNAME_NS ∷ PNAME_LN ∷ BLANK ∷ VAR ∷ STRING ∷ INTEGER ∷ DECIMAL ∷ TRUE ∷ FALSE ∷ OPTIONAL ∷ GRAPH ∷ FILTER ∷ MINUS ∷ BIND ∷ VALUES ∷ []; level = 5 }
    ∷ record { empty = false; begin = MINUS ∷ []; follow = OPEN_BRACE ∷ []; level = 1 }
    ∷ record { empty = false; begin = MINUS ∷ []; follow = OPEN_BRACE ∷ CLOSE_BRACE ∷ OPEN_BRACKET ∷ DOT ∷ IRIREF ∷ PNAME_NS ∷ PNAME_LN ∷ BLANK ∷ VAR ∷ STRING ∷ INTEGER ∷ DECIMAL ∷ TRUE ∷ FALSE ∷ OPTIONAL ∷ GRAPH ∷ FILTER ∷ MINUS ∷ BIND ∷ VALUES ∷ []; level = 5 }
    ∷ record { empty = false; begin = BIND ∷ []; follow = OPEN ∷ []; level = 1 }
    ∷ record { empty = false; begin = AS ∷ []; follow = VAR ∷ []; level = 1 }
    ∷ record { empty = false; begin = AS ∷ []; follow = OPEN_BRACE ∷ CLOSE_BRACE ∷ OPEN_BRACKET ∷ DOT ∷ IRIREF ∷ PNAME_NS ∷ PNAME_LN ∷ BLANK ∷ VAR ∷ STRING ∷ INTEGER ∷ DECIMAL ∷ TRUE ∷ FALSE ∷ OPTIONAL ∷ GRAPH ∷ FILTER ∷ MINUS ∷ BIND ∷ VALUES ∷ []; level = 3 }
    ∷ record { empty = false; begin = OPEN ∷ NOT ∷ IRIREF ∷ PNAME_NS ∷ PNAME_LN ∷ VAR ∷ STRING ∷ INTEGER ∷ DECIMAL ∷ TRUE ∷ FALSE ∷ BOUND ∷ SAMETERM ∷ ISIRI ∷ ISURI ∷ ISBLANK ∷ ISLITERAL ∷ ISNUMERIC ∷ STR ∷ LANG ∷ DATATYPE ∷ STRLEN ∷ STRSTARTS ∷ STRENDS ∷ CONTAINS ∷ []; follow = OPEN_BRACE ∷ CLOSE_BRACE ∷ OPEN_BRACKET ∷ DOT ∷ IRIREF ∷ PNAME_NS ∷ PNAME_LN ∷ BLANK ∷ VAR ∷ STRING ∷ INTEGER ∷ DECIMAL ∷ TRUE ∷ FALSE ∷ OPTIONAL ∷ GRAPH ∷ FILTER ∷ MINUS ∷ BIND ∷ VALUES ∷ []; level = 9 }
    ∷ record { empty = false; begin = OPEN ∷ []; follow = OPEN_BRACE ∷ CLOSE_BRACE ∷ OPEN_BRACKET ∷ DOT ∷ IRIREF ∷ PNAME_NS ∷ PNAME_LN ∷ BLANK ∷ VAR ∷ STRING ∷ INTEGER ∷ DECIMAL ∷ TRUE ∷ FALSE ∷ OPTIONAL ∷ GRAPH ∷ FILTER ∷ MINUS ∷ BIND ∷ VALUES ∷ []; level = 10 }
    ∷ record { empty = false; begin = BIND ∷ []; follow = OPEN_BRACE ∷ CLOSE_BRACE ∷ OPEN_BRACKET ∷ DOT ∷ IRIREF ∷ PNAME_NS ∷ PNAME_LN ∷ BLANK ∷ VAR ∷ STRING ∷ INTEGER ∷ DECIMAL ∷ TRUE ∷ FALSE ∷ OPTIONAL ∷ GRAPH ∷ FILTER ∷ MINUS ∷ BIND ∷ VALUES ∷ []; level = 11 }
    ∷ record { empty = false; begin = VALUES ∷ []; follow = OPEN ∷ VAR ∷ []; level = 1 }
    ∷ record { empty = false; begin = OPEN ∷ VAR ∷ []; follow = OPEN_BRACE ∷ CLOSE_BRACE ∷ OPEN_BRACKET ∷ DOT ∷ IRIREF ∷ PNAME_NS ∷ PNAME_LN ∷ BLANK ∷ VAR ∷ STRING ∷ INTEGER ∷ DECIMAL ∷ TRUE ∷ FALSE ∷ OPTIONAL ∷ GRAPH ∷ FILTER ∷ MINUS ∷ BIND ∷ VALUES ∷ []; level = 5 }
    ∷ record { empty = false; begin = IRIREF ∷ PNAME_NS ∷ PNAME_LN ∷ STRING ∷ INTEGER ∷ DECIMAL ∷ TRUE ∷ FALSE ∷ UNDEF ∷ []; follow = CLOSE_BRACE ∷ CLOSE ∷ IRIREF ∷ PNAME_NS ∷ PNAME_LN ∷ STRING ∷ INTEGER ∷ DECIMAL ∷ TRUE ∷ FALSE ∷ UNDEF ∷ []; level = 3 }
    ∷ record { empty = false; begin = UNDEF ∷ []; follow = CLOSE_BRACE ∷ CLOSE ∷ IRIREF ∷ PNAME_NS ∷ PNAME_LN ∷ STRING ∷ INTEGER ∷ DECIMAL ∷ TRUE ∷ FALSE ∷ UNDEF ∷ []; level = 1 }
    ∷ record { empty = false; begin = STRING ∷ INTEGER ∷ DECIMAL ∷ TRUE ∷ FALSE ∷ UNDEF ∷ []; follow = CLOSE_BRACE ∷ CLOSE ∷ IRIREF ∷ PNAME_NS ∷ PNAME_LN ∷ STRING ∷ INTEGER ∷ DECIMAL ∷ TRUE ∷ FALSE ∷ UNDEF ∷ []; level = 2 }
    ∷ record { empty = true; begin = IRIREF ∷ PNAME_NS ∷ PNAME_LN ∷ STRING ∷ INTEGER ∷ DECIMAL ∷ TRUE ∷ FALSE ∷ UNDEF ∷ []; follow = CLOSE_BRACE ∷ CLOSE ∷ []; level = 1 }
    ∷ record { empty = false; begin = CLOSE_BRACE ∷ []; follow = OPEN_BRACE ∷ CLOSE_BRACE ∷ OPEN_BRACKET ∷ DOT ∷ IRIREF ∷ PNAME_NS ∷ PNAME_LN ∷ BLANK ∷ VAR ∷ STRING ∷ INTEGER ∷ DECIMAL ∷ TRUE ∷ FALSE ∷ WHERE ∷ OPTIONAL ∷ GRAPH ∷ FILTER ∷ UNION ∷ MINUS ∷ BIND ∷ VALUES ∷ ORDER ∷ LIMIT ∷ OFFSET ∷ []; level = 1 }
    ∷ record { empty = false; begin = CLOSE_BRACE ∷ IRIREF ∷ PNAME_NS ∷ PNAME_LN ∷ STRING ∷ INTEGER ∷ DECIMAL ∷ TRUE ∷ FALSE ∷ UNDEF ∷ []; follow = OPEN_BRACE ∷ CLOSE_BRACE ∷ OPEN_BRACKET ∷ DOT ∷ IRIREF ∷ PNAME_NS ∷ PNAME_LN ∷ BLANK ∷ VAR ∷ STRING ∷ INTEGER ∷ DECIMAL ∷ TRUE ∷ FALSE ∷ OPTIONAL ∷ GRAPH ∷ FILTER ∷ MINUS ∷ BIND ∷ VALUES ∷ []; level = 2 }
    ∷ record { empty = false; begin = OPEN_BRACE ∷ []; follow = OPEN_BRACE ∷ CLOSE_BRACE ∷ OPEN_BRACKET ∷ DOT ∷ IRIREF ∷ PNAME_NS ∷ PNAME_LN ∷ BLANK ∷ VAR ∷ STRING ∷ INTEGER ∷ DECIMAL ∷ TRUE ∷ FALSE ∷ OPTIONAL ∷ GRAPH ∷ FILTER ∷ MINUS ∷ BIND ∷ VALUES ∷ []; level = 3 }
    ∷ record { empty = false; begin = VAR ∷ []; follow = OPEN_BRACE ∷ CLOSE_BRACE ∷ OPEN_BRACKET ∷ DOT ∷ IRIREF ∷ PNAME_NS ∷ PNAME_LN ∷ BLANK ∷ VAR ∷ STRING ∷ INTEGER ∷ DECIMAL ∷ TRUE ∷ FALSE ∷ OPTIONAL ∷ GRAPH ∷ FILTER ∷ MINUS ∷ BIND ∷ VALUES ∷ []; level = 4 }
    ∷ record { empty = false; begin = OPEN ∷ []; follow = CLOSE_BRACE ∷ OPEN ∷ []; level = 3 }
    ∷ record { empty = false; begin = CLOSE ∷ IRIREF ∷ PNAME_NS ∷ PNAME_LN ∷ STRING ∷ INTEGER ∷ DECIMAL ∷ TRUE ∷ FALSE ∷ UNDEF ∷ []; follow = CLOSE_BRACE ∷ OPEN ∷ []; level = 2 }
    ∷ record { empty = true; begin = OPEN ∷ []; follow = CLOSE_BRACE ∷ []; level = 1 }
    ∷ record { empty = false; begin = CLOSE_BRACE ∷ OPEN ∷ []; follow = OPEN_BRACE ∷ CLOSE_BRACE ∷ OPEN_BRACKET ∷ DOT ∷ IRIREF ∷ PNAME_NS ∷ PNAME_LN ∷ BLANK ∷ VAR ∷ STRING ∷ INTEGER ∷ DECIMAL ∷ TRUE ∷ FALSE ∷ OPTIONAL ∷ GRAPH ∷ FILTER ∷ MINUS ∷ BIND ∷ VALUES ∷ []; level = 2 }
    ∷ record { empty = false; begin = OPEN_BRACE ∷ []; follow = OPEN_BRACE ∷ CLOSE_BRACE ∷ OPEN_BRACKET ∷ DOT ∷ IRIREF ∷ PNAME_NS ∷ PNAME_LN ∷ BLANK ∷ VAR ∷ STRING ∷ INTEGER ∷ DECIMAL ∷ TRUE ∷ FALSE ∷ OPTIONAL ∷ GRAPH ∷ FILTER ∷ MINUS ∷ BIND ∷ VALUES ∷ []; level = 3 }
    ∷ record { empty = false; begin = CLOSE ∷ []; follow = OPEN_BRACE ∷ CLOSE_BRACE ∷ OPEN_BRACKET ∷ DOT ∷ IRIREF ∷ PNAME_NS ∷ PNAME_LN ∷ BLANK ∷ VAR ∷ STRING ∷ INTEGER ∷ DECIMAL ∷ TRUE ∷ FALSE ∷ OPTIONAL ∷ GRAPH ∷ FILTER ∷ MINUS ∷ BIND ∷ VALUES ∷ []; level = 4 }
    ∷ record { empty = false; begin = CLOSE ∷ VAR ∷ []; follow = OPEN_BRACE ∷ CLOSE_BRACE ∷ OPEN_BRACKET ∷ DOT ∷ IRIREF ∷ PNAME_NS ∷ PNAME_LN ∷ BLANK ∷ VAR ∷ STRING ∷ INTEGER ∷ DECIMAL ∷ TRUE ∷ FALSE ∷ OPTIONAL ∷ GRAPH ∷ FILTER ∷ MINUS ∷ BIND ∷ VALUES ∷ []; level = 5 }
    ∷ record { empty = false; begin = OPEN ∷ []; follow = OPEN_BRACE ∷ CLOSE_BRACE ∷ OPEN_BRACKET ∷ DOT ∷ IRIREF ∷ PNAME_NS ∷ PNAME_LN ∷ BLANK ∷ VAR ∷ STRING ∷ INTEGER ∷ DECIMAL ∷ TRUE ∷ FALSE ∷ OPTIONAL ∷ GRAPH ∷ FILTER ∷ MINUS ∷ BIND ∷ VALUES ∷ []; level = 6 }
    ∷ record { empty = false; begin = VALUES ∷ []; follow = OPEN_BRACE ∷ CLOSE_BRACE ∷ OPEN_BRACKET ∷ DOT ∷ IRIREF ∷ PNAME_NS ∷ PNAME_LN ∷ BLANK ∷ VAR ∷ STRING ∷ INTEGER ∷ DECIMAL ∷ TRUE ∷ FALSE ∷ OPTIONAL ∷ GRAPH ∷ FILTER ∷ MINUS ∷ BIND ∷ VALUES ∷ []; level = 6 }
    ∷ record { empty = false; begin = BIND ∷ VALUES ∷ []; follow = OPEN_BRACE ∷ CLOSE_BRACE ∷ OPEN_BRACKET ∷ DOT ∷ IRIREF ∷ PNAME_NS ∷ PNAME_LN ∷ BLANK ∷ VAR ∷ STRING ∷ INTEGER ∷ DECIMAL ∷ TRUE ∷ FALSE ∷ OPTIONAL ∷ GRAPH ∷ FILTER ∷ MINUS ∷ BIND ∷ VALUES ∷ []; level = 7 }
    ∷ record { empty = false; begin = MINUS ∷ BIND ∷ VALUES ∷ []; follow = OPEN_BRACE ∷ CLOSE_BRACE ∷ OPEN_BRACKET ∷ DOT ∷ IRIREF ∷ PNAME_NS ∷ PNAME_LN ∷ BLANK ∷ VAR ∷ STRING ∷ INTEGER ∷ DECIMAL ∷ TRUE ∷ FALSE ∷ OPTIONAL ∷ GRAPH ∷ FILTER ∷ MINUS ∷ BIND ∷ VALUES ∷ []; level = 6 }
    ∷ record { empty = false; begin = OPEN_BRACE ∷ MINUS ∷ BIND ∷ VALUES ∷ []; follow = OPEN_BRACE ∷ CLOSE_BRACE ∷ OPEN_BRACKET ∷ DOT ∷ IRIREF ∷ PNAME_NS ∷ PNAME_LN ∷ BLANK ∷ VAR ∷ STRING ∷ INTEGER ∷ DECIMAL ∷ TRUE ∷ FALSE ∷ OPTIONAL ∷ GRAPH ∷ FILTER ∷ MINUS ∷ BIND ∷ VALUES ∷ []; level = 6 }
    ∷ record { empty = false; begin = OPEN_BRACE ∷ FILTER ∷ MINUS ∷ BIND ∷ VALUES ∷ []; follow = OPEN_BRACE ∷ CLOSE_BRACE ∷ OPEN_BRACKET ∷ DOT ∷ IRIREF ∷ PNAME_NS ∷ PNAME_LN ∷ BLANK ∷ VAR ∷ STRING ∷ INTEGER ∷ DECIMAL ∷ TRUE ∷ FALSE ∷ OPTIONAL ∷ GRAPH ∷ FILTER ∷ MINUS ∷ BIND ∷ VALUES ∷ []; level = 7 }
    ∷ record { empty = false; begin = OPEN_BRACE ∷ GRAPH ∷ FILTER ∷ MINUS ∷ BIND ∷ VALUES ∷ []; follow = OPEN_BRACE ∷ CLOSE_BRACE ∷ OPEN_BRACKET ∷ DOT ∷ IRIREF ∷ PNAME_NS ∷ PNAME_LN ∷ BLANK ∷ VAR ∷ STRING ∷ INTEGER ∷ DECIMAL ∷ TRUE ∷ FALSE ∷ OPTIONAL ∷ GRAPH ∷ FILTER ∷ MINUS ∷ BIND ∷ VALUES ∷ []; level = 7 }
    ∷ record { empty = true; begin = DOT ∷ []; follow = OPEN_BRACE ∷ CLOSE_BRACE ∷ OPEN_BRACKET ∷ IRIREF ∷ PNAME_NS ∷ PNAME_LN ∷ BLANK ∷ VAR ∷ STRING ∷ INTEGER ∷ DECIMAL ∷ TRUE ∷ FALSE ∷ OPTIONAL ∷ GRAPH ∷ FILTER ∷ MINUS ∷ BIND ∷ VALUES ∷ []; level = 1 }
    ∷ record { empty = true; begin = OPEN_BRACKET ∷ DOT ∷ IRIREF ∷ PNAME_NS ∷ PNAME_LN ∷ BLANK ∷ VAR ∷ STRING ∷ INTEGER ∷ DECIMAL ∷ TRUE ∷ FALSE ∷ []; follow = OPEN_BRACE ∷ CLOSE_BRACE ∷ OPTIONAL ∷ GRAPH ∷ FILTER ∷ MINUS ∷ BIND ∷ VALUES ∷ []; level = 2 }
    ∷ record { empty = false; begin = OPEN_BRACE ∷ OPTIONAL ∷ GRAPH ∷ FILTER ∷ MINUS ∷ BIND ∷ VALUES ∷ []; follow = OPEN_BRACE ∷ CLOSE_BRACE ∷ OPTIONAL ∷ GRAPH ∷ FILTER ∷ MINUS ∷ BIND ∷ VALUES ∷ []; level = 7 }
    ∷ record { empty = true; begin = OPEN_BRACE ∷ OPTIONAL ∷ GRAPH ∷ FILTER ∷ MINUS ∷ BIND ∷ VALUES ∷ []; follow = CLOSE_BRACE ∷ []; level = 1 }
    ∷ record { empty = false; begin = OPEN_BRACE ∷ CLOSE_BRACE ∷ OPTIONAL ∷ GRAPH ∷ FILTER ∷ MINUS ∷ BIND ∷ VALUES ∷ []; follow = OPEN_BRACE ∷ CLOSE_BRACE ∷ OPEN_BRACKET ∷ DOT ∷ IRIREF ∷ PNAME_NS ∷ PNAME_LN ∷ BLANK ∷ VAR ∷ STRING ∷ INTEGER ∷ DECIMAL ∷ TRUE ∷ FALSE ∷ OPTIONAL ∷ GRAPH ∷ FILTER ∷ UNION ∷ MINUS ∷ BIND ∷ VALUES ∷ ORDER ∷ LIMIT ∷ OFFSET ∷ []; level = 2 }
    ∷ record { empty = false; begin = OPEN_BRACE ∷ CLOSE_BRACE ∷ OPEN_BRACKET ∷ IRIREF ∷ PNAME_NS ∷ PNAME_LN ∷ BLANK ∷ VAR ∷ STRING ∷ INTEGER ∷ DECIMAL ∷ TRUE ∷ FALSE ∷ OPTIONAL ∷ GRAPH ∷ FILTER ∷ MINUS ∷ BIND ∷ VALUES ∷ []; follow = OPEN_BRACE ∷ CLOSE_BRACE ∷ OPEN_BRACKET ∷ DOT ∷ IRIREF ∷ PNAME_NS ∷ PNAME_LN ∷ BLANK ∷ VAR ∷ STRING ∷ INTEGER ∷ DECIMAL ∷ TRUE ∷ FALSE ∷ OPTIONAL ∷ GRAPH ∷ FILTER ∷ UNION ∷ MINUS ∷ BIND ∷ VALUES ∷ ORDER ∷ LIMIT ∷ OFFSET ∷ []; level = 3 }
    ∷ record { empty = false; begin = ORDER ∷ []; follow = LIMIT ∷ OFFSET ∷ []; level = 5 }
    ∷ record { empty = false; begin = ORDER ∷ []; follow = BY ∷ []; level = 1 }
    ∷ record { empty = false; begin = BY ∷ []; follow = OPEN ∷ VAR ∷ BOUND ∷ SAMETERM ∷ ISIRI ∷ ISURI ∷ ISBLANK ∷ ISLITERAL ∷ ISNUMERIC ∷ STR ∷ LANG ∷ DATATYPE ∷ STRLEN ∷ STRSTARTS ∷ STRENDS ∷ CONTAINS ∷ ASC ∷ DESC ∷ []; level = 1 }
    ∷ record { empty = false; begin = OPEN ∷ VAR ∷ BOUND ∷ SAMETERM ∷ ISIRI ∷ ISURI ∷ ISBLANK ∷ ISLITERAL ∷ ISNUMERIC ∷ STR ∷ LANG ∷ DATATYPE ∷ STRLEN ∷ STRSTARTS ∷ STRENDS ∷ CONTAINS ∷ ASC ∷ DESC ∷ []; follow = OPEN ∷ VAR ∷ BOUND ∷ SAMETERM ∷ ISIRI ∷ ISURI ∷ ISBLANK ∷ ISLITERAL ∷ ISNUMERIC ∷ STR ∷ LANG ∷ DATATYPE ∷ STRLEN ∷ STRSTARTS ∷ STRENDS ∷ CONTAINS ∷ LIMIT ∷ OFFSET ∷ ASC ∷ DESC ∷ []; level = 2 }
    ∷ record { empty = false; begin = ASC ∷ DESC ∷ []; follow = OPEN ∷ []; level = 2 }
    ∷ record { empty = false; begin = ASC ∷ []; follow = OPEN ∷ []; level = 1 }
    ∷ record { empty = false; begin = DESC ∷ []; follow = OPEN ∷ []; level = 1 }
    ∷ record { empty = false; begin = ASC ∷ DESC ∷ []; follow = OPEN ∷ VAR ∷ BOUND ∷ SAMETERM ∷ ISIRI ∷ ISURI ∷ ISBLANK ∷ ISLITERAL ∷ ISNUMERIC ∷ STR ∷ LANG ∷ DATATYPE ∷ STRLEN ∷ STRSTARTS ∷ STRENDS ∷ CONTAINS ∷ LIMIT ∷ OFFSET ∷ ASC ∷ DESC ∷ []; level = 11 }
    ∷ record { empty = false; begin = OPEN ∷ ASC ∷ DESC ∷ []; follow = OPEN ∷ VAR ∷ BOUND ∷ SAMETERM ∷ ISIRI ∷ ISURI ∷ ISBLANK ∷ ISLITERAL ∷ ISNUMERIC ∷ STR ∷ LANG ∷ DATATYPE ∷ STRLEN ∷ STRSTARTS ∷ STRENDS ∷ CONTAINS ∷ LIMIT ∷ OFFSET ∷ ASC ∷ DESC ∷ []; level = 11 }
    ∷ record { empty = false; begin = OPEN ∷ BOUND ∷ SAMETERM ∷ ISIRI ∷ ISURI ∷ ISBLANK ∷ ISLITERAL ∷ ISNUMERIC ∷ STR ∷ LANG ∷ DATATYPE ∷ STRLEN ∷ STRSTARTS ∷ STRENDS ∷ CONTAINS ∷ ASC ∷ DESC ∷ []; follow = OPEN ∷ VAR ∷ BOUND ∷ SAMETERM ∷ ISIRI ∷ ISURI ∷ ISBLANK ∷ ISLITERAL ∷ ISNUMERIC ∷ STR ∷ LANG ∷ DATATYPE ∷ STRLEN ∷ STRSTARTS ∷ STRENDS ∷ CONTAINS ∷ LIMIT ∷ OFFSET ∷ ASC ∷ DESC ∷ []; level = 6 }
    ∷ record { empty = true; begin = OPEN ∷ VAR ∷ BOUND ∷ SAMETERM ∷ ISIRI ∷ ISURI ∷ ISBLANK ∷ ISLITERAL ∷ ISNUMERIC ∷ STR ∷ LANG ∷ DATATYPE ∷ STRLEN ∷ STRSTARTS ∷ STRENDS ∷ CONTAINS ∷ ASC ∷ DESC ∷ []; follow = LIMIT ∷ OFFSET ∷ []; level = 1 }
    ∷ record { empty = false; begin = OPEN ∷ VAR ∷ BOUND ∷ SAMETERM ∷ ISIRI ∷ ISURI ∷ ISBLANK ∷ ISLITERAL ∷ ISNUMERIC ∷ STR ∷ LANG ∷ DATATYPE ∷ STRLEN ∷ STRSTARTS ∷ STRENDS ∷ CONTAINS ∷ ASC ∷ DESC ∷ []; follow = LIMIT ∷ OFFSET ∷ []; level = 3 }
    ∷ record { empty = false; begin = BY ∷ []; follow = LIMIT ∷ OFFSET ∷ []; level = 4 }
    ∷ record { empty = true; begin = ORDER ∷ []; follow = LIMIT ∷ OFFSET ∷ []; level = 1 }
    ∷ record { empty = false; begin = LIMIT ∷ OFFSET ∷ []; follow = []; level = 4 }
    ∷ record { empty = false; begin = LIMIT ∷ []; follow = INTEGER ∷ []; level = 1 }
    ∷ record { empty = false; begin = OFFSET ∷ []; follow = INTEGER ∷ []; level = 1 }
    ∷ record { empty = false; begin = OFFSET ∷ []; follow = []; level = 2 }
    ∷ record { empty = true; begin = OFFSET ∷ []; follow = []; level = 1 }
    ∷ record { empty = false; begin = INTEGER ∷ []; follow = []; level = 2 }
    ∷ record { empty = false; begin = LIMIT ∷ []; follow = []; level = 3 }
    ∷ record { empty = false; begin = LIMIT ∷ []; follow = []; level = 2 }
    ∷ record { empty = true; begin = LIMIT ∷ []; follow = []; level = 1 }
    ∷ record { empty = false; begin = INTEGER ∷ []; follow = []; level = 2 }
    ∷ record { empty = false; begin = OFFSET ∷ []; follow = []; level = 3 }
    ∷ record { empty = true; begin = LIMIT ∷ OFFSET ∷ []; follow = []; level = 1 }
    ∷ record { empty = true; begin = ORDER ∷ LIMIT ∷ OFFSET ∷ []; follow = []; level = 2 }
    ∷ record { empty = false; begin = OPEN_BRACE ∷ []; follow = []; level = 5 }
    ∷ record { empty = false; begin = STAR ∷ VAR ∷ []; follow = []; level = 7 }
    ∷ record { empty = false; begin = STAR ∷ VAR ∷ DISTINCT ∷ REDUCED ∷ []; follow = []; level = 8 }
    ∷ record { empty = false; begin = SELECT ∷ []; follow = []; level = 9 }
    ∷ record { empty = false; begin = ASK ∷ []; follow = OPEN_BRACE ∷ WHERE ∷ []; level = 1 }
    ∷ record { empty = false; begin = OPEN_BRACE ∷ WHERE ∷ []; follow = []; level = 5 }
    ∷ record { empty = false; begin = ASK ∷ []; follow = []; level = 6 }
    ∷ record { empty = false; begin = CONSTRUCT ∷ []; follow = OPEN_BRACE ∷ []; level = 1 }
    ∷ record { empty = false; begin = CLOSE_BRACE ∷ []; follow = []; level = 7 }
    ∷ record { empty = false; begin = CLOSE_BRACE ∷ OPEN_BRACKET ∷ IRIREF ∷ PNAME_NS ∷ PNAME_LN ∷ BLANK ∷ VAR ∷ STRING ∷ INTEGER ∷ DECIMAL ∷ TRUE ∷ FALSE ∷ []; follow = []; level = 8 }
    ∷ record { empty = false; begin = OPEN_BRACE ∷ []; follow = []; level = 9 }
    ∷ record { empty = false; begin = CONSTRUCT ∷ []; follow = []; level = 10 }
    ∷ record { empty = false; begin = ASK ∷ CONSTRUCT ∷ []; follow = []; level = 7 }
    ∷ []

pub sparql_form : IsWellFormed SPARQL KIND_COUNT
sparql_form = record { grammar = is_grammar SPARQL claims (lit< tt) refl; has_kinds = has_kinds KIND_COUNT SPARQL refl; small = lit< tt }

pub sparql_ll1 : IsLL1 SPARQL
sparql_ll1 = passes_ll1 SPARQL claims (lit< tt) refl refl refl
