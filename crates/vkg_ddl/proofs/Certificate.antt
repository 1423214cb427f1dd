-- That the grammar of the DDL is LL(1), by what begins and follows each symbol.
use Rattle.std.proofs.Common.{◌∷◌, List, [], true, false, refl, lit<}
use Rattle.vkg_grammar.specs.Certified.{Claim}
use Rattle.vkg_grammar.specs.Form.{IsWellFormed}
use Rattle.vkg_grammar.specs.Grammar.{IsLL1}
use Rattle.vkg_grammar.proofs.Certifying.{passes_ll1, is_grammar, has_kinds}
use Rattle.vkg_tokens.specs.declared.ddl_kinds.TheConstants.{CREATE, TABLE, OPEN, COMMA, CLOSE, SEMICOLON, WORD, INT, CONSTRAINT, NOT, NULL, PRIMARY, KEY, UNIQUE, REFERENCES, FOREIGN, DELIMITED, KIND_COUNT}
use Rattle.vkg_ddl.specs.declared.grammar_table.TheConstants.{DDL}

abbrev claims : List Claim
claims =
    record { empty = true; begin = CREATE ∷ []; follow = []; level = 1 }
    ∷ record { empty = false; begin = CREATE ∷ []; follow = TABLE ∷ []; level = 1 }
    ∷ record { empty = false; begin = TABLE ∷ []; follow = WORD ∷ DELIMITED ∷ []; level = 1 }
    ∷ record { empty = false; begin = WORD ∷ DELIMITED ∷ []; follow = OPEN ∷ []; level = 2 }
    ∷ record { empty = false; begin = WORD ∷ []; follow = OPEN ∷ []; level = 1 }
    ∷ record { empty = false; begin = DELIMITED ∷ []; follow = OPEN ∷ []; level = 1 }
    ∷ record { empty = false; begin = OPEN ∷ []; follow = WORD ∷ INT ∷ CONSTRAINT ∷ PRIMARY ∷ UNIQUE ∷ FOREIGN ∷ DELIMITED ∷ []; level = 1 }
    ∷ record { empty = false; begin = WORD ∷ CONSTRAINT ∷ PRIMARY ∷ UNIQUE ∷ FOREIGN ∷ DELIMITED ∷ []; follow = COMMA ∷ CLOSE ∷ []; level = 5 }
    ∷ record { empty = false; begin = WORD ∷ DELIMITED ∷ []; follow = WORD ∷ []; level = 2 }
    ∷ record { empty = false; begin = WORD ∷ []; follow = WORD ∷ []; level = 1 }
    ∷ record { empty = false; begin = DELIMITED ∷ []; follow = WORD ∷ []; level = 1 }
    ∷ record { empty = false; begin = WORD ∷ []; follow = OPEN ∷ COMMA ∷ CLOSE ∷ NOT ∷ PRIMARY ∷ UNIQUE ∷ REFERENCES ∷ []; level = 1 }
    ∷ record { empty = false; begin = INT ∷ []; follow = COMMA ∷ CLOSE ∷ []; level = 1 }
    ∷ record { empty = false; begin = COMMA ∷ []; follow = WORD ∷ INT ∷ CONSTRAINT ∷ PRIMARY ∷ UNIQUE ∷ FOREIGN ∷ DELIMITED ∷ []; level = 1 }
    ∷ record { empty = false; begin = COMMA ∷ []; follow = CLOSE ∷ []; level = 2 }
    ∷ record { empty = true; begin = COMMA ∷ []; follow = CLOSE ∷ []; level = 1 }
    ∷ record { empty = false; begin = CLOSE ∷ []; follow = COMMA ∷ CLOSE ∷ SEMICOLON ∷ NOT ∷ PRIMARY ∷ UNIQUE ∷ REFERENCES ∷ []; level = 1 }
    ∷ record { empty = false; begin = COMMA ∷ CLOSE ∷ []; follow = COMMA ∷ CLOSE ∷ NOT ∷ PRIMARY ∷ UNIQUE ∷ REFERENCES ∷ []; level = 2 }
    ∷ record { empty = false; begin = INT ∷ []; follow = COMMA ∷ CLOSE ∷ NOT ∷ PRIMARY ∷ UNIQUE ∷ REFERENCES ∷ []; level = 3 }
    ∷ record { empty = false; begin = OPEN ∷ []; follow = COMMA ∷ CLOSE ∷ NOT ∷ PRIMARY ∷ UNIQUE ∷ REFERENCES ∷ []; level = 4 }
    ∷ record { empty = true; begin = OPEN ∷ []; follow = COMMA ∷ CLOSE ∷ NOT ∷ PRIMARY ∷ UNIQUE ∷ REFERENCES ∷ []; level = 1 }
    ∷ record { empty = false; begin = NOT ∷ PRIMARY ∷ UNIQUE ∷ REFERENCES ∷ []; follow = COMMA ∷ CLOSE ∷ NOT ∷ PRIMARY ∷ UNIQUE ∷ REFERENCES ∷ []; level = 3 }
    ∷ record { empty = false; begin = NOT ∷ []; follow = NULL ∷ []; level = 1 }
    ∷ record { empty = false; begin = NULL ∷ []; follow = COMMA ∷ CLOSE ∷ NOT ∷ PRIMARY ∷ UNIQUE ∷ REFERENCES ∷ []; level = 1 }
    ∷ record { empty = false; begin = NOT ∷ []; follow = COMMA ∷ CLOSE ∷ NOT ∷ PRIMARY ∷ UNIQUE ∷ REFERENCES ∷ []; level = 2 }
    ∷ record { empty = false; begin = PRIMARY ∷ []; follow = KEY ∷ []; level = 1 }
    ∷ record { empty = false; begin = KEY ∷ []; follow = OPEN ∷ COMMA ∷ CLOSE ∷ NOT ∷ PRIMARY ∷ UNIQUE ∷ REFERENCES ∷ []; level = 1 }
    ∷ record { empty = false; begin = PRIMARY ∷ []; follow = COMMA ∷ CLOSE ∷ NOT ∷ PRIMARY ∷ UNIQUE ∷ REFERENCES ∷ []; level = 2 }
    ∷ record { empty = false; begin = UNIQUE ∷ []; follow = COMMA ∷ CLOSE ∷ NOT ∷ PRIMARY ∷ UNIQUE ∷ REFERENCES ∷ []; level = 1 }
    ∷ record { empty = false; begin = REFERENCES ∷ []; follow = WORD ∷ DELIMITED ∷ []; level = 1 }
    ∷ record { empty = false; begin = WORD ∷ DELIMITED ∷ []; follow = OPEN ∷ COMMA ∷ CLOSE ∷ NOT ∷ PRIMARY ∷ UNIQUE ∷ REFERENCES ∷ []; level = 2 }
    ∷ record { empty = false; begin = WORD ∷ []; follow = OPEN ∷ COMMA ∷ CLOSE ∷ NOT ∷ PRIMARY ∷ UNIQUE ∷ REFERENCES ∷ []; level = 1 }
    ∷ record { empty = false; begin = DELIMITED ∷ []; follow = OPEN ∷ COMMA ∷ CLOSE ∷ NOT ∷ PRIMARY ∷ UNIQUE ∷ REFERENCES ∷ []; level = 1 }
    ∷ record { empty = false; begin = WORD ∷ DELIMITED ∷ []; follow = COMMA ∷ CLOSE ∷ []; level = 2 }
    ∷ record { empty = false; begin = WORD ∷ []; follow = COMMA ∷ CLOSE ∷ []; level = 1 }
    ∷ record { empty = false; begin = DELIMITED ∷ []; follow = COMMA ∷ CLOSE ∷ []; level = 1 }
    ∷ record { empty = false; begin = WORD ∷ DELIMITED ∷ []; follow = COMMA ∷ CLOSE ∷ NOT ∷ PRIMARY ∷ UNIQUE ∷ REFERENCES ∷ []; level = 3 }
    ∷ record { empty = false; begin = OPEN ∷ []; follow = COMMA ∷ CLOSE ∷ NOT ∷ PRIMARY ∷ UNIQUE ∷ REFERENCES ∷ []; level = 4 }
    ∷ record { empty = true; begin = OPEN ∷ []; follow = COMMA ∷ CLOSE ∷ NOT ∷ PRIMARY ∷ UNIQUE ∷ REFERENCES ∷ []; level = 1 }
    ∷ record { empty = false; begin = WORD ∷ DELIMITED ∷ []; follow = COMMA ∷ CLOSE ∷ NOT ∷ PRIMARY ∷ UNIQUE ∷ REFERENCES ∷ []; level = 3 }
    ∷ record { empty = false; begin = REFERENCES ∷ []; follow = COMMA ∷ CLOSE ∷ NOT ∷ PRIMARY ∷ UNIQUE ∷ REFERENCES ∷ []; level = 4 }
    ∷ record { empty = false; begin = UNIQUE ∷ REFERENCES ∷ []; follow = COMMA ∷ CLOSE ∷ NOT ∷ PRIMARY ∷ UNIQUE ∷ REFERENCES ∷ []; level = 2 }
    ∷ record { empty = false; begin = PRIMARY ∷ UNIQUE ∷ REFERENCES ∷ []; follow = COMMA ∷ CLOSE ∷ NOT ∷ PRIMARY ∷ UNIQUE ∷ REFERENCES ∷ []; level = 3 }
    ∷ record { empty = true; begin = NOT ∷ PRIMARY ∷ UNIQUE ∷ REFERENCES ∷ []; follow = COMMA ∷ CLOSE ∷ []; level = 1 }
    ∷ record { empty = true; begin = OPEN ∷ NOT ∷ PRIMARY ∷ UNIQUE ∷ REFERENCES ∷ []; follow = COMMA ∷ CLOSE ∷ []; level = 2 }
    ∷ record { empty = false; begin = WORD ∷ []; follow = COMMA ∷ CLOSE ∷ []; level = 3 }
    ∷ record { empty = false; begin = WORD ∷ DELIMITED ∷ []; follow = COMMA ∷ CLOSE ∷ []; level = 4 }
    ∷ record { empty = false; begin = CONSTRAINT ∷ []; follow = WORD ∷ DELIMITED ∷ []; level = 1 }
    ∷ record { empty = false; begin = WORD ∷ DELIMITED ∷ []; follow = PRIMARY ∷ UNIQUE ∷ FOREIGN ∷ []; level = 2 }
    ∷ record { empty = false; begin = WORD ∷ []; follow = PRIMARY ∷ UNIQUE ∷ FOREIGN ∷ []; level = 1 }
    ∷ record { empty = false; begin = DELIMITED ∷ []; follow = PRIMARY ∷ UNIQUE ∷ FOREIGN ∷ []; level = 1 }
    ∷ record { empty = false; begin = CONSTRAINT ∷ []; follow = PRIMARY ∷ UNIQUE ∷ FOREIGN ∷ []; level = 3 }
    ∷ record { empty = true; begin = CONSTRAINT ∷ []; follow = PRIMARY ∷ UNIQUE ∷ FOREIGN ∷ []; level = 1 }
    ∷ record { empty = false; begin = PRIMARY ∷ UNIQUE ∷ FOREIGN ∷ []; follow = COMMA ∷ CLOSE ∷ []; level = 7 }
    ∷ record { empty = false; begin = PRIMARY ∷ []; follow = KEY ∷ []; level = 1 }
    ∷ record { empty = false; begin = OPEN ∷ []; follow = COMMA ∷ CLOSE ∷ []; level = 4 }
    ∷ record { empty = false; begin = WORD ∷ DELIMITED ∷ []; follow = COMMA ∷ CLOSE ∷ []; level = 2 }
    ∷ record { empty = false; begin = WORD ∷ []; follow = COMMA ∷ CLOSE ∷ []; level = 1 }
    ∷ record { empty = false; begin = DELIMITED ∷ []; follow = COMMA ∷ CLOSE ∷ []; level = 1 }
    ∷ record { empty = false; begin = WORD ∷ DELIMITED ∷ []; follow = COMMA ∷ CLOSE ∷ []; level = 2 }
    ∷ record { empty = false; begin = WORD ∷ []; follow = COMMA ∷ CLOSE ∷ []; level = 1 }
    ∷ record { empty = false; begin = DELIMITED ∷ []; follow = COMMA ∷ CLOSE ∷ []; level = 1 }
    ∷ record { empty = false; begin = COMMA ∷ []; follow = COMMA ∷ CLOSE ∷ []; level = 3 }
    ∷ record { empty = true; begin = COMMA ∷ []; follow = CLOSE ∷ []; level = 1 }
    ∷ record { empty = false; begin = COMMA ∷ CLOSE ∷ []; follow = COMMA ∷ CLOSE ∷ []; level = 2 }
    ∷ record { empty = false; begin = WORD ∷ DELIMITED ∷ []; follow = COMMA ∷ CLOSE ∷ []; level = 3 }
    ∷ record { empty = false; begin = KEY ∷ []; follow = COMMA ∷ CLOSE ∷ []; level = 5 }
    ∷ record { empty = false; begin = PRIMARY ∷ []; follow = COMMA ∷ CLOSE ∷ []; level = 6 }
    ∷ record { empty = false; begin = UNIQUE ∷ []; follow = OPEN ∷ []; level = 1 }
    ∷ record { empty = false; begin = UNIQUE ∷ []; follow = COMMA ∷ CLOSE ∷ []; level = 5 }
    ∷ record { empty = false; begin = FOREIGN ∷ []; follow = KEY ∷ []; level = 1 }
    ∷ record { empty = false; begin = OPEN ∷ []; follow = REFERENCES ∷ []; level = 4 }
    ∷ record { empty = false; begin = WORD ∷ DELIMITED ∷ []; follow = COMMA ∷ CLOSE ∷ []; level = 2 }
    ∷ record { empty = false; begin = WORD ∷ []; follow = COMMA ∷ CLOSE ∷ []; level = 1 }
    ∷ record { empty = false; begin = DELIMITED ∷ []; follow = COMMA ∷ CLOSE ∷ []; level = 1 }
    ∷ record { empty = false; begin = COMMA ∷ []; follow = COMMA ∷ CLOSE ∷ []; level = 3 }
    ∷ record { empty = true; begin = COMMA ∷ []; follow = CLOSE ∷ []; level = 1 }
    ∷ record { empty = false; begin = COMMA ∷ CLOSE ∷ []; follow = REFERENCES ∷ []; level = 2 }
    ∷ record { empty = false; begin = WORD ∷ DELIMITED ∷ []; follow = REFERENCES ∷ []; level = 3 }
    ∷ record { empty = false; begin = REFERENCES ∷ []; follow = WORD ∷ DELIMITED ∷ []; level = 1 }
    ∷ record { empty = false; begin = OPEN ∷ []; follow = COMMA ∷ CLOSE ∷ []; level = 4 }
    ∷ record { empty = false; begin = COMMA ∷ []; follow = COMMA ∷ CLOSE ∷ []; level = 3 }
    ∷ record { empty = true; begin = COMMA ∷ []; follow = CLOSE ∷ []; level = 1 }
    ∷ record { empty = false; begin = COMMA ∷ CLOSE ∷ []; follow = COMMA ∷ CLOSE ∷ []; level = 2 }
    ∷ record { empty = false; begin = WORD ∷ DELIMITED ∷ []; follow = COMMA ∷ CLOSE ∷ []; level = 3 }
    ∷ record { empty = true; begin = OPEN ∷ []; follow = COMMA ∷ CLOSE ∷ []; level = 1 }
    ∷ record { empty = false; begin = WORD ∷ DELIMITED ∷ []; follow = COMMA ∷ CLOSE ∷ []; level = 3 }
    ∷ record { empty = false; begin = REFERENCES ∷ []; follow = COMMA ∷ CLOSE ∷ []; level = 4 }
    ∷ record { empty = false; begin = OPEN ∷ []; follow = COMMA ∷ CLOSE ∷ []; level = 5 }
    ∷ record { empty = false; begin = KEY ∷ []; follow = COMMA ∷ CLOSE ∷ []; level = 6 }
    ∷ record { empty = false; begin = FOREIGN ∷ []; follow = COMMA ∷ CLOSE ∷ []; level = 7 }
    ∷ record { empty = false; begin = UNIQUE ∷ FOREIGN ∷ []; follow = COMMA ∷ CLOSE ∷ []; level = 6 }
    ∷ record { empty = false; begin = CONSTRAINT ∷ PRIMARY ∷ UNIQUE ∷ FOREIGN ∷ []; follow = COMMA ∷ CLOSE ∷ []; level = 8 }
    ∷ record { empty = false; begin = COMMA ∷ []; follow = COMMA ∷ CLOSE ∷ []; level = 6 }
    ∷ record { empty = true; begin = COMMA ∷ []; follow = CLOSE ∷ []; level = 1 }
    ∷ record { empty = false; begin = SEMICOLON ∷ []; follow = CREATE ∷ []; level = 1 }
    ∷ record { empty = false; begin = CLOSE ∷ []; follow = CREATE ∷ []; level = 2 }
    ∷ record { empty = false; begin = COMMA ∷ CLOSE ∷ []; follow = CREATE ∷ []; level = 3 }
    ∷ record { empty = false; begin = WORD ∷ CONSTRAINT ∷ PRIMARY ∷ UNIQUE ∷ FOREIGN ∷ DELIMITED ∷ []; follow = CREATE ∷ []; level = 6 }
    ∷ record { empty = false; begin = OPEN ∷ []; follow = CREATE ∷ []; level = 7 }
    ∷ record { empty = false; begin = WORD ∷ DELIMITED ∷ []; follow = CREATE ∷ []; level = 8 }
    ∷ record { empty = false; begin = TABLE ∷ []; follow = CREATE ∷ []; level = 9 }
    ∷ record { empty = false; begin = CREATE ∷ []; follow = CREATE ∷ []; level = 10 }
    ∷ []

pub ddl_form : IsWellFormed DDL KIND_COUNT
ddl_form = record { grammar = is_grammar DDL claims (lit< tt) refl; has_kinds = has_kinds KIND_COUNT DDL refl; small = lit< tt }

pub ddl_ll1 : IsLL1 DDL
ddl_ll1 = passes_ll1 DDL claims (lit< tt) refl refl refl
