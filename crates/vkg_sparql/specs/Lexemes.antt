-- What the tokens of a query say by themselves, and how its variables and blank nodes are numbered.
use Rattle.std.specs.Prelude.{ℕ, Bool, ◌||◌, ◌&&◌, List, [], ◌∷◌, ◌++◌, codes, decimal, fold, length, map, nat_lt, position, unwrap_or, Option, Some, None, if◌then◌else◌, ◌==◌}
use Rattle.std.specs.List.{list_any}
use Rattle.std.specs.Str.{bytes_eq}
use Rattle.vkg_tokens.specs.declared.cutting.Token.{Token}
use Rattle.vkg_tokens.specs.declared.sparql_kinds.TheConstants.{CLOSE_BRACE, OPEN_BRACKET, IRIREF, PNAME_NS, PNAME_LN, BLANK, VAR, STRING, LANGTAG, INTEGER, DECIMAL, IS_A, TRUE, FALSE, CONSTRUCT}
use Rattle.vkg_tokens.specs.declared.turtle_kinds.TheConstants as turtle
use Rattle.vkg_turtle.specs.declared.lexeme.Word.{Word}
use Rattle.vkg_turtle.specs.declared.lexeme.Word.TheVariants.{Label}
use Rattle.vkg_turtle.specs.Words.{between, word_of}
use Rattle.vkg_sparql.specs.declared.lexeme.Lexeme.{Lexeme}
use Rattle.vkg_sparql.specs.declared.names.Named.{Named}

-- the same kind of token in Turtle (19.8 of SPARQL 1.1 and 6.5 of RDF 1.1 Turtle have the same forms; a sign belongs to
-- its number, and `\u` is read within its token, as by 6.4 of Turtle, not before the grammar, as by 19.2 of SPARQL), or a sign
abbrev pub turtle_kind : ℕ → ℕ
turtle_kind kind =
    if kind == IRIREF then turtle.IRIREF
    else if kind == PNAME_NS then turtle.PNAME_NS
    else if kind == PNAME_LN then turtle.PNAME_LN
    else if kind == BLANK then turtle.BLANK
    else if kind == STRING then turtle.STRING
    else if kind == LANGTAG then turtle.LANGTAG
    else if kind == INTEGER then turtle.INTEGER
    else if kind == DECIMAL then turtle.DECIMAL
    else if kind == IS_A then turtle.IS_A
    else if (kind == TRUE) || (kind == FALSE) then turtle.TRUE
    else turtle.DOT

-- a variable is kept as its name's bytes, without `?` or `$`
abbrev pub variable_or : ℕ → List ℕ → Word → Word
variable_or kind token word = if kind == VAR then Label (between token 1 (length token)) else word

-- SPARQL 1.1, 16.2.1: a label of a template is none of the pattern; it is kept with its `_:`, as none of the pattern's is
abbrev pub label_or : Bool → ℕ → List ℕ → Word → Word
label_or is_template kind token word = if is_template && (kind == BLANK) then Label token else word

abbrev pub lexeme_word : Bool → ℕ → List ℕ → Word
lexeme_word is_template kind token = label_or is_template kind token (variable_or kind token (word_of (turtle_kind kind) token))

-- of a text whose template ends at this place
abbrev pub lexeme_of : List ℕ → ℕ → Token → Lexeme
lexeme_of text end t = record { kind = t.kind; at = t.start; word = lexeme_word (nat_lt t.start end) t.kind (between text t.start t.end) }

-- 19.8, [73]: the place of the first brace that closes
abbrev pub first_close : List Token → ℕ
first_close [] = 0
first_close (t ∷ ts) = if t.kind == CLOSE_BRACE then t.start else first_close ts

-- the place of the brace that ends the template of a CONSTRUCT; 0 where there is none
abbrev pub template_end : List Token → ℕ
template_end [] = 0
template_end (t ∷ ts) = if t.kind == CONSTRUCT then first_close ts else template_end ts

abbrev pub lexemes_of : List ℕ → List Token → List Lexeme
lexemes_of text ts = map (lexeme_of text (template_end ts)) ts

-- variables with `?` before their names, labels with `_:`, and each `[` by its place are told apart
abbrev pub label_key : ℕ → Word → Option (List ℕ)
label_key kind (Label name) = if kind == VAR then Some (codes "?" ++ name) else Some (codes "_:" ++ name)
label_key kind word = None

abbrev pub key_of : Lexeme → Option (List ℕ)
key_of x = if x.kind == OPEN_BRACKET then Some (codes "[" ++ decimal x.at) else label_key x.kind x.word

-- the name of a variable or a label; that of a `[` is empty
abbrev pub name_of : Word → List ℕ
name_of (Label name) = name
name_of word = []

-- own: no more than 256 variables and blank nodes; the place of the next one is kept
abbrev pub place_of_more : Named → ℕ → Option ℕ
place_of_more named at = if length named.keys == 256 then Some at else named.over

abbrev pub with_new_key : Named → List ℕ → Lexeme → Named
with_new_key named key x = record { keys = named.keys ++ key ∷ []; names = named.names ++ name_of x.word ∷ []; over = place_of_more named x.at }

abbrev pub with_key : Named → Option (List ℕ) → Lexeme → Named
with_key named None x = named
with_key named (Some key) x = if list_any (bytes_eq key) named.keys then named else with_new_key named key x

abbrev pub no_names : Named
no_names = record { keys = []; names = []; over = None }

-- the variables and blank nodes, each where it first stands
abbrev pub named_of : List Lexeme → Named
named_of xs = fold (λ named x. with_key named (key_of x) x) no_names xs

-- the number of what a lexeme names
abbrev pub number_in : List (List ℕ) → Option (List ℕ) → ℕ
number_in keys None = 0
number_in keys (Some key) = unwrap_or (position (bytes_eq key) keys) 0
