-- What each token of a document says.
use Rattle.std.specs.Prelude.{ℕ, ◌-◌, Bool, ◌&&◌, ◌||◌, List, [], codes, length, map, get_or, take, drop, if◌then◌else◌, ◌==◌, nat_lt, nat_le, nat_eq}
use Rattle.std.specs.List.{before_first, after_first, starts_with}
use Rattle.std.specs.Str.{str_to_ascii_lowercase}
use Rattle.vkg_tokens.specs.declared.cutting.Token.{Token}
use Rattle.vkg_tokens.specs.declared.turtle_kinds.TheConstants.{IRIREF, PNAME_NS, PNAME_LN, BLANK, STRING, LANGTAG, INTEGER, DECIMAL, DOUBLE, TRUE, FALSE, IS_A}
use Rattle.vkg_turtle.specs.declared.lexeme.Word.{Word}
use Rattle.vkg_turtle.specs.declared.lexeme.Word.TheVariants.{Sign, Reference, Name, Label, Quoted, Tag, Integer, Decimal, Double, Boolean, IsA}
use Rattle.vkg_turtle.specs.declared.lexeme.Lexeme.{Lexeme}
use Rattle.vkg_turtle.specs.Escapes.{text_meant, local_meant}

-- UTF-8 (Unicode 3.9): no character goes on at this place of the text
abbrev pub is_boundary : List ℕ → ℕ → Bool
is_boundary text at = nat_le at (length text) && (nat_lt (get_or text at 0) 128 || nat_le 192 (get_or text at 0))

-- the bytes from one place up to another; none where one of the two stands within a character, as no place of a token does
abbrev pub between : List ℕ → ℕ → ℕ → List ℕ
between text start end = if nat_le start end && is_boundary text start && is_boundary text end then take (end - start) (drop start text) else []

-- RDF 1.1 Turtle, 6.5: a string stands in three quotes or in one
abbrev pub quotes : List ℕ → ℕ
quotes token = if starts_with nat_eq token (codes "\"\"\"") || starts_with nat_eq token (codes "'''") then 3 else 1

-- a token without so many bytes at its front and at its end
abbrev pub inside : List ℕ → ℕ → ℕ → List ℕ
inside token front back = between token front (length token - back)

-- PNAME_NS, PNAME_LN: the prefix stands before the first `:` (58), the local part behind it
abbrev pub name_in : List ℕ → Word
name_in token = Name (before_first (λ b. b == 58) token) (local_meant (after_first (λ b. b == 58) token))

-- RDF 1.1 Turtle, 6.5: what a token says, by its kind and its bytes; a language tag is kept in lower case (RDF 1.1 Concepts, 3.3)
abbrev pub word_of : ℕ → List ℕ → Word
word_of kind token =
    if kind == IRIREF then Reference (text_meant (inside token 1 1))
    else if (kind == PNAME_NS) || (kind == PNAME_LN) then name_in token
    else if kind == BLANK then Label (inside token 2 0)
    else if kind == STRING then Quoted (text_meant (inside token (quotes token) (quotes token)))
    else if kind == LANGTAG then Tag (str_to_ascii_lowercase (inside token 1 0))
    else if kind == INTEGER then Integer token
    else if kind == DECIMAL then Decimal token
    else if kind == DOUBLE then Double token
    else if (kind == TRUE) || (kind == FALSE) then Boolean token
    else if kind == IS_A then IsA
    else Sign

abbrev pub lexeme_of : List ℕ → Token → Lexeme
lexeme_of text t = record { word = word_of t.kind (between text t.start t.end); at = t.start }

abbrev pub lexemes_of : List ℕ → List Token → List Lexeme
lexemes_of text ts = map (lexeme_of text) ts
