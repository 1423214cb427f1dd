-- SPARQL 1.1, 4.1.2: the terms and the other meanings of the tokens of a query.
use Rattle.std.specs.Prelude.{ℕ, Bool, ◌-◌, ◌||◌, List, [], ◌∷◌, codes, if◌then◌else◌, ◌==◌, nat_lt}
use Rattle.std.specs.Str.{str_to_ascii_lowercase}
use Rattle.vkg_terms.specs.declared.term.Term.{Term}
use Rattle.vkg_terms.specs.declared.term.Term.TheVariants.{Iri, Lit}
use Rattle.vkg_terms.specs.declared.term.Annotation.{Annotation}
use Rattle.vkg_terms.specs.declared.term.Annotation.TheVariants.{Plain, Lang}
use Rattle.vkg_terms.specs.Vocabulary.{rdf_type}
use Rattle.vkg_tokens.specs.declared.sparql_kinds.TheConstants.{OPEN_BRACKET, EQUAL, NOT_EQUAL, LESS, GREATER, LESS_EQUAL, GREATER_EQUAL, CARETS, IRIREF, PNAME_NS, PNAME_LN, BLANK, VAR, STRING, INTEGER, DECIMAL, IS_A, TRUE, FALSE, ISIRI, ISURI, ISBLANK, ISLITERAL, ISNUMERIC, STR, LANG, DATATYPE, STRLEN, STRSTARTS, STRENDS, CONTAINS}
use Rattle.vkg_turtle.specs.declared.lexeme.Word.{Word}
use Rattle.vkg_turtle.specs.declared.lexeme.Word.TheVariants.{Quoted, Tag, Integer, Decimal, Boolean, IsA}
use Rattle.vkg_turtle.specs.Document.{annotation_of_type, typed}
use Rattle.vkg_values.specs.declared.operator.Test.TheVariants.{IsIri, IsBlank, IsLiteral, IsNumeric}
use Rattle.vkg_values.specs.declared.operator.Take.TheVariants as take
use Rattle.vkg_values.specs.declared.operator.Compare.TheVariants as compare
use Rattle.vkg_sparql.specs.declared.environment.Environment.{Environment}
use Rattle.vkg_sparql.specs.declared.lexeme.Lexeme.{Lexeme}
use Rattle.vkg_sparql.specs.declared.meaning.Meaning.{Meaning}
use Rattle.vkg_sparql.specs.declared.meaning.Meaning.TheVariants.{Mark, Variable, Label, Fixed, Compare, Test, Take}
use Rattle.vkg_sparql.specs.Environment.{iri_text}
use Rattle.vkg_sparql.specs.Lexemes.{key_of, number_in}

-- behind `^^`
abbrev pub type_behind : Environment → List Lexeme → Annotation
type_behind e [] = Plain
type_behind e (x ∷ xs) = annotation_of_type (iri_text e x.word)

abbrev pub tag_or_type : Environment → Word → Bool → List Lexeme → Annotation
tag_or_type e (Tag text) is_type xs = Lang text
tag_or_type e word is_type xs = if is_type then type_behind e xs else Plain

-- a string's language tag or datatype, from the tokens behind it
abbrev pub annotation : Environment → List Lexeme → Annotation
annotation e [] = Plain
annotation e (x ∷ xs) = tag_or_type e x.word (x.kind == CARETS) xs

-- the term that begins with a token, where these tokens follow; `true` and `false` have small letters however written
abbrev pub term_of : Environment → Word → List Lexeme → Term
term_of e (Quoted text) xs = Lit text (annotation e xs)
term_of e (Integer text) xs = typed text (codes "integer")
term_of e (Decimal text) xs = typed text (codes "decimal")
term_of e (Boolean text) xs = typed (str_to_ascii_lowercase text) (codes "boolean")
term_of e IsA xs = Iri rdf_type
term_of e word xs = Iri (iri_text e word)

-- 17.3, 17.4: by the kinds of the signs = != < > <= >= and the words isIRI .. DATATYPE and STRLEN .. CONTAINS
abbrev pub operator_of : ℕ → Meaning
operator_of kind =
    if kind == EQUAL then Compare compare.Equal
    else if kind == NOT_EQUAL then Compare compare.NotEqual
    else if kind == LESS then Compare compare.Less
    else if kind == GREATER then Compare compare.Greater
    else if kind == LESS_EQUAL then Compare compare.LessOrEqual
    else if kind == GREATER_EQUAL then Compare compare.GreaterOrEqual
    else if (kind == ISIRI) || (kind == ISURI) then Test IsIri
    else if kind == ISBLANK then Test IsBlank
    else if kind == ISLITERAL then Test IsLiteral
    else if kind == ISNUMERIC then Test IsNumeric
    else if kind == STR then Take take.Str
    else if kind == LANG then Take take.Lang
    else if kind == DATATYPE then Take take.Datatype
    else if kind == STRLEN then Take take.Length
    else if kind == STRSTARTS then Compare compare.Starts
    else if kind == STRENDS then Compare compare.Ends
    else if kind == CONTAINS then Compare compare.Contains
    else Mark

-- IRIREF, PNAME_NS, PNAME_LN, a string, INTEGER, DECIMAL, `a`, `true`, `false`
abbrev pub is_term : ℕ → Bool
is_term kind =
    (kind == IRIREF) || (kind == PNAME_NS) || (kind == PNAME_LN) || (kind == STRING) || (kind == INTEGER) || (kind == DECIMAL) || (kind == IS_A) || (kind == TRUE) || (kind == FALSE)

-- what a token means, where these follow
unfoldable pub meaning_of : Environment → List (List ℕ) → Lexeme → List Lexeme → Meaning
meaning_of e keys x xs =
    if x.kind == VAR then Variable (number_in keys (key_of x))
    else if (x.kind == BLANK) || (x.kind == OPEN_BRACKET) then Label (number_in keys (key_of x))
    else if is_term x.kind then Fixed (term_of e x.word xs)
    else operator_of x.kind

-- of each token; the first ones, so many, are those of the prologue, which declares and means nothing else
abbrev pub meanings_of : Environment → List (List ℕ) → ℕ → List Lexeme → List Meaning
meanings_of e keys start [] = []
meanings_of e keys start (x ∷ xs) = (if nat_lt 0 start then Mark else meaning_of e keys x xs) ∷ meanings_of e keys (start - 1) xs
