-- What may be wrong with a query that is a text of the grammar.
use Rattle.std.specs.Prelude.{ℕ, Bool, false, ◌||◌, ◌&&◌, not, List, [], ◌∷◌, ◌++◌, codes, fold, position, slice_get, Option, Some, None, option_and_then, option_map, if◌then◌else◌, ◌==◌, nat_lt, is_none, is_some}
use Rattle.std.specs.Str.{bytes_eq}
use Rattle.indexmap.specs.IndexSet.{insert_key}
use Rattle.vkg_lists.specs.Places.{earlier}
use Rattle.vkg_terms.specs.declared.term.Term.{Term}
use Rattle.vkg_terms.specs.declared.term.Term.TheVariants.{Lit}
use Rattle.vkg_terms.specs.declared.term.Annotation.TheVariants.{Typed}
use Rattle.vkg_terms.specs.Iri.{is_absolute}
use Rattle.vkg_terms.specs.Vocabulary.{xsd}
use Rattle.vkg_tokens.specs.declared.sparql_kinds.TheConstants.{OPEN_BRACE, CLOSE_BRACE, BLANK, STRING, INTEGER, DECIMAL, BIND, LIMIT, OFFSET}
use Rattle.vkg_turtle.specs.declared.lexeme.Word.{Word}
use Rattle.vkg_turtle.specs.declared.lexeme.Word.TheVariants.{Name, Label, Integer}
use Rattle.vkg_sparql.specs.declared.checks.Check.{Check}
use Rattle.vkg_sparql.specs.declared.checks.Check.TheVariants.{Unknown, Relative, Float, Wide}
use Rattle.vkg_sparql.specs.declared.blocks.Blocks.{Blocks}
use Rattle.vkg_sparql.specs.declared.environment.Environment.{Environment}
use Rattle.vkg_sparql.specs.declared.lexeme.Lexeme.{Lexeme}
use Rattle.vkg_sparql.specs.declared.meaning.TripleTokens.{TripleTokens}
use Rattle.vkg_sparql.specs.Environment.{iri_of}
use Rattle.vkg_sparql.specs.Literals.{term_of}
use Rattle.vkg_sparql.specs.Orders.{slice_number}
use Rattle.vkg_cells.specs.WellTyped.{is_wide_number}

-- a name whose prefix is not declared
abbrev pub is_unknown : Environment → Word → Bool
is_unknown e (Name prefix local) = is_none (iri_of e (Name prefix local))
is_unknown e word = false

abbrev pub is_relative : Option (List ℕ) → Bool
is_relative None = false
is_relative (Some iri) = not (is_absolute iri)

-- own: literals of xsd:double and xsd:float are outside the profile
abbrev pub is_float_type : List ℕ → Bool
is_float_type datatype = bytes_eq datatype (xsd (codes "double")) || bytes_eq datatype (xsd (codes "float"))

abbrev pub is_float : Term → Bool
is_float (Lit text (Typed datatype)) = is_float_type datatype
is_float t = false

-- a string or a number
abbrev pub is_literal : ℕ → Bool
is_literal kind = (kind == STRING) || (kind == INTEGER) || (kind == DECIMAL)

-- the check fails at a token, where these follow
unfoldable pub fails : Check → Environment → Lexeme → List Lexeme → Bool
fails Unknown e x xs = is_unknown e x.word
fails Relative e x xs = is_relative (iri_of e x.word)
fails Float e x xs = if is_literal x.kind then is_float (term_of e x.word xs) else false
fails Wide e x xs = if is_literal x.kind then is_wide_number (term_of e x.word xs) else false

-- the words that begin a slice, which no other production has
abbrev pub begins_slice : ℕ → Bool
begins_slice kind = (kind == LIMIT) || (kind == OFFSET)

-- the place of the first token before the slice at which the check fails; the numbers of a slice are no literals
abbrev pub first_place : Check → Environment → List Lexeme → Option ℕ
first_place check e [] = None
first_place check e (x ∷ xs) = if begins_slice x.kind then None else if fails check e x xs then Some x.at else first_place check e xs

-- SPARQL 1.1, 5.1: a filter ends no basic graph pattern, any other pattern does, and each of those but BIND has braces. So a basic graph
-- pattern is told by the last brace or BIND before it.
abbrev pub is_here : Blocks → Option ℕ → Bool
is_here b None = false
is_here b (Some brace) = brace == b.brace

abbrev pub with_found : Blocks → ℕ → List ℕ → Option ℕ → Blocks
with_found b at label None = record b { labels = insert_key bytes_eq b.labels label; braces = b.braces ++ b.brace ∷ [] }
with_found b at label (Some n) = if is_here b (slice_get b.braces n) then b else record b { again = earlier b.again at }

abbrev pub with_label : Blocks → ℕ → Word → Blocks
with_label b at (Label label) = with_found b at label (position (bytes_eq label) b.labels)
with_label b at word = b

abbrev pub ends_block : ℕ → Bool
ends_block kind = (kind == OPEN_BRACE) || (kind == CLOSE_BRACE) || (kind == BIND)

abbrev pub block_step : Blocks → Lexeme → Blocks
block_step b x =
    if ends_block x.kind then record b { brace = x.at }
    else if x.kind == BLANK then with_label b x.at x.word
    else b

-- the first use of a label in a second basic graph pattern (5.1.1 forbids it)
abbrev pub label_again : List Lexeme → Option ℕ
label_again xs = (fold block_step (record { labels = []; braces = []; brace = 0; again = None }) xs).again

-- where the token with this number begins
abbrev pub place_in : List Lexeme → ℕ → Option ℕ
place_in xs token = option_map (λ x. x.at) (slice_get xs token)

abbrev pub subject_place : List Lexeme → Option TripleTokens → Option ℕ
subject_place xs triple = option_and_then (λ (t : TripleTokens). place_in xs t.subject) triple

-- own: at most 128 triple patterns
abbrev pub triples_over : List Lexeme → List TripleTokens → Option ℕ
triples_over xs ts = subject_place xs (slice_get ts 128)

abbrev pub is_slice_number : Word → Bool
is_slice_number (Integer text) = is_some (slice_number text)
is_slice_number word = false

-- the place of the first literal that is no number of a slice
abbrev pub no_number : List Lexeme → Option ℕ
no_number [] = None
no_number (x ∷ xs) = if is_literal x.kind && not (is_slice_number x.word) then Some x.at else no_number xs

-- own: of a slice each number has no sign and is at most 4,294,967,295
abbrev pub slice_over : List Lexeme → Option ℕ
slice_over [] = None
slice_over (x ∷ xs) = if begins_slice x.kind then no_number (x ∷ xs) else slice_over xs

-- own: at most 2,147,483,647 bytes
abbrev pub size_over : ℕ → Option ℕ
size_over size = if nat_lt 2147483647 size then Some 2147483647 else None
