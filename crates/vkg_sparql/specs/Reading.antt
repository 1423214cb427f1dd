-- Which bytes are a query, what it says, and the first fault of others.
use Rattle.std.specs.Prelude.{◌≡◌, ℕ, Bool, ◌||◌, List, [], ◌∷◌, drop, length, slice_index_or, IsUtf8, Option, Some, None, Ok, if◌then◌else◌, ◌==◌, nat_le, ◌&&◌, Result}
use Rattle.std.specs.Option.{option_or}
use Rattle.vkg_grammar.specs.Form.{Form, IsTooDeep, IsShallow}
use Rattle.vkg_grammar.specs.Kinds.{kinds_of, start_at}
use Rattle.vkg_grammar.specs.OneTree.{IsTheTree}
use Rattle.vkg_grammar.specs.Parsing.{IsFirstDead, IsCutOff}
use Rattle.vkg_grammar.specs.Trees.{Tree}
use Rattle.vkg_lists.specs.Places.{lesser}
use Rattle.vkg_tokens.specs.declared.cutting.Token.{Token}
use Rattle.vkg_tokens.specs.declared.lang.Lang.TheVariants.{Sparql}
use Rattle.vkg_tokens.specs.Cut.{tokens_of}
use Rattle.vkg_tokens.specs.Mark.{without_mark}
use Rattle.vkg_tokens.specs.declared.sparql_kinds.TheConstants.{OPEN_BRACE, CLOSE_BRACE, OPEN, CLOSE, OPEN_BRACKET, CLOSE_BRACKET, STAR, CARET, PLUS_SIGN, QUESTION, DOUBLE, SELECT, OUTSIDE, VALUES, KIND_COUNT}
use Rattle.vkg_turtle.specs.Lexical.{IsFirstBad}
use Rattle.vkg_sparql.specs.declared.checks.Check.TheVariants.{Unknown, Relative, Float, Wide}
use Rattle.vkg_sparql.specs.declared.environment.Environment.{Environment}
use Rattle.vkg_sparql.specs.declared.grammar_table.TheConstants.{SPARQL}
use Rattle.vkg_sparql.specs.declared.lexeme.Lexeme.{Lexeme}
use Rattle.vkg_sparql.specs.declared.meaning.Meaning.{Meaning}
use Rattle.vkg_sparql.specs.declared.names.Named.{Named}
use Rattle.vkg_sparql.specs.declared.query.Query.{Query}
use Rattle.vkg_sparql.specs.declared.scopes.Scope.{Scope}
use Rattle.vkg_sparql.specs.declared.fault.QueryError.{QueryError}
use Rattle.vkg_sparql.specs.declared.fault.QueryError.TheVariants.{Fault, Memory}
use Rattle.vkg_sparql.specs.declared.fault.QueryFault.{QueryFault}
use Rattle.vkg_sparql.specs.Checks.{first_place, label_again, triples_over, size_over, slice_over}
use Rattle.vkg_sparql.specs.Environment.{environment_of, body_start}
use Rattle.vkg_sparql.specs.Groups.{query_value}
use Rattle.vkg_sparql.specs.Lexemes.{lexemes_of, named_of}
use Rattle.vkg_sparql.specs.Literals.{meanings_of}
use Rattle.vkg_sparql.specs.Nodes.{nodes_over}
use Rattle.vkg_sparql.specs.Scopes.{query_scope}
use Rattle.vkg_sparql.specs.Triples.{query_triples}

-- the tokens of a query
abbrev pub sparql_tokens : List ℕ → Result (List Token) ℕ
sparql_tokens text = tokens_of Sparql text

-- the grammar of queries, where at most 64 brackets are open at once
abbrev pub sparql : Form
sparql = record {
  rules = SPARQL;
  kinds = KIND_COUNT;
  openers = OPEN_BRACE ∷ OPEN ∷ OPEN_BRACKET ∷ [];
  closers = CLOSE_BRACE ∷ CLOSE ∷ CLOSE_BRACKET ∷ [];
  limit = Some 64;
}

abbrev pub kind_at : List Token → ℕ → ℕ
kind_at ts i = slice_index_or (kinds_of ts) i 0

abbrev pub fault : ℕ → ℕ → QueryFault
fault check at = record { check = check; at = at }

-- own: the words of SPARQL 1.1 that are told as left out of the profile: those of the kind OUTSIDE, and VALUES where no query goes on with it,
-- as behind the outermost group
unfoldable pub is_outside_word : ℕ → Bool
is_outside_word kind = (kind == OUTSIDE) || (kind == VALUES)

-- own: the tokens that are told so: these words, `(` `*` `/` `|` `^` `+` `-` `?`, a number with an exponent, and SELECT within a query. Among
-- the kinds `*` to `^` stand together, and `+` to `?`
abbrev pub is_outside : ℕ → Bool
is_outside kind = (kind == OPEN) || (nat_le STAR kind && nat_le kind CARET) || (nat_le PLUS_SIGN kind && nat_le kind QUESTION) || (kind == DOUBLE) || (kind == SELECT) || is_outside_word kind

-- the check of a dead token
abbrev pub dead_check : ℕ → ℕ
dead_check kind = if is_outside kind then 7 else 2

-- what was read of a text of the grammar: its tokens, what its prologue declares, and the tokens behind that
pub record Read : Type 0 where
  pub lexemes : List Lexeme
  pub environment : Environment
  pub body : List Lexeme
  pub named : Named
  pub tree : Tree
  pub size : ℕ

abbrev pub parts : ℕ → List Lexeme → Environment → List Lexeme → Named → Tree → Read
parts size xs e body named tree = record { lexemes = xs; environment = e; body = body; named = named; tree = tree; size = size }

abbrev pub read_with : ℕ → List Lexeme → Environment → List Lexeme → Tree → Read
read_with size xs e body tree = parts size xs e body (named_of body) tree

abbrev pub read_lexemes : ℕ → List Lexeme → List ℕ → Tree → Read
read_lexemes size xs base tree = read_with size xs (environment_of xs base tree) (drop (body_start tree) xs) tree

abbrev pub read : List ℕ → List Token → List ℕ → Tree → Read
read text tokens base tree = read_lexemes (length text) (lexemes_of text tokens) base tree

abbrev pub fault_if : ℕ → Option ℕ → Option QueryFault → Option QueryFault
fault_if check None later = later
fault_if check (Some at) later = Some (fault check at)

-- the least place at which a limit is passed
abbrev pub limit_over : Read → Option ℕ
limit_over r = lesser (lesser (triples_over r.lexemes (query_triples r.tree)) (nodes_over r.lexemes)) (lesser r.named.over (size_over r.size))

-- what each token means
abbrev pub meanings : Read → List Meaning
meanings r = meanings_of r.environment r.named.keys (body_start r.tree) r.lexemes

-- of the checks of tokens the least that fails, at its least place: 4 a prefix, 5 an IRI, 6 a blank node label, 7 a datatype outside the
-- profile, 8 a number, 9 a limit
abbrev pub token_fault : Read → Option QueryFault
token_fault r =
    fault_if 4 (first_place Unknown r.environment r.body)
    (fault_if 5 (option_or r.environment.relative (first_place Relative r.environment r.body))
    (fault_if 6 (label_again r.body)
    (fault_if 7 (first_place Float r.environment r.body)
    (fault_if 8 (first_place Wide r.environment r.body)
    (fault_if 9 (limit_over r) None)))))

-- of the checks of parts: 10 a table of VALUES, 11 a variable of BIND, 12 the number of a slice
abbrev pub scope_fault : Scope → List Lexeme → Option QueryFault
scope_fault s body = fault_if 10 s.uneven (fault_if 11 s.again (fault_if 12 (slice_over body) None))

abbrev pub part_fault : Read → Option QueryFault
part_fault r = scope_fault (query_scope (meanings r) r.lexemes r.tree) r.body

-- the least check that fails, at its least place
abbrev pub fault_of : Read → Option QueryFault
fault_of r = option_or (token_fault r) (part_fault r)

-- the query
abbrev pub query_of : Read → Query
query_of r = query_value r.named.names (meanings r) r.tree

-- The text is one of the grammar, and this is what was read of it.
pub record Says (text base : List ℕ) (r : Read) : Type 0 where
  pub tokens : List Token
  pub tree : Tree
  pub cut : sparql_tokens text ≡ Ok tokens
  pub shallow : IsShallow sparql (kinds_of tokens)
  pub the_tree : IsTheTree SPARQL (kinds_of tokens) tree
  pub said : r ≡ read text tokens base tree

-- At this place a bracket begins that makes the depth 65, the first to do so.
pub record IsTooDeepText (text : List ℕ) (at : ℕ) : Type 0 where
  pub tokens : List Token
  pub bracket : ℕ
  pub cut : sparql_tokens text ≡ Ok tokens
  pub deep : IsTooDeep sparql (kinds_of tokens) bracket
  pub place : at ≡ start_at tokens bracket

-- The first token that no query goes on with begins here, and is outside the profile or not.
pub record IsDeadText (text : List ℕ) (f : QueryFault) : Type 0 where
  pub tokens : List Token
  pub token : ℕ
  pub cut : sparql_tokens text ≡ Ok tokens
  pub shallow : IsShallow sparql (kinds_of tokens)
  pub dead : IsFirstDead SPARQL (kinds_of tokens) token
  pub named : f ≡ fault (dead_check (kind_at tokens token)) (start_at tokens token)

-- The text begins a query and is none.
pub record IsCutOffText (text : List ℕ) : Type 0 where
  pub tokens : List Token
  pub cut : sparql_tokens text ≡ Ok tokens
  pub shallow : IsShallow sparql (kinds_of tokens)
  pub short : IsCutOff SPARQL (kinds_of tokens)

-- The text is a query against this base, and no check fails of it.
pub record IsQueryText (text base : List ℕ) (q : Query) : Type 0 where
  pub said : Read
  pub utf8 : IsUtf8 text
  pub says : Says text base said
  pub fine : fault_of said ≡ None
  pub is : q ≡ query_of said

-- The first fault of a text: the least place at which no token begins or the bytes are no UTF-8, then too many brackets, then a
-- dead token or an early end, then the checks.
pub data IsFaultOf (text base : List ℕ) : QueryFault → Type 0 where
  lexical : {at : ℕ} → IsFirstBad Sparql text at → IsFaultOf text base (fault 1 at)
  too_deep : {at : ℕ} → IsUtf8 text → IsTooDeepText text at → IsFaultOf text base (fault 3 at)
  dead : {f : QueryFault} → IsUtf8 text → IsDeadText text f → IsFaultOf text base f
  cut_off : {at : ℕ} → IsUtf8 text → IsCutOffText text → at ≡ length text → IsFaultOf text base (fault 2 at)
  checked : {f : QueryFault} (r : Read) → IsUtf8 text → Says text base r → fault_of r ≡ Some f → IsFaultOf text base f

abbrev pub TextFails : List ℕ → List ℕ → QueryError → Type 0
TextFails text base Memory = Unit {0}
TextFails text base (Fault f) = IsFaultOf text base f

-- these bytes are this query, against this base; one byte order mark at the front is no part of the text
abbrev pub IsQuery : List ℕ → List ℕ → Query → Type 0
IsQuery bytes base q = IsQueryText (without_mark bytes) base q

-- why bytes are no query; places are counted behind the byte order mark
abbrev pub Fails : List ℕ → List ℕ → QueryError → Type 0
Fails bytes base e = TextFails (without_mark bytes) base e

-- this is the first fault of these bytes; its place is counted behind the byte order mark
abbrev pub IsFirstFault : List ℕ → List ℕ → QueryFault → Type 0
IsFirstFault bytes base f = IsFaultOf (without_mark bytes) base f

-- Bytes are one query at most, and have one first fault at most, and never both.
pub record IsDetermined : Type 0 where
  pub one_value : (bytes base : List ℕ) (q other : Query) → IsQuery bytes base q → IsQuery bytes base other → q ≡ other
  pub one_fault : (bytes base : List ℕ) (f g : QueryFault) → IsFirstFault bytes base f → IsFirstFault bytes base g → f ≡ g
  pub not_both : (bytes base : List ℕ) (q : Query) (f : QueryFault) → IsQuery bytes base q → IsFirstFault bytes base f → ⊥
