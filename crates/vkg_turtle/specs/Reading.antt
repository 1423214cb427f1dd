-- Which bytes are a document, its triples, and the first fault of others.
use Rattle.std.specs.Prelude.{◌≡◌, ℕ, List, [], ◌∷◌, IsUtf8, Option, Some, None, Ok, Result}
use Rattle.vkg_grammar.specs.declared.note.Note.{Note}
use Rattle.vkg_grammar.specs.Form.{Form, IsTooDeep, IsShallow}
use Rattle.vkg_grammar.specs.Kinds.{kinds_of, start_at}
use Rattle.vkg_grammar.specs.Parsing.{IsTheText, NoTextAt}
use Rattle.vkg_tokens.specs.declared.cutting.Token.{Token}
use Rattle.vkg_tokens.specs.declared.lang.Lang.TheVariants.{Turtle}
use Rattle.vkg_tokens.specs.declared.turtle_kinds.TheConstants.{OPEN_BRACKET, CLOSE_BRACKET, OPEN, CLOSE, KIND_COUNT}
use Rattle.vkg_tokens.specs.Cut.{tokens_of}
use Rattle.vkg_tokens.specs.Mark.{without_mark}
use Rattle.vkg_turtle.specs.declared.document.Document.{Document}
use Rattle.vkg_turtle.specs.declared.grammar_table.TheConstants.{TURTLE}
use Rattle.vkg_turtle.specs.declared.reading.TurtleError.{TurtleError}
use Rattle.vkg_turtle.specs.declared.reading.TurtleError.TheVariants.{Fault, Memory}
use Rattle.vkg_turtle.specs.declared.reading.TurtleFault.{TurtleFault}
use Rattle.vkg_turtle.specs.declared.triple.Triple.{Triple}
use Rattle.vkg_turtle.specs.Document.{document_of, begun, triples_of}
use Rattle.vkg_turtle.specs.Lexical.{IsFirstBad}
use Rattle.vkg_turtle.specs.Words.{lexemes_of}

-- the tokens of a document
abbrev pub turtle_tokens : List ℕ → Result (List Token) ℕ
turtle_tokens text = tokens_of Turtle text

-- the grammar of Turtle, where at most 64 brackets are open at once
abbrev pub turtle : Form
turtle = record {
  rules = TURTLE;
  kinds = KIND_COUNT;
  openers = OPEN_BRACKET ∷ OPEN ∷ [];
  closers = CLOSE_BRACKET ∷ CLOSE ∷ [];
  limit = Some 64;
}

-- The text is one of the grammar, and this is what was read of it.
pub record Says (text base : List ℕ) (document : Document) : Type 0 where
  pub tokens : List Token
  pub notes : List Note
  pub cut : turtle_tokens text ≡ Ok tokens
  pub shallow : IsShallow turtle (kinds_of tokens)
  pub derived : IsTheText TURTLE (kinds_of tokens) notes
  pub said : document ≡ document_of notes (lexemes_of text tokens) (begun base)

-- At this place a bracket begins that makes the depth 65, the first to do so.
pub record IsTooDeepText (text : List ℕ) (at : ℕ) : Type 0 where
  pub tokens : List Token
  pub bracket : ℕ
  pub cut : turtle_tokens text ≡ Ok tokens
  pub deep : IsTooDeep turtle (kinds_of tokens) bracket
  pub place : at ≡ start_at tokens bracket

-- The first token that no text of the grammar goes on with begins here, or the text ends too early.
pub record IsNoText (text : List ℕ) (at : ℕ) : Type 0 where
  pub tokens : List Token
  pub cut : turtle_tokens text ≡ Ok tokens
  pub shallow : IsShallow turtle (kinds_of tokens)
  pub place : NoTextAt TURTLE text tokens at

abbrev pub fault : ℕ → ℕ → TurtleFault
fault check at = record { check = check; at = at }

abbrev pub fault_if : ℕ → Option ℕ → Option TurtleFault → Option TurtleFault
fault_if check None later = later
fault_if check (Some at) later = Some (fault check at)

-- of what was read: the first name with an unknown prefix, then the first IRI that is not absolute
abbrev pub fault_of : Document → Option TurtleFault
fault_of d = fault_if 4 d.unknown (fault_if 5 d.relative None)

-- The text is a document against this base, no check fails of it, and it has these triples.
pub record IsDocumentText (text base : List ℕ) (triples : List Triple) : Type 0 where
  pub document : Document
  pub utf8 : IsUtf8 text
  pub says : Says text base document
  pub fine : fault_of document ≡ None
  pub are : triples ≡ triples_of document

-- The first fault of a text: the least place at which no token begins or the bytes are no UTF-8, then too many brackets, then
-- no text of the grammar, then the checks.
pub data IsFaultOf (text base : List ℕ) : TurtleFault → Type 0 where
  lexical : {at : ℕ} → IsFirstBad Turtle text at → IsFaultOf text base (fault 1 at)
  too_deep : {at : ℕ} → IsUtf8 text → IsTooDeepText text at → IsFaultOf text base (fault 3 at)
  no_text : {at : ℕ} → IsUtf8 text → IsNoText text at → IsFaultOf text base (fault 2 at)
  no_document : {f : TurtleFault} (document : Document) → IsUtf8 text → Says text base document → fault_of document ≡ Some f → IsFaultOf text base f

-- these bytes are a document with these triples, against this base
abbrev pub IsDocumentOf : List ℕ → List ℕ → List Triple → Type 0
IsDocumentOf bytes base triples = IsDocumentText (without_mark bytes) base triples

-- this is the first fault of these bytes; its place is counted behind the byte order mark
abbrev pub IsFirstFault : List ℕ → List ℕ → TurtleFault → Type 0
IsFirstFault bytes base f = IsFaultOf (without_mark bytes) base f

abbrev pub TextFails : List ℕ → List ℕ → TurtleError → Type 0
TextFails text base Memory = Unit {0}
TextFails text base (Fault f) = IsFaultOf text base f

abbrev pub Fails : List ℕ → List ℕ → TurtleError → Type 0
Fails bytes base e = TextFails (without_mark bytes) base e

-- Bytes are one document at most, and have one first fault at most, and never both.
pub record IsDetermined : Type 0 where
  pub one_value : (bytes base : List ℕ) (triples others : List Triple) → IsDocumentOf bytes base triples → IsDocumentOf bytes base others → triples ≡ others
  pub one_fault : (bytes base : List ℕ) (f g : TurtleFault) → IsFirstFault bytes base f → IsFirstFault bytes base g → f ≡ g
  pub not_both : (bytes base : List ℕ) (triples : List Triple) (f : TurtleFault) → IsDocumentOf bytes base triples → IsFirstFault bytes base f → ⊥
