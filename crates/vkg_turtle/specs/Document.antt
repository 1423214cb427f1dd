-- RDF 1.1 Turtle, 7: the triples of a document, by the state of a parser that takes one token after another.
use Rattle.std.specs.Prelude.{ℕ, Bool, true, false, List, [], ◌∷◌, ◌++◌, codes, decimal, fold, length, map, slice_get, ◌-◌, Option, Some, None, unwrap_or, option_map, option_to_list, if◌then◌else◌}
use Rattle.std.specs.Map.{lookup}
use Rattle.std.specs.Str.{bytes_eq}
use Rattle.indexmap.specs.IndexMap.{insert_entry}
use Rattle.indexmap.specs.IndexSet.{insert_key}
use Rattle.vkg_lists.specs.Lists.{without_last}
use Rattle.vkg_lists.specs.Places.{earlier}
use Rattle.vkg_grammar.specs.declared.note.Note.{Note}
use Rattle.vkg_terms.specs.declared.term.Term.{Term}
use Rattle.vkg_terms.specs.declared.term.Term.TheVariants.{Iri, Blank, Lit}
use Rattle.vkg_terms.specs.declared.term.Annotation.{Annotation}
use Rattle.vkg_terms.specs.declared.term.Annotation.TheVariants.{Plain, Lang, Typed}
use Rattle.vkg_terms.specs.Iri.{is_absolute}
use Rattle.vkg_terms.specs.Resolve.{resolve}
use Rattle.vkg_terms.specs.Vocabulary.{xsd, xsd_string, rdf_type}
use Rattle.vkg_turtle.specs.declared.document.Document.{Document}
use Rattle.vkg_turtle.specs.declared.document.Outer.{Outer}
use Rattle.vkg_turtle.specs.declared.grammar_table.TheConstants.{ROLES}
use Rattle.vkg_turtle.specs.declared.lexeme.Lexeme.{Lexeme}
use Rattle.vkg_turtle.specs.declared.lexeme.Word.{Word}
use Rattle.vkg_turtle.specs.declared.lexeme.Word.TheVariants.{Reference, Name, Label, Quoted, Tag, Integer, Decimal, Double, Boolean, IsA}
use Rattle.vkg_turtle.specs.declared.role.Role.{Role}
use Rattle.vkg_turtle.specs.declared.role.Role.TheVariants as role
use Rattle.vkg_turtle.specs.declared.triple.Triple.{Triple}
use Rattle.vkg_turtle.specs.SameTriple.{triple_eq}

-- the last item
abbrev pub last_of : {A : Type 0} → List A → Option A
last_of xs = slice_get xs (length xs - 1)

-- 7.1, namespaces: a prefix that is declared again stands for the later IRI
abbrev pub declared : List ℕ → List ℕ → List (List ℕ × List ℕ) → List (List ℕ × List ℕ)
declared name iri prefixes = insert_entry bytes_eq prefixes name iri

-- what a prefix stands for
abbrev pub namespace : List ℕ → List (List ℕ × List ℕ) → Option (List ℕ)
namespace name prefixes = lookup (bytes_eq name) prefixes

-- 6.3, 7.2, IRIREF, PNAME_NS and PNAME_LN: a reference is resolved against the base, a name is what its prefix stands for and
-- then its local part
abbrev pub iri_named : Word → List ℕ → List (List ℕ × List ℕ) → Option (List ℕ)
iri_named (Reference text) base prefixes = Some (resolve base text)
iri_named (Name prefix local) base prefixes = option_map (λ iri. iri ++ local) (namespace prefix prefixes)
iri_named w base prefixes = None

abbrev pub iri_of : Word → Document → Option (List ℕ)
iri_of w d = iri_named w d.base d.prefixes

-- RDF 1.1 Concepts, 3.3: a literal of xsd:string is a plain one
abbrev pub annotation_of_type : List ℕ → Annotation
annotation_of_type iri = if bytes_eq iri xsd_string then Plain else Typed iri

-- a literal with a datatype of XML Schema
abbrev pub typed : List ℕ → List ℕ → Term
typed text name = Lit text (annotation_of_type (xsd name))

-- 7.2: the term of a token
abbrev pub term_of : Word → Document → Term
term_of (Label text) d = Blank text
term_of (Quoted text) d = Lit text Plain
term_of (Integer text) d = typed text (codes "integer")
term_of (Decimal text) d = typed text (codes "decimal")
term_of (Double text) d = typed text (codes "double")
term_of (Boolean text) d = typed text (codes "boolean")
term_of IsA d = Iri rdf_type
term_of w d = Iri (unwrap_or (iri_of w d) [])

abbrev pub noted_iri : Option (List ℕ) → ℕ → Document → Document
noted_iri None at d = record d { unknown = earlier d.unknown at }
noted_iri (Some iri) at d = if is_absolute iri then d else record d { relative = earlier d.relative at }

abbrev pub noted_word : Word → ℕ → Document → Document
noted_word (Reference text) at d = noted_iri (iri_of (Reference text) d) at d
noted_word (Name prefix local) at d = noted_iri (iri_of (Name prefix local) d) at d
noted_word w at d = d

-- the first name with an unknown prefix and the first IRI that is not absolute are noted by their places
abbrev pub noted : Lexeme → Document → Document
noted x d = noted_word x.word x.at d

-- the node of the bracket at a place: its label is none that a document can give
abbrev pub node_at : ℕ → Term
node_at at = Blank (codes "." ++ decimal at)

-- 7.3: an object gives a triple with the subject and the predicate before it
abbrev pub with_object : Term → ℕ → Document → Document
with_object object at d = record d { triples = d.triples ++ record { subject = d.subject; predicate = d.predicate; object = object; at = at } ∷ [] }

abbrev pub annotated : Annotation → Term → Term
annotated a (Lit text b) = Lit text a
annotated a t = t

abbrev pub annotated_triple : Annotation → Triple → Triple
annotated_triple a t = record t { object = annotated a t.object }

-- 7.2, datatype, langString: the literal that was read last has this datatype or language
abbrev pub with_annotation : Annotation → Document → Document
with_annotation a d = record d { triples = without_last d.triples ++ map (annotated_triple a) (option_to_list (last_of d.triples)) }

abbrev pub text_of_tag : Word → List ℕ
text_of_tag (Tag text) = text
text_of_tag w = []

abbrev pub prefix_of : Word → List ℕ
prefix_of (Name prefix local) = prefix
prefix_of w = []

abbrev pub outer_of : Document → Outer
outer_of d = record { subject = d.subject; predicate = d.predicate }

abbrev pub with_subject : Term → Document → Document
with_subject term d = record d { subject = term }

abbrev pub with_outer : Document → Document
with_outer d = record d { outer = d.outer ++ outer_of d ∷ [] }

-- 7.3, blankNodePropertyList: the node of a bracket is an object, and the subject of what stands in the bracket
abbrev pub opened : ℕ → Document → Document
opened at d = with_subject (node_at at) (with_outer (with_object (node_at at) at d))

-- 7.3: behind the bracket the subject and the predicate are those before it
abbrev pub restored : Option Outer → Document → Document
restored None d = d
restored (Some o) d = record d { outer = without_last d.outer; subject = o.subject; predicate = o.predicate }

-- 7.1: the prefix that was read before stands for this from now on
abbrev pub with_prefix : List ℕ → Document → Document
with_prefix iri d = record d { prefixes = declared d.prefix iri d.prefixes }

abbrev pub iri_text : Lexeme → Document → List ℕ
iri_text x d = unwrap_or (iri_of x.word d) []

-- 7.1, base: what references are resolved against from now on
abbrev pub based : List ℕ → ℕ → Document → Document
based iri at d = record (noted_iri (Some iri) at d) { base = iri }

-- what a token that means this does
abbrev pub act : Role → Lexeme → Document → Document
act role.PrefixName x d = record d { prefix = prefix_of x.word }
act role.PrefixIri x d = with_prefix (iri_text x d) (noted x d)
act role.BaseIri x d = record (noted x d) { base = iri_text x d }
act role.Subject x d = with_subject (term_of x.word d) (noted x d)
act role.Verb x d = record (noted x d) { predicate = term_of x.word d }
act role.Object x d = with_object (term_of x.word d) x.at (noted x d)
act role.Datatype x d = with_annotation (annotation_of_type (iri_text x d)) (noted x d)
act role.Language x d = with_annotation (Lang (text_of_tag x.word)) d
act role.OpenSubject x d = with_subject (node_at x.at) d
act role.OpenObject x d = opened x.at d
act role.CloseObject x d = restored (last_of d.outer) d
act r x d = d

-- what a symbol of the grammar means
unfoldable pub role_of : ℕ → Role
role_of symbol = unwrap_or (slice_get ROLES symbol) role.Choice

abbrev pub is_choice : Role → Bool
is_choice role.Choice = true
is_choice r = false

-- a token with its meaning changes the document, and the others follow
abbrev pub with_token : Role → List Lexeme → Document → (List Lexeme → Document → Document) → Document
with_token r [] d more = d
with_token r (x ∷ xs) d more = more xs (act r x d)

abbrev pub with_note : Role → List Lexeme → Document → (List Lexeme → Document → Document) → Document
with_note r xs d more = if is_choice r then more xs d else with_token r xs d more

-- what the tokens make of the document, where the notes of the derivation say what each of them means
unfoldable pub document_of : List Note → List Lexeme → Document → Document
document_of [] xs d = d
document_of (n ∷ ns) xs d = with_note (role_of n.symbol) xs d (λ ys e. document_of ns ys e)

-- 7.1: the state before the first token
abbrev pub begun : List ℕ → Document
begun base = record {
  base = base;
  prefixes = [];
  prefix = [];
  subject = Iri [];
  predicate = Iri [];
  outer = [];
  triples = [];
  unknown = None;
  relative = None;
}

-- a triple that stands before adds nothing
abbrev pub with_triple : List Triple → Triple → List Triple
with_triple kept t = insert_key triple_eq kept t

-- the triples in the order in which their objects begin, each where it first stands
abbrev pub triples_of : Document → List Triple
triples_of d = fold with_triple [] d.triples
