-- The objects of a document whose IRIs are absolute and whose tokens hold what they may hold can be written.
use Rattle.std.proofs.Common.{◌≡◌, Bool, true, false, cond, ◌-◌, ℕ, List, [], ◌∷◌, ◌++◌, map, take, length, codes, refl, sym, subst, Option, Some, None, IsUtf8, zero, suc}
use Rattle.std.specs.Prelude.{fold, option_to_list, unwrap_or}
use Rattle.std.specs.List.{AllByRecursion, list_all, list_any}
use Rattle.std.specs.Str.{bytes_eq}
use Rattle.std.proofs.lemmas.Bool.{cond_both}
use Rattle.vkg_lists.specs.Lists.{without_last}
use Rattle.vkg_lists.specs.Places.{earlier}
use Rattle.vkg_lists.proofs.Bools.{and_parts}
use Rattle.vkg_lists.proofs.Each.{recursion_get}
use Rattle.vkg_lists.proofs.Members.{recursion_append}
use Rattle.vkg_grammar.specs.declared.note.Note.{Note}
use Rattle.vkg_terms.specs.declared.term.Term.{Term}
use Rattle.vkg_terms.specs.declared.term.Term.TheVariants.{Iri, Blank, Lit}
use Rattle.vkg_terms.specs.declared.term.Annotation.{Annotation}
use Rattle.vkg_terms.specs.declared.term.Annotation.TheVariants.{Plain, Lang, Typed}
use Rattle.vkg_terms.specs.Iri.{has_scheme, is_absolute, is_iri_character}
use Rattle.vkg_terms.specs.Vocabulary.{xsd, xsd_string}
use Rattle.vkg_terms.specs.Writable.{IsWritableAnnotation, is_visible}
use Rattle.vkg_turtle.specs.declared.lexeme.Word.{Word}
use Rattle.vkg_turtle.specs.declared.lexeme.Word.TheVariants as word
use Rattle.vkg_turtle.specs.declared.role.Role.{Role}
use Rattle.vkg_turtle.specs.declared.role.Role.TheVariants as role
use Rattle.vkg_turtle.specs.declared.triple.Triple.{Triple}
use Rattle.vkg_turtle.specs.Document.{act, annotated, annotated_triple, annotation_of_type, document_of, iri_of, iri_text, is_choice, last_of, node_at, noted_iri, noted_word, restored, role_of, term_of, text_of_tag, with_object, with_triple}
use Rattle.vkg_turtle.specs.SameTriple.{triple_eq}
use Rattle.vkg_tokens.specs.declared.cutting.Token.{Token}
use Rattle.vkg_turtle.specs.Words.{between, lexeme_of, lexemes_of, word_of}
use Rattle.vkg_written.specs.Mappings.{IsWritableValue}

-- what a token may say
abbrev pub FineWord : Word → Type 0
FineWord word.Sign = Unit {0}
FineWord (word.Reference text) = Unit {0}
FineWord (word.Name prefix local) = Unit {0}
FineWord (word.Label text) = Unit {0}
FineWord (word.Quoted text) = IsUtf8 text
FineWord (word.Tag text) = list_all is_visible text ≡ true
FineWord (word.Integer text) = IsUtf8 text
FineWord (word.Decimal text) = IsUtf8 text
FineWord (word.Double text) = IsUtf8 text
FineWord (word.Boolean text) = IsUtf8 text
FineWord word.IsA = Unit {0}

-- what the token is
abbrev pub FineToken : List ℕ → Token → Type 0
FineToken text t = FineWord (word_of t.kind (between text t.start t.end))

abbrev AllIri : List ℕ → Type 0
AllIri text = list_all is_iri_character text ≡ true

noted_some : (o : Option ℕ) (at : ℕ) → earlier o at ≡ None → ⊥
noted_some None at e = cc
noted_some (Some a) at e = cc

-- ---- an IRI that is not noted as relative is absolute, and what was noted stays noted

iri_known : (o : Option (List ℕ)) (at : ℕ) (d : _) → (noted_iri o at d).relative ≡ None → (d.relative ≡ None) × AllIri (unwrap_or o [])
iri_known None at d e = (e, refl)
iri_known (Some iri) at d e = of (is_absolute iri) refl e
  where
    of : (b : Bool) → is_absolute iri ≡ b → (cond b d (record d { relative = earlier d.relative at })).relative ≡ None → (d.relative ≡ None) × AllIri iri
    of true w e = (e, (and_parts (has_scheme iri) (list_all is_iri_character iri) w).1)
    of false w e = absurd (noted_some d.relative at e)

word_known : (w : Word) (at : ℕ) (d : _) → (noted_word w at d).relative ≡ None → (d.relative ≡ None) × AllIri (unwrap_or (iri_of w d) [])
word_known (word.Reference text) at d e = iri_known (iri_of (word.Reference text) d) at d e
word_known (word.Name prefix local) at d e = iri_known (iri_of (word.Name prefix local) d) at d e
word_known word.Sign at d e = (e, refl)
word_known (word.Label text) at d e = (e, refl)
word_known (word.Quoted text) at d e = (e, refl)
word_known (word.Tag text) at d e = (e, refl)
word_known (word.Integer text) at d e = (e, refl)
word_known (word.Decimal text) at d e = (e, refl)
word_known (word.Double text) at d e = (e, refl)
word_known (word.Boolean text) at d e = (e, refl)
word_known word.IsA at d e = (e, refl)

iri_keeps : (o : Option (List ℕ)) (at : ℕ) (d : _) → (noted_iri o at d).triples ≡ d.triples
iri_keeps None at d = refl
iri_keeps (Some iri) at d = cond_both (is_absolute iri) d _ (λ x. x.triples ≡ d.triples) (λ _. refl) (λ _. refl)

word_keeps : (w : Word) (at : ℕ) (d : _) → (noted_word w at d).triples ≡ d.triples
word_keeps (word.Reference text) at d = iri_keeps (iri_of (word.Reference text) d) at d
word_keeps (word.Name prefix local) at d = iri_keeps (iri_of (word.Name prefix local) d) at d
word_keeps word.Sign at d = refl
word_keeps (word.Label text) at d = refl
word_keeps (word.Quoted text) at d = refl
word_keeps (word.Tag text) at d = refl
word_keeps (word.Integer text) at d = refl
word_keeps (word.Decimal text) at d = refl
word_keeps (word.Double text) at d = refl
word_keeps (word.Boolean text) at d = refl
word_keeps word.IsA at d = refl

-- ---- terms

type_fine : (iri : List ℕ) → AllIri iri → IsWritableAnnotation (annotation_of_type iri)
type_fine iri h = cond_both (bytes_eq iri xsd_string) Plain (Typed iri) IsWritableAnnotation (λ _. tt) (λ _. h)

term_fine : (w : Word) → FineWord w → (at : ℕ) (d : _) → (noted_word w at d).relative ≡ None → IsWritableValue (term_of w d)
term_fine (word.Reference text) h at d e = (word_known (word.Reference text) at d e).1
term_fine (word.Name prefix local) h at d e = (word_known (word.Name prefix local) at d e).1
term_fine word.Sign h at d e = refl
term_fine (word.Label text) h at d e = tt
term_fine (word.Quoted text) h at d e = (h, tt)
term_fine (word.Tag text) h at d e = refl
term_fine (word.Integer text) h at d e = (h, type_fine (xsd (codes "integer")) refl)
term_fine (word.Decimal text) h at d e = (h, type_fine (xsd (codes "decimal")) refl)
term_fine (word.Double text) h at d e = (h, type_fine (xsd (codes "double")) refl)
term_fine (word.Boolean text) h at d e = (h, type_fine (xsd (codes "boolean")) refl)
term_fine word.IsA h at d e = refl

tag_fine : (w : Word) → FineWord w → list_all is_visible (text_of_tag w) ≡ true
tag_fine (word.Tag text) h = h
tag_fine (word.Reference text) h = refl
tag_fine (word.Name prefix local) h = refl
tag_fine word.Sign h = refl
tag_fine (word.Label text) h = refl
tag_fine (word.Quoted text) h = refl
tag_fine (word.Integer text) h = refl
tag_fine (word.Decimal text) h = refl
tag_fine (word.Double text) h = refl
tag_fine (word.Boolean text) h = refl
tag_fine word.IsA h = refl

-- ---- triples

abbrev FineTriple : Triple → Type 0
FineTriple t = IsWritableValue t.object

take_fine : (n : ℕ) (ts : List Triple) → AllByRecursion FineTriple ts → AllByRecursion FineTriple (take n ts)
take_fine zero ts h = tt
take_fine (suc n) [] h = tt
take_fine (suc n) (t ∷ ts) h = (h.0, take_fine n ts h.1)

annotated_fine : (a : Annotation) → IsWritableAnnotation a → (t : Term) → IsWritableValue t → IsWritableValue (annotated a t)
annotated_fine a w (Iri iri) h = h
annotated_fine a w (Blank label) h = h
annotated_fine a w (Lit text b) h = (h.0, w)

last_fine : (a : Annotation) → IsWritableAnnotation a → (ts : List Triple) → AllByRecursion FineTriple ts → AllByRecursion FineTriple (without_last ts ++ map (annotated_triple a) (option_to_list (last_of ts)))
last_fine a w ts h = recursion_append FineTriple (without_last ts) (map (annotated_triple a) (option_to_list (last_of ts))) (take_fine (length ts - 1) ts h) (of (last_of ts) (λ t e. recursion_get FineTriple ts (length ts - 1) t h e))
  where
    of : (o : Option Triple) → ((t : Triple) → o ≡ Some t → FineTriple t) → AllByRecursion FineTriple (map (annotated_triple a) (option_to_list o))
    of None k = tt
    of (Some t) k = (annotated_fine a w t.object (k t refl), tt)

-- ---- the document

abbrev FineTriples : List Triple → Type 0
FineTriples ts = AllByRecursion FineTriple ts

object_fine : (object : Term) (at : ℕ) (d : _) (e : _) → e ≡ with_object object at d → FineTriples d.triples → IsWritableValue object → FineTriples (with_object object at d).triples
object_fine object at d e s h w = recursion_append FineTriple d.triples (record { subject = d.subject; predicate = d.predicate; object = object; at = at } ∷ []) h (w, tt)

restored_fine : (o : _) (d : _) → (restored o d).relative ≡ None → (d.relative ≡ None → FineTriples d.triples) → FineTriples (restored o d).triples
restored_fine None d e before = before e
restored_fine (Some o) d e before = before e

-- what was read before, where the IRI of a token is noted
still : (w : Word) (at : ℕ) (d : _) → (noted_word w at d).relative ≡ None → (d.relative ≡ None → FineTriples d.triples) → FineTriples (noted_word w at d).triples
still w at d e before = subst FineTriples (sym (word_keeps w at d)) (before (word_known w at d e).0)

act_fine : (r : Role) (x d : _) → (act r x d).relative ≡ None → FineWord x.word → (d.relative ≡ None → FineTriples d.triples) → FineTriples (act r x d).triples
act_fine role.Choice x d e fine before = before e
act_fine role.Other x d e fine before = before e
act_fine role.PrefixName x d e fine before = before e
act_fine role.PrefixIri x d e fine before = still x.word x.at d e before
act_fine role.BaseIri x d e fine before = still x.word x.at d e before
act_fine role.Subject x d e fine before = still x.word x.at d e before
act_fine role.Verb x d e fine before = still x.word x.at d e before
act_fine role.Object x d e fine before = object_fine (term_of x.word d) x.at (noted_word x.word x.at d) _ refl (still x.word x.at d e before) (term_fine x.word fine x.at d e)
act_fine role.Datatype x d e fine before =
    last_fine (annotation_of_type (iri_text x d)) (type_fine (iri_text x d) (word_known x.word x.at d e).1) (noted_word x.word x.at d).triples (still x.word x.at d e before)
act_fine role.Language x d e fine before = last_fine (Lang (text_of_tag x.word)) (tag_fine x.word fine) d.triples (before e)
act_fine role.OpenSubject x d e fine before = before e
act_fine role.OpenObject x d e fine before = object_fine (node_at x.at) x.at d _ refl (before e) tt
act_fine role.CloseObject x d e fine before = restored_fine (last_of d.outer) d e before

pub document_fine : (text : List ℕ) (ns : List Note) (ts : List Token) (d : _) → (document_of ns (lexemes_of text ts) d).relative ≡ None
    → AllByRecursion (FineToken text) ts → (d.relative ≡ None → FineTriples d.triples) → FineTriples (document_of ns (lexemes_of text ts) d).triples
unfolding document_of
document_fine text [] ts d e h before = before e
document_fine text (n ∷ ns) [] d e h before =
    cond_both (is_choice (role_of n.symbol)) (document_of ns [] d) _ (λ x. x.relative ≡ None → FineTriples x.triples)
    (λ _. λ k. document_fine text ns [] d k h before) (λ _. before) e
document_fine text (n ∷ ns) (t ∷ ts) d e h before =
    cond_both (is_choice (role_of n.symbol)) (document_of ns (lexemes_of text (t ∷ ts)) d) _ (λ x. x.relative ≡ None → FineTriples x.triples)
    (λ _. λ k. document_fine text ns (t ∷ ts) d k h before)
    (λ _. λ k. document_fine text ns ts (act (role_of n.symbol) (lexeme_of text t) d) k h.1 (λ r. act_fine (role_of n.symbol) (lexeme_of text t) d r h.0 before)) e

pub kept_fine : (ts kept : List Triple) → FineTriples kept → FineTriples ts → FineTriples (fold with_triple kept ts)
kept_fine [] kept k h = k
kept_fine (t ∷ ts) kept k h =
    kept_fine ts (with_triple kept t)
    (cond_both (list_any (triple_eq t) kept) kept (kept ++ t ∷ []) FineTriples (λ _. k) (λ _. recursion_append FineTriple kept (t ∷ []) k (h.0, tt)))
    h.1
