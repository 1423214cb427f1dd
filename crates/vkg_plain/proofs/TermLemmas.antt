-- The texts of terms, as a reader meets them: a blank stands behind each, and none within what it reads at once.
use Rattle.std.proofs.Common.{◌≡◌, ◌≢◌, ◌<◌, ◌++◌, ℕ, List, [], ◌∷◌, true, nat_le, length, get_or, sym, ap, ◌∙◌, refl, arith, append_assoc, not, Result}
use Rattle.std.specs.Prelude.{flat_map, chars, codes, MatchResult}
use Rattle.std.specs.List.{list_all}
use Rattle.std.proofs.lemmas.Bool.{false≢true}
use Rattle.std.proofs.lemmas.Bool.Decides.{nat_tests}
use Rattle.std.proofs.lemmas.List.Folds.{list_all_at, list_all-append}
use Rattle.std.proofs.lemmas.Result.{MatchResult-weaker}
use Rattle.vkg_terms.specs.Iri.{is_iri_character}
use Rattle.vkg_terms.specs.NQuads.{term_text, escaped, bracketed, annotation_text}
use Rattle.vkg_terms.specs.Writable.{IsWritable, IsWritableAnnotation, is_visible}
use Rattle.vkg_terms.specs.declared.term.Term.{Term}
use Rattle.vkg_terms.specs.declared.term.Term.TheVariants.{Iri, Blank, Lit}
use Rattle.vkg_terms.specs.declared.term.Annotation.{Annotation}
use Rattle.vkg_terms.specs.declared.term.Annotation.TheVariants.{Plain, Lang, Typed}
use Rattle.vkg_lists.proofs.Heads.{tail_same}
use Rattle.vkg_lists.proofs.Bools.{and_true, and_parts}
use Rattle.vkg_lists.proofs.Positions.{all_weaken}
use Rattle.vkg_plain.specs.declared.read_fault.ReadFault.{ReadFault}
use Rattle.vkg_plain.specs.declared.read_fault.ReadFault.TheVariants.{Memory}
use Rattle.vkg_plain.specs.Reading.{Gives}

pub no_blank : (xs : List ℕ) → list_all is_visible xs ≡ true → (i : ℕ) → i < length xs → get_or xs i 0 ≢ 32
no_blank xs h i l e = false≢true (sym (list_all_at is_visible xs i 0 l (ap is_visible e)) ∙ h)

visible : (b : ℕ) → is_iri_character b ≡ true → is_visible b ≡ true
visible b h = let low = (and_parts (not (nat_le b 32)) _ h).0 in grind (arith, nat_tests)

pub visible_bracketed : (iri : List ℕ) → list_all is_iri_character iri ≡ true → list_all is_visible (bracketed iri) ≡ true
visible_bracketed iri h =
    list_all-append is_visible iri (62 ∷ [])
    ∙ and_true (list_all is_visible iri) (list_all is_visible (62 ∷ [])) (all_weaken is_iri_character is_visible iri visible h) refl

pub visible_annotation : (a : Annotation) → IsWritableAnnotation a → list_all is_visible (annotation_text a) ≡ true
visible_annotation Plain h = refl
visible_annotation (Lang tag) h = h
visible_annotation (Typed datatype) h = visible_bracketed datatype h

abbrev pub IsUnquoted : List ℕ → Type 0
IsUnquoted text = (rest : List ℕ) → text ≢ 34 ∷ rest

-- the answer of `cut` at a text
abbrev pub CutsTo : List ℕ → List ℕ → List ℕ → Type 0
CutsTo text before behind = (front rest : List ℕ) → list_all is_visible front ≡ true → text ≡ front ++ 32 ∷ rest → (before ≡ front) × (behind ≡ rest)

abbrev pub HasNoCut : List ℕ → Type 0
HasNoCut text = (front rest : List ℕ) → list_all is_visible front ≡ true → text ≡ front ++ 32 ∷ rest → ⊥

-- the texts of names hold no blank
pub uncut : (text : List ℕ) → IsUnquoted text → HasNoCut text → (t : Term) (rest : List ℕ) → IsWritable t → text ≡ term_text t ++ 32 ∷ rest → ⊥
uncut text unquoted none (Iri iri) rest w e = none (bracketed iri) rest (visible_bracketed iri w) e
uncut text unquoted none (Blank label) rest w e = none (codes "_:" ++ label) rest w e
uncut text unquoted none (Lit form a) rest w e = unquoted _ e

abbrev pub ReadsIri : List ℕ → Result Term ReadFault → Type 0
ReadsIri text answer = (iri : List ℕ) → text ≡ bracketed iri → Gives answer (Iri iri)

abbrev pub ReadsBlank : List ℕ → Result Term ReadFault → Type 0
ReadsBlank text answer = (label : List ℕ) → text ≡ codes "_:" ++ label → Gives answer (Blank label)

with_rest : {T : Type 0} (answer : Result T ReadFault) (v : T) (behind rest : List ℕ) → Gives answer v → behind ≡ rest → MatchResult answer (λ x. (x ≡ v) × (behind ≡ rest)) (λ fault. fault ≡ Memory)
with_rest answer v behind rest h e = MatchResult-weaker answer h (λ x p. (p, e)) (λ y p. p)

-- what a name says, and what stands behind it
pub by_name : (text before behind : List ℕ) (answer : Result Term ReadFault) → IsUnquoted text → CutsTo text before behind → ReadsIri before answer → ReadsBlank before answer
    → (t : Term) (rest : List ℕ) → IsWritable t → text ≡ term_text t ++ 32 ∷ rest → MatchResult answer (λ x. (x ≡ t) × (behind ≡ rest)) (λ fault. fault ≡ Memory)
by_name text before behind answer unquoted cut named blank (Iri iri) rest w e =
    let parts = cut (bracketed iri) rest (visible_bracketed iri w) e in
    with_rest answer (Iri iri) behind rest (named iri parts.0) parts.1
by_name text before behind answer unquoted cut named blank (Blank label) rest w e =
    let parts = cut (codes "_:" ++ label) rest w e in
    with_rest answer (Blank label) behind rest (blank label parts.0) parts.1
by_name text before behind answer unquoted cut named blank (Lit form a) rest w e = absurd (unquoted _ e)

-- the parts of a literal behind its opening quote
pub literal_shape : (text form : List ℕ) (a : Annotation) (rest : List ℕ) → 34 ∷ text ≡ term_text (Lit form a) ++ 32 ∷ rest → text ≡ flat_map escaped (chars form) ++ 34 ∷ (annotation_text a ++ 32 ∷ rest)
literal_shape text form a rest e =
    tail_same _ _ _ _ e
    ∙ append_assoc (flat_map escaped (chars form) ++ 34 ∷ []) (annotation_text a) (32 ∷ rest)
    ∙ append_assoc (flat_map escaped (chars form)) (34 ∷ []) (annotation_text a ++ 32 ∷ rest)

-- what is neither empty nor a tag is a datatype
pub annotation_typed : (text : List ℕ) (a : Annotation) → (length text ≡ 0 → ⊥) → ((rest : List ℕ) → text ≢ 64 ∷ rest) → text ≡ annotation_text a → (datatype : List ℕ) × (a ≡ Typed datatype) × (text ≡ codes "^^" ++ bracketed datatype)
annotation_typed text Plain some untagged e = absurd (some (ap length e))
annotation_typed text (Lang tag) some untagged e = absurd (untagged tag e)
annotation_typed text (Typed datatype) some untagged e = (datatype, refl, e)
