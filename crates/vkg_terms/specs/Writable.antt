-- When the texts of terms and quads can be told apart.
use Rattle.std.specs.Prelude.{◌≡◌, ℕ, Bool, not, nat_lt, List, [], ◌∷◌, Option, IfSome, IsUtf8, true}
use Rattle.std.specs.List.{list_all}
use Rattle.vkg_terms.specs.Iri.{is_iri_character, is_one_of}
use Rattle.vkg_terms.specs.NQuads.{Quad, term_text, line}
use Rattle.vkg_terms.specs.declared.term.Term.{Term}
use Rattle.vkg_terms.specs.declared.term.Term.TheVariants.{Iri, Blank, Lit}
use Rattle.vkg_terms.specs.declared.term.Annotation.{Annotation}
use Rattle.vkg_terms.specs.declared.term.Annotation.TheVariants.{Plain, Lang, Typed}

-- a literal's lexical form is a text; every `Term` of the program has such a form
abbrev pub HoldsText : Term → Type 0
HoldsText (Iri iri) = Unit {0}
HoldsText (Blank label) = Unit {0}
HoldsText (Lit text annotation) = IsUtf8 text

-- no other term has this text
abbrev pub IsOnlyTerm : Term → List ℕ → Type 0
IsOnlyTerm term text = (other : Term) → HoldsText other → term_text other ≡ text → other ≡ term

-- neither a blank nor a control character
abbrev pub is_visible : ℕ → Bool
is_visible b = nat_lt 32 b

abbrev pub IsWritableAnnotation : Annotation → Type 0
IsWritableAnnotation Plain = Unit {0}
IsWritableAnnotation (Lang tag) = list_all is_visible tag ≡ true
IsWritableAnnotation (Typed datatype) = list_all is_iri_character datatype ≡ true

-- RDF 1.1 N-Quads, 4: IRIs hold what IRIREF allows, labels and tags no blank, lexical forms are texts
abbrev pub IsWritable : Term → Type 0
IsWritable (Iri iri) = list_all is_iri_character iri ≡ true
IsWritable (Blank label) = list_all is_visible label ≡ true
IsWritable (Lit text annotation) = IsUtf8 text × IsWritableAnnotation annotation

abbrev pub IsWritableIfAny : Option Term → Type 0
IsWritableIfAny o = IfSome o IsWritable

pub record IsWritableQuad (quad : Quad) : Type 0 where
  pub subject : IsWritable quad.subject
  pub predicate : IsWritable quad.predicate
  pub object : IsWritable quad.object
  pub graph : IsWritableIfAny quad.graph

-- no other quad has this line
abbrev pub IsOnlyQuad : Quad → List ℕ → Type 0
IsOnlyQuad quad text = IsWritableQuad quad → (other : Quad) → IsWritableQuad other → line other ≡ text → other ≡ quad

-- neither tab, line feed nor carriage return
abbrev pub is_inline : ℕ → Bool
is_inline b = not (is_one_of (9 ∷ 10 ∷ 13 ∷ []) b)
