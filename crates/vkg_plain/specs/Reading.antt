-- What is read from a text that is written as `dump` writes it (RDF 1.1 N-Quads, 2 to 4).
use Rattle.std.specs.Prelude.{◌≡◌, ◌≢◌, ℕ, List, ◌∷◌, ◌++◌, codes, Option, IfSome, Result, MatchResult}
use Rattle.std.specs.Borrow.{Bor}
use Rattle.vkg_terms.specs.NQuads.{Quad, term_text, graph_text, line}
use Rattle.vkg_terms.specs.Vocabulary.{xsd_string}
use Rattle.vkg_terms.specs.Writable.{IsWritable, IsWritableIfAny, IsWritableQuad}
use Rattle.vkg_terms.specs.declared.term.Term.{Term}
use Rattle.vkg_terms.specs.declared.term.Term.TheVariants.{Iri, Blank, Lit}
use Rattle.vkg_terms.specs.declared.term.Annotation.{Annotation}
use Rattle.vkg_terms.specs.declared.term.Annotation.TheVariants.{Plain, Lang, Typed}
use Rattle.vkg_plain.specs.declared.read_fault.ReadFault.{ReadFault}
use Rattle.vkg_plain.specs.declared.read_fault.ReadFault.TheVariants.{Memory}

-- every `Annotation` of the program is one of these: a literal of datatype xsd:string is held as a plain one
abbrev pub IsHeldAnnotation : Annotation → Type 0
IsHeldAnnotation Plain = Unit {0}
IsHeldAnnotation (Lang tag) = Unit {0}
IsHeldAnnotation (Typed datatype) = datatype ≢ xsd_string

abbrev pub IsHeld : Term → Type 0
IsHeld (Iri iri) = Unit {0}
IsHeld (Blank label) = Unit {0}
IsHeld (Lit text annotation) = IsHeldAnnotation annotation

abbrev pub IsHeldIfAny : Option Term → Type 0
IsHeldIfAny o = IfSome o IsHeld

pub record IsHeldQuad (quad : Quad) : Type 0 where
  pub subject : IsHeld quad.subject
  pub predicate : IsHeld quad.predicate
  pub object : IsHeld quad.object
  pub graph : IsHeldIfAny quad.graph

-- the answer is this value, or memory ran out
abbrev pub Gives : {T : Type 0} → Result T ReadFault → T → Type 0
Gives answer value = MatchResult answer (λ v. v ≡ value) (λ fault. fault ≡ Memory)

-- the answer is this value and the rest of the text, or memory ran out
abbrev pub Reads : {T : Type 0} → Result (T × Bor (List ℕ)) ReadFault → T → List ℕ → Type 0
Reads answer value rest = MatchResult answer (λ p. (p.0 ≡ value) × (p.1.now ≡ rest)) (λ fault. fault ≡ Memory)

-- where the text begins with a term and a blank, the answer is that term
abbrev pub ReadsTerm : List ℕ → Result (Term × Bor (List ℕ)) ReadFault → Type 0
ReadsTerm text answer = (term : Term) (rest : List ℕ) → IsWritable term → IsHeld term → text ≡ term_text term ++ 32 ∷ rest → Reads answer term rest

-- the same of a literal, behind its opening quote
abbrev pub ReadsLiteral : List ℕ → Result (Term × Bor (List ℕ)) ReadFault → Type 0
ReadsLiteral text answer = (form : List ℕ) (annotation : Annotation) (rest : List ℕ) → IsWritable (Lit form annotation) → IsHeld (Lit form annotation) → 34 ∷ text ≡ term_text (Lit form annotation) ++ 32 ∷ rest → Reads answer (Lit form annotation) rest

-- where the text goes on behind an object's blank, with a graph's name or none, the answer is that name
abbrev pub ReadsGraph : List ℕ → Result (Option Term × Bor (List ℕ)) ReadFault → Type 0
ReadsGraph text answer = (graph : Option Term) (rest : List ℕ) → IsWritableIfAny graph → IsHeldIfAny graph → 32 ∷ text ≡ graph_text graph ++ (codes " ." ++ 10 ∷ rest) → Reads answer graph rest

-- where the text begins with the line of a quad, the answer is that quad
abbrev pub ReadsQuad : List ℕ → Result (Quad × Bor (List ℕ)) ReadFault → Type 0
ReadsQuad text answer = (quad : Quad) (rest : List ℕ) → IsWritableQuad quad → IsHeldQuad quad → text ≡ line quad ++ 10 ∷ rest → Reads answer quad rest
