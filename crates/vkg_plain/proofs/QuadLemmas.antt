-- The lines of quads, as a reader meets them.
use Rattle.std.proofs.Common.{◌≡◌, ◌++◌, ℕ, List, [], ◌∷◌, length, map, sym, ap, ◌∙◌, refl, arith, append_assoc, Option, Some, None, Result, Ok, Err}
use Rattle.std.specs.Prelude.{codes, MatchResult}
use Rattle.std.specs.Borrow.{Bor}
use Rattle.std.specs.List.{All}
use Rattle.std.proofs.lemmas.List.{append-nil}
use Rattle.std.proofs.lemmas.List.Elements.{All-head, All-tail}
use Rattle.vkg_base.specs.Written.{written}
use Rattle.vkg_terms.specs.NQuads.{Quad, term_text, graph_text, line}
use Rattle.vkg_terms.specs.Writable.{IsWritableQuad}
use Rattle.vkg_terms.specs.declared.term.Term.{Term}
use Rattle.vkg_terms.proofs.TextLemmas.{line_shape as line_parts}
use Rattle.vkg_plain.specs.declared.read_fault.ReadFault.{ReadFault}
use Rattle.vkg_plain.specs.declared.read_fault.ReadFault.TheVariants.{Memory}
use Rattle.vkg_plain.specs.Reading.{IsHeldQuad, ReadsTerm, ReadsQuad}

-- the end of a line behind the object
abbrev pub ending : Option Term → List ℕ → List ℕ
ending graph rest = graph_text graph ++ (codes " ." ++ 10 ∷ rest)

pub ending_begins : (graph : Option Term) (rest : List ℕ) → (more : List ℕ) × (ending graph rest ≡ 32 ∷ more)
ending_begins None rest = (46 ∷ 10 ∷ rest, refl)
ending_begins (Some t) rest = (term_text t ++ (codes " ." ++ 10 ∷ rest), refl)

pub line_shape : (q : Quad) (rest : List ℕ) → line q ++ 10 ∷ rest ≡ term_text q.subject ++ 32 ∷ (term_text q.predicate ++ 32 ∷ (term_text q.object ++ ending q.graph rest))
line_shape q rest = ap (λ l. l ++ 10 ∷ rest) (line_parts q) ∙ shape (term_text q.subject) (term_text q.predicate) (term_text q.object) (graph_text q.graph) (codes " .") (10 ∷ rest)
  where
    shape : (s p o g d r : List ℕ) → (s ++ (32 ∷ (p ++ (32 ∷ (o ++ (g ++ d)))))) ++ r ≡ s ++ (32 ∷ (p ++ (32 ∷ (o ++ (g ++ (d ++ r))))))
    shape s p o g d r = simp append_assoc

-- what a reader of terms answers along a line
pub at_subject : (text : List ℕ) (answer : Result (Term × Bor (List ℕ)) ReadFault) → ReadsTerm text answer → (q : Quad) (rest : List ℕ) → IsWritableQuad q → IsHeldQuad q → text ≡ line q ++ 10 ∷ rest
    → MatchResult answer (λ p. (p.0 ≡ q.subject) × (p.1.now ≡ term_text q.predicate ++ 32 ∷ (term_text q.object ++ ending q.graph rest))) (λ fault. fault ≡ Memory)
at_subject text answer reads q rest w h e = reads q.subject _ w.subject h.subject (e ∙ line_shape q rest)

pub at_predicate : (text : List ℕ) (answer : Result (Term × Bor (List ℕ)) ReadFault) → ReadsTerm text answer → (q : Quad) (rest : List ℕ) → IsWritableQuad q → IsHeldQuad q → text ≡ term_text q.predicate ++ 32 ∷ (term_text q.object ++ ending q.graph rest)
    → MatchResult answer (λ p. (p.0 ≡ q.predicate) × (p.1.now ≡ term_text q.object ++ ending q.graph rest)) (λ fault. fault ≡ Memory)
at_predicate text answer reads q rest w h e = reads q.predicate _ w.predicate h.predicate e

pub at_object : (text : List ℕ) (answer : Result (Term × Bor (List ℕ)) ReadFault) → ReadsTerm text answer → (q : Quad) (rest : List ℕ) → IsWritableQuad q → IsHeldQuad q → text ≡ term_text q.object ++ ending q.graph rest
    → MatchResult answer (λ p. (p.0 ≡ q.object) × (32 ∷ p.1.now ≡ ending q.graph rest)) (λ fault. fault ≡ Memory)
at_object text answer reads q rest w h e =
    let more = ending_begins q.graph rest in
    go answer more.0 more.1 (reads q.object more.0 w.object h.object (e ∙ ap (λ (l : List ℕ). term_text q.object ++ l) more.1))
  where
    go : (answer : Result (Term × Bor (List ℕ)) ReadFault) (more : List ℕ) → ending q.graph rest ≡ 32 ∷ more → MatchResult answer (λ p. (p.0 ≡ q.object) × (p.1.now ≡ more)) (λ fault. fault ≡ Memory)
        → MatchResult answer (λ p. (p.0 ≡ q.object) × (32 ∷ p.1.now ≡ ending q.graph rest)) (λ fault. fault ≡ Memory)
    go (Ok p) more is (same, behind) = (same, ap (λ (l : List ℕ). 32 ∷ l) behind ∙ sym is)
    go (Err fault) more is h = h

-- so many quads have been found: where the text is the lines of quads, those that are left make up the quads
abbrev pub HasFound : List ℕ → List Quad → List ℕ → Type 0
HasFound text found left = (quads : List Quad) → All IsWritableQuad quads → All IsHeldQuad quads → text ≡ written (map line quads)
    → (more : List Quad) × (All IsWritableQuad more) × (All IsHeldQuad more) × (found ++ more ≡ quads) × (left ≡ written (map line more))

step : (left : List ℕ) (behind : Bor (List ℕ)) (found : List Quad) (quad : Quad) (quads more : List Quad) → (length left ≡ 0 → ⊥) → ReadsQuad left (Ok (quad, behind)) → All IsWritableQuad more → All IsHeldQuad more → found ++ more ≡ quads → left ≡ written (map line more)
    → (later : List Quad) × (All IsWritableQuad later) × (All IsHeldQuad later) × ((found ++ quad ∷ []) ++ later ≡ quads) × (behind.now ≡ written (map line later))
step left behind found quad quads [] some reads w h whole is = absurd (some (ap length is))
step left behind found quad quads (q ∷ qs) some reads w h whole is =
    let parts = reads q (written (map line qs)) (All-head IsWritableQuad q qs w) (All-head IsHeldQuad q qs h) (is ∙ append_assoc (line q) (10 ∷ []) (written (map line qs))) in
    (qs, All-tail IsWritableQuad q qs w, All-tail IsHeldQuad q qs h, append_assoc found (quad ∷ []) qs ∙ ap (λ x. found ++ x ∷ qs) parts.0 ∙ whole, parts.1)

pub found_more : (text left : List ℕ) (behind : Bor (List ℕ)) (found now : List Quad) (quad : Quad) → HasFound text found left → (length left ≡ 0 → ⊥) → ReadsQuad left (Ok (quad, behind)) → now ≡ found ++ quad ∷ [] → HasFound text now behind.now
found_more text left behind found now quad had some reads is quads w h e =
    let have = had quads w h e in
    let more = step left behind found quad quads have.0 some reads have.1 have.2 have.3 have.4 in
    (more.0, more.1, more.2, ap (λ l. l ++ more.0) is ∙ more.3, more.4)

-- where lines are left, only want of memory keeps the next quad back
pub found_fault : (text left : List ℕ) (found : List Quad) (fault : ReadFault) → HasFound text found left → (length left ≡ 0 → ⊥) → ReadsQuad left (Err fault) → (quads : List Quad) → All IsWritableQuad quads → All IsHeldQuad quads → text ≡ written (map line quads) → fault ≡ Memory
found_fault text left found fault had some reads quads w h e =
    let have = had quads w h e in
    at have.0 have.1 have.2 have.4
  where
    at : (more : List Quad) → All IsWritableQuad more → All IsHeldQuad more → left ≡ written (map line more) → fault ≡ Memory
    at [] w h is = absurd (some (ap length is))
    at (q ∷ qs) w h is = reads q (written (map line qs)) (All-head IsWritableQuad q qs w) (All-head IsHeldQuad q qs h) (is ∙ append_assoc (line q) (10 ∷ []) (written (map line qs)))

pub found_all : (text left : List ℕ) (found : List Quad) → HasFound text found left → length left ≡ 0 → (quads : List Quad) → All IsWritableQuad quads → All IsHeldQuad quads → text ≡ written (map line quads) → found ≡ quads
found_all text left found had none quads w h e =
    let have = had quads w h e in
    at have.0 have.3 have.4
  where
    filled : (a b : List ℕ) → length ((a ++ 10 ∷ []) ++ b) ≡ 0 → ⊥
    filled [] b n = omega arith
    filled (x ∷ a) b n = omega arith

    at : (more : List Quad) → found ++ more ≡ quads → left ≡ written (map line more) → found ≡ quads
    at [] whole is = sym (append-nil found) ∙ whole
    at (q ∷ qs) whole is = absurd (filled (line q) (written (map line qs)) (sym (ap length is) ∙ none))
