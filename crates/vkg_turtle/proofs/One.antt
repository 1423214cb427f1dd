-- There is one answer.
use Rattle.std.proofs.Common.{◌≡◌, ℕ, List, [], ◌∷◌, Option, Some, None, ap, sym, ◌∙◌, subst}
use Rattle.std.proofs.lemmas.Option.{same_Some}
use Rattle.vkg_grammar.specs.Grammar.{Derives}
use Rattle.vkg_grammar.specs.Kinds.{kinds_of}
use Rattle.vkg_grammar.proofs.Outcomes.{same_tokens, too_deep_once, deep_not_shallow, derived_no_text, no_text_once}
use Rattle.vkg_turtle.specs.declared.document.Document.{Document}
use Rattle.vkg_turtle.specs.declared.grammar_table.TheConstants.{TURTLE}
use Rattle.vkg_turtle.specs.declared.reading.TurtleFault.{TurtleFault}
use Rattle.vkg_turtle.specs.declared.triple.Triple.{Triple}
use Rattle.vkg_turtle.specs.Document.{document_of, begun, triples_of}
use Rattle.vkg_turtle.specs.Words.{lexemes_of}
use Rattle.vkg_tokens.specs.Mark.{without_mark}
use Rattle.vkg_turtle.specs.Reading.{turtle, fault, fault_of, Says, IsTooDeepText, IsNoText, IsDocumentText, IsFaultOf, lexical, too_deep, no_text, no_document, IsDetermined}
use Rattle.vkg_turtle.proofs.Lexical.{one_first, not_bad}

one_said : {text base : List ℕ} {d e : Document} → Says text base d → Says text base e → d ≡ e
one_said {text = text} {base = base} a b =
    let t : b.tokens ≡ a.tokens = same_tokens b.cut a.cut in
    let n : b.notes ≡ a.notes = a.derived.only b.notes (subst (λ ts. Derives TURTLE (0 ∷ []) (kinds_of ts) b.notes) t b.derived.derives) in
    a.said ∙ (λ i. document_of (sym n i) (lexemes_of text (sym t i)) (begun base)) ∙ sym b.said

-- ---- too many brackets

one_too_deep : {text : List ℕ} {a b : ℕ} → IsTooDeepText text a → IsTooDeepText text b → a ≡ b
one_too_deep x y = too_deep_once turtle x.cut y.cut x.deep y.deep x.place y.place

no_said_deep : {text base : List ℕ} {d : Document} {at : ℕ} → Says text base d → IsTooDeepText text at → ⊥
no_said_deep a x = deep_not_shallow turtle x.cut a.cut x.deep a.shallow

no_text_deep : {text : List ℕ} {a b : ℕ} → IsNoText text a → IsTooDeepText text b → ⊥
no_text_deep a x = deep_not_shallow turtle x.cut a.cut x.deep a.shallow

-- ---- no text of the grammar

no_said : {text base : List ℕ} {d : Document} {at : ℕ} → Says text base d → IsNoText text at → ⊥
no_said {text = text} a b = derived_no_text TURTLE text a.cut b.cut a.derived.derives b.place

one_no_text : {text : List ℕ} {a b : ℕ} → IsNoText text a → IsNoText text b → a ≡ b
one_no_text {text = text} x y = no_text_once TURTLE text x.cut y.cut x.place y.place

-- ---- one answer

one_value : (text base : List ℕ) (triples others : List Triple) → IsDocumentText text base triples → IsDocumentText text base others → triples ≡ others
one_value text base triples others a b = a.are ∙ ap triples_of (one_said a.says b.says) ∙ sym b.are

not_both : (text base : List ℕ) (triples : List Triple) (f : TurtleFault) → IsDocumentText text base triples → IsFaultOf text base f → ⊥
not_both text base triples f a (lexical e) = not_bad a.utf8 a.says.cut e
not_both text base triples f a (too_deep u d) = no_said_deep a.says d
not_both text base triples f a (no_text u n) = no_said a.says n
not_both text base triples f a (no_document d u s e) = absurd (let g : ◌≡◌ {A = Option TurtleFault} None (Some f) = sym a.fine ∙ ap fault_of (one_said a.says s) ∙ e in cc)

one_fault : (text base : List ℕ) (f g : TurtleFault) → IsFaultOf text base f → IsFaultOf text base g → f ≡ g
one_fault text base f g (lexical e) (lexical d) = ap (fault 1) (one_first e d)
one_fault text base f g (lexical e) (too_deep u d) = absurd (not_bad u d.cut e)
one_fault text base f g (lexical e) (no_text u d) = absurd (not_bad u d.cut e)
one_fault text base f g (lexical e) (no_document w u d q) = absurd (not_bad u d.cut e)
one_fault text base f g (too_deep u e) (lexical d) = absurd (not_bad u e.cut d)
one_fault text base f g (too_deep u e) (too_deep v d) = ap (fault 3) (one_too_deep e d)
one_fault text base f g (too_deep u e) (no_text v d) = absurd (no_text_deep d e)
one_fault text base f g (too_deep u e) (no_document w v d q) = absurd (no_said_deep d e)
one_fault text base f g (no_text u e) (lexical d) = absurd (not_bad u e.cut d)
one_fault text base f g (no_text u e) (too_deep v d) = absurd (no_text_deep e d)
one_fault text base f g (no_text u e) (no_text v d) = ap (fault 2) (one_no_text e d)
one_fault text base f g (no_text u e) (no_document w v d q) = absurd (no_said d e)
one_fault text base f g (no_document x u e p) (lexical d) = absurd (not_bad u e.cut d)
one_fault text base f g (no_document x u e p) (too_deep v d) = absurd (no_said_deep e d)
one_fault text base f g (no_document x u e p) (no_text v d) = absurd (no_said e d)
one_fault text base f g (no_document x u e p) (no_document w v d q) = same_Some f g (sym p ∙ ap fault_of (one_said e d) ∙ q)

pub determined : IsDetermined
determined = record {
  one_value = λ bytes. one_value (without_mark bytes);
  one_fault = λ bytes. one_fault (without_mark bytes);
  not_both = λ bytes. not_both (without_mark bytes);
}
