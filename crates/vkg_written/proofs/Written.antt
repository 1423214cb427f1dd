-- The objects of a document can be written.
use Rattle.std.proofs.Common.{◌≡◌, ◌∙◌, ℕ, true, ◌==◌, ◌||◌, List, [], ◌∷◌, refl, sym, ap, subst, Option, Some, None, IsUtf8, arith}
use Rattle.std.specs.List.{AllByRecursion, list_all}
use Rattle.std.specs.Str.{str_to_ascii_lowercase}
use Rattle.std.proofs.lemmas.Bool.{cond_both}
use Rattle.std.proofs.lemmas.Bool.Decides.{nat_tests}
use Rattle.vkg_terms.specs.Writable.{is_visible}
use Rattle.vkg_tokens.specs.Mark.{without_mark}
use Rattle.vkg_tokens.specs.declared.cutting.Token.{Token}
use Rattle.vkg_turtle.specs.declared.lexeme.Word.TheVariants as word
use Rattle.vkg_turtle.specs.declared.triple.Triple.{Triple}
use Rattle.vkg_turtle.specs.Document.{begun, document_of, triples_of}
use Rattle.vkg_turtle.specs.Escapes.{text_meant}
use Rattle.vkg_turtle.specs.Reading.{IsDocumentOf, fault_if}
use Rattle.vkg_turtle.specs.Words.{between, inside, lexemes_of, name_in, quotes, word_of}
use Rattle.vkg_written.specs.Mappings.{HoldsWritableValues}
use Rattle.vkg_written.proofs.Objects.{FineToken, FineWord, document_fine, kept_fine}
use Rattle.vkg_written.proofs.Texts.{between_all, between_utf8, inside_all, lowered_visible, text_utf8}
use Rattle.vkg_written.proofs.Tokens.{IsVisibleTag, tags_visible}

word_fine : (kind : ℕ) (token : List ℕ) → IsUtf8 token → (kind ≡ 20 → list_all is_visible token ≡ true) → FineWord (word_of kind token)
word_fine kind token u v =
    cond_both (kind == 15) (word.Reference (text_meant (inside token 1 1))) _ FineWord (λ _. tt)
    (λ _. cond_both ((kind == 16) || (kind == 17)) (name_in token) _ FineWord (λ _. tt)
    (λ _. cond_both (kind == 18) (word.Label (inside token 2 0)) _ FineWord (λ _. tt)
    (λ _. cond_both (kind == 19) (word.Quoted (text_meant (inside token (quotes token) (quotes token)))) _ FineWord (λ _. text_utf8 (inside token (quotes token) (quotes token)) (between_utf8 token (quotes token) _ u))
    (λ _. cond_both (kind == 20) (word.Tag (str_to_ascii_lowercase (inside token 1 0))) _ FineWord (λ e. lowered_visible (inside token 1 0) (inside_all is_visible token 1 0 (v (grind (arith, nat_tests)))))
    (λ _. cond_both (kind == 21) (word.Integer token) _ FineWord (λ _. u)
    (λ _. cond_both (kind == 22) (word.Decimal token) _ FineWord (λ _. u)
    (λ _. cond_both (kind == 23) (word.Double token) _ FineWord (λ _. u)
    (λ _. cond_both ((kind == 11) || (kind == 12)) (word.Boolean token) _ FineWord (λ _. u)
    (λ _. cond_both (kind == 9) word.IsA word.Sign FineWord (λ _. tt) (λ _. tt))))))))))

tokens_fine : (text : List ℕ) → IsUtf8 text → (ts : List Token) → AllByRecursion (IsVisibleTag text) ts → AllByRecursion (FineToken text) ts
tokens_fine text u [] h = tt
tokens_fine text u (t ∷ ts) h =
    (word_fine t.kind (between text t.start t.end) (between_utf8 text t.start t.end u) (λ e. between_all is_visible text t.start t.end (h.0 e)), tokens_fine text u ts h.1)

-- no fault, and so no relative IRI
none_relative : (unknown relative : Option ℕ) → fault_if 4 unknown (fault_if 5 relative None) ≡ None → relative ≡ None
none_relative None None e = refl
none_relative None (Some at) e = cc
none_relative (Some at) relative e = cc

pub document_is_writable : (bytes base : List ℕ) (triples : List Triple) → IsDocumentOf bytes base triples → HoldsWritableValues triples
document_is_writable bytes base triples d =
    let text = without_mark bytes in
    let s = d.says in
    let e = none_relative d.document.unknown d.document.relative d.fine in
    let read = document_fine text s.notes s.tokens (begun base) (ap (λ x. x.relative) (sym s.said) ∙ e) (tokens_fine text d.utf8 s.tokens (tags_visible text s.tokens s.cut)) (λ _. tt) in
    subst HoldsWritableValues (ap triples_of (sym s.said) ∙ sym d.are) (kept_fine (document_of s.notes (lexemes_of text s.tokens) (begun base)).triples [] tt read)
