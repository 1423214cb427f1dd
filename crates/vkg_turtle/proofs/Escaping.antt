-- One character of a text more.
use Rattle.std.proofs.Common.{◌≡◌, ℕ, List, [], ◌∷◌, ◌++◌, fold, flat_map, encode_utf8, refl, sym, ap, ◌∙◌, append_assoc, append-nil}
use Rattle.std.proofs.lemmas.List.Concat.{flat_map-append}
use Rattle.std.proofs.lemmas.List.Sums.{fold-append}
use Rattle.vkg_turtle.specs.declared.escape.Escape.{Escape}
use Rattle.vkg_turtle.specs.declared.escape.Escape.TheVariants.{Outside}
use Rattle.vkg_turtle.specs.Escapes.{behind, meant, unescaped}

unescaped-append : (e : Escape) (xs ys : List ℕ) → unescaped e (xs ++ ys) ≡ unescaped e xs ++ unescaped (fold behind e xs) ys
unescaped-append e [] ys = refl
unescaped-append e (x ∷ xs) ys = ap (λ l. meant e x ++ l) (unescaped-append (behind e x) xs ys) ∙ sym (append_assoc (meant e x) (unescaped (behind e x) xs) (unescaped (fold behind (behind e x) xs) ys))

pub step_text : (out new cs : List ℕ) (e : Escape) (c : ℕ) → out ≡ flat_map encode_utf8 (unescaped Outside cs) → e ≡ fold behind Outside cs → new ≡ out ++ flat_map encode_utf8 (meant e c) → new ≡ flat_map encode_utf8 (unescaped Outside (cs ++ c ∷ []))
step_text out new cs e c o i n =
    n ∙ (λ k. o k ++ flat_map encode_utf8 (meant (i k) c))
    ∙ sym (flat_map-append encode_utf8 (unescaped Outside cs) (meant (fold behind Outside cs) c))
    ∙ ap (λ l. flat_map encode_utf8 (unescaped Outside cs ++ l)) (sym (append-nil (meant (fold behind Outside cs) c)))
    ∙ ap (flat_map encode_utf8) (sym (unescaped-append Outside cs (c ∷ [])))

pub step_escape : (next e : Escape) (cs : List ℕ) (c : ℕ) → e ≡ fold behind Outside cs → next ≡ behind e c → next ≡ fold behind Outside (cs ++ c ∷ [])
step_escape next e cs c i n = n ∙ ap (λ x. behind x c) i ∙ sym (fold-append behind Outside cs (c ∷ []))
