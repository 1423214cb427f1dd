-- The line of a solution: no other solution of as many places has it, and it is one line.
use Rattle.std.proofs.Common.{◌≡◌, ◌∙◌, ℕ, suc, true, List, [], ◌∷◌, ◌++◌, flat_map, map, length, Option, Some, None, ⊎_elim, refl, sym, ap, arith, append-nil}
use Rattle.std.specs.List.{Contains, list_all}
use Rattle.std.proofs.lemmas.List.Elements.{Contains-append_cases}
use Rattle.vkg_lists.proofs.Members.{Contains-none, Contains-cons_cases, each_of_all}
use Rattle.vkg_lists.proofs.Texts.{joined_is}
use Rattle.vkg_terms.specs.declared.term.Term.{Term}
use Rattle.vkg_terms.specs.declared.term.Term.TheVariants.{Iri, Blank, Lit}
use Rattle.vkg_terms.specs.NQuads.{term_text}
use Rattle.vkg_terms.specs.Writable.{HoldsText, IsWritable, is_inline}
use Rattle.vkg_terms.proofs.TextLemmas.{term_text_inline, term_text_same, until}
use Rattle.vkg_algebra.specs.Answer.{place_text, solution_line}
use Rattle.vkg_algebra.specs.Laws.{BindsWritable}
use Rattle.vkg_algebra.specs.Solutions.{Solution}

-- ---- a place

abbrev IsWritablePlace : Option Term → Type 0
IsWritablePlace o = (t : Term) → o ≡ Some t → IsWritable t

place_inline : (o : Option Term) → IsWritablePlace o → list_all is_inline (place_text o) ≡ true
place_inline None w = refl
place_inline (Some t) w = term_text_inline t (w t refl)

holds_text : (t : Term) → IsWritable t → HoldsText t
holds_text (Iri iri) w = tt
holds_text (Blank label) w = tt
holds_text (Lit text annotation) w = w.0

no_text : (t : Term) → [] ≡ term_text t → ⊥
no_text (Iri iri) e = cc e
no_text (Blank label) e = cc e
no_text (Lit text annotation) e = cc e

place_same : (o p : Option Term) → IsWritablePlace o → IsWritablePlace p → place_text o ≡ place_text p → o ≡ p
place_same None None w x e = refl
place_same None (Some u) w x e = absurd (no_text u e)
place_same (Some t) None w x e = absurd (no_text t (sym e))
place_same (Some t) (Some u) w x e = ap Some (term_text_same t u (holds_text t (w t refl)) (holds_text u (x u refl)) e)

-- ---- a line

-- each text behind a tab
abbrev behind_tabs : List (List ℕ) → List ℕ
behind_tabs texts = flat_map (λ u. 9 ∷ u) texts

places_same : (o p : Option Term) (s t : Solution) → length s ≡ length t → BindsWritable (o ∷ s) → BindsWritable (p ∷ t)
    → place_text o ++ behind_tabs (map place_text s) ≡ place_text p ++ behind_tabs (map place_text t) → o ∷ s ≡ p ∷ t
places_same o p [] [] n w x e =
    ap (λ q. q ∷ []) (place_same o p (w 0) (x 0) (sym (append-nil (place_text o)) ∙ e ∙ append-nil (place_text p)))
places_same o p [] (q ∷ t) n w x e = absurd (omega arith)
places_same o p (r ∷ s) [] n w x e = absurd (omega arith)
places_same o p (r ∷ s) (q ∷ t) n w x e =
    let parts = until is_inline 9 (place_text o) (place_text p) _ _ refl (place_inline o (w 0)) (place_inline p (x 0)) e in
    let more = places_same r q s t (omega arith) (λ v. w (suc v)) (λ v. x (suc v)) parts.1 in
    λ i. place_same o p (w 0) (x 0) parts.0 i ∷ more i

pub solution_line_same : (s t : Solution) → length s ≡ length t → BindsWritable s → BindsWritable t → solution_line s ≡ solution_line t → s ≡ t
solution_line_same [] [] n w x e = refl
solution_line_same [] (p ∷ t) n w x e = absurd (omega arith)
solution_line_same (o ∷ s) [] n w x e = absurd (omega arith)
solution_line_same (o ∷ s) (p ∷ t) n w x e =
    places_same o p s t (omega arith) w x (sym (joined_is 9 (place_text o) (map place_text s)) ∙ e ∙ joined_is 9 (place_text p) (map place_text t))

no_feed : (o : Option Term) → IsWritablePlace o → Contains (place_text o) 10 → ⊥
no_feed o w c = let bad : is_inline 10 ≡ true = each_of_all is_inline (place_text o) (place_inline o w) 10 c in cc bad

no_feed_line : (o : Option Term) (s : Solution) → BindsWritable (o ∷ s) → Contains (place_text o ++ behind_tabs (map place_text s)) 10 → ⊥
no_feed_line o [] w c = ⊎_elim (no_feed o (w 0)) (λ d. Contains-none 10 d) (Contains-append_cases (place_text o) [] 10 c)
no_feed_line o (p ∷ s) w c = ⊎_elim (no_feed o (w 0))
    (λ d. ⊎_elim (λ e. omega (arith, e)) (λ f. no_feed_line p s (λ v. w (suc v)) f) (Contains-cons_cases 9 _ 10 d))
    (Contains-append_cases (place_text o) (behind_tabs (map place_text (p ∷ s))) 10 c)

pub solution_line_inline : (s : Solution) → BindsWritable s → Contains (solution_line s) 10 → ⊥
solution_line_inline [] w c = Contains-none 10 c
solution_line_inline (o ∷ s) w c = no_feed_line o s w (rw (joined_is 9 (place_text o) (map place_text s)) at c)
