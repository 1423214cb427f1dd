-- The graph of a CONSTRUCT: its lines, its triples, and the solutions of which it is made.
use Rattle.std.proofs.Common.{◌≡◌, ◌∙◌, ◌&&◌, ℕ, Bool, true, false, List, [], ◌∷◌, flat_map, length, map, take, Option, Some, refl, sym, ap, subst, true≢false}
use Rattle.std.specs.Prelude.{Contains, IfOk, Result, if◌then◌else◌}
use Rattle.std.specs.List.{enumerate_from}
use Rattle.std.proofs.lemmas.Result.{IfOk-weaker}
use Rattle.vkg_base.specs.declared.memory.Memory.{Memory}
use Rattle.vkg_lists.specs.Ascending.{ascending_once}
use Rattle.vkg_lists.proofs.Ascending.{ascending_once-ascending, ascending_once-members}
use Rattle.vkg_lists.proofs.Bools.{and_parts}
use Rattle.vkg_lists.proofs.Members.{Contains-from_flat_map, Contains-from_map, Contains-none, Contains-only}
use Rattle.vkg_lists.proofs.Walks.{map-map}
use Rattle.vkg_terms.specs.declared.term.Term.{Term}
use Rattle.vkg_terms.specs.declared.term.Term.TheVariants.{Iri, Blank, Lit}
use Rattle.vkg_terms.specs.declared.term.Annotation.{Annotation}
use Rattle.vkg_terms.specs.NQuads.{Quad, line}
use Rattle.vkg_sparql.specs.declared.pattern.TriplePattern.{TriplePattern}
use Rattle.vkg_sparql.specs.Query.{Query}
use Rattle.vkg_order.specs.Listed.{listed}
use Rattle.vkg_order.specs.Ranked.{Found, ranked}
use Rattle.vkg_order.specs.declared.modifiers.Modifiers.{Modifiers}
use Rattle.vkg_order.proofs.Ranks.{ranked-lines}
use Rattle.vkg_algebra.specs.Answer.{found_of, modifiers_of, ordered, selected_variables, solution_entry, solution_line}
use Rattle.vkg_algebra.specs.Construct.{filled, found_triples, graph_lines, graph_triples, is_predicate, is_subject, made, solution_triples, template_labels, triple, triple_if}
use Rattle.vkg_algebra.specs.Laws.{IsGraph, IsTriple}
use Rattle.vkg_algebra.proofs.Numbered.{numbered-map}
use Rattle.vkg_algebra.specs.Solutions.{Solution}

-- ---- what the template makes are triples

no_literal : (s : Term) → is_subject s ≡ true → (text : List ℕ) (a : Annotation) → s ≡ Lit text a → ⊥
no_literal s h text a e = true≢false (sym h ∙ ap is_subject e)

an_iri : (p : Term) → is_predicate p ≡ true → (iri : List ℕ) × (p ≡ Iri iri)
an_iri (Iri iri) h = (iri, refl)
an_iri (Blank label) h = absurd (true≢false (sym h))
an_iri (Lit text a) h = absurd (true≢false (sym h))

one_triple : (s p o : Term) (b : Bool) → (is_subject s && is_predicate p) ≡ b → (q : Quad) → Contains (if b then triple s p o ∷ [] else []) q → IsTriple q
one_triple s p o true e q c =
    let parts = and_parts (is_subject s) (is_predicate p) e in
    subst IsTriple (Contains-only (triple s p o) q c) (record { subject = no_literal s parts.0; predicate = an_iri p parts.1; graph = refl })
one_triple s p o false e q c = absurd (Contains-none q c)

is_triple : (s p o : Option Term) (q : Quad) → Contains (triple_if s p o) q → IsTriple q
is_triple (Some s) (Some p) (Some o) q c = one_triple s p o (is_subject s && is_predicate p) refl q c
is_triple s p o q c = absurd (Contains-none q c)

pub is_graph : (template : List TriplePattern) (vs : List ℕ) (ss : List Solution) → IsGraph (graph_triples template vs ss) (graph_lines template vs ss)
is_graph template vs ss = record {
  ascending = ascending_once-ascending (map line (graph_triples template vs ss));
  each = ascending_once-members (map line (graph_triples template vs ss));
  are_triples = λ q c.
      let s = Contains-from_flat_map (solution_triples template vs (template_labels template)) (enumerate_from 1 ss) q c in
      let t = Contains-from_flat_map (made vs (template_labels template) s.0.0 s.0.1) template q s.2 in
      is_triple (filled vs (template_labels template) s.0.0 s.0.1 t.0.subject) (filled vs (template_labels template) s.0.0 s.0.1 t.0.predicate) (filled vs (template_labels template) s.0.0 s.0.1 t.0.object) q t.2;
}

-- ---- the solutions of which it is made have the lines of SELECT

pub ordered_lines : (query : Query) (ss : List Solution) → query.distinct ≡ false
    → map (λ s. solution_line (take (length (selected_variables query)) s)) (ordered query ss) ≡ listed (modifiers_of query) (map (solution_entry (length (selected_variables query))) ss)
ordered_lines query ss d =
    let n = length (selected_variables query) in
    ranked-lines (modifiers_of query) (λ s. solution_line (take n s)) (map (found_of n) ss) d
    (λ f c. let x = Contains-from_map (found_of n) ss f c in subst (λ (g : Found). solution_line (take n g.terms) ≡ g.entry.line) x.2 refl)
    ∙ ap (listed (modifiers_of query)) (map-map (λ (f : Found). f.entry) (found_of n) ss)

-- ---- what is made of the solutions that are found

pub graph_made : (template : List TriplePattern) (vs : List ℕ) (m : Modifiers) (lent own : List ℕ) (n : Modifiers) (offered found slice : List Found) (made_lines : Result (List (List ℕ)) Memory)
    → slice ≡ found → lent ≡ own → own ≡ vs → n ≡ m → map (λ f. f.terms) found ≡ ranked n offered
    → IfOk made_lines (λ lines. lines ≡ ascending_once (map line (flat_map (found_triples template lent (template_labels template)) (enumerate_from 1 slice))))
    → IfOk made_lines (λ lines. lines ≡ graph_lines template vs (ranked m offered))
graph_made template vs m lent own n offered found slice made_lines s l o k e h =
    IfOk-weaker made_lines (λ lines. lines ≡ ascending_once (map line (flat_map (found_triples template lent (template_labels template)) (enumerate_from 1 slice)))) (λ lines. lines ≡ graph_lines template vs (ranked m offered))
    (λ lines is. is ∙ ap ascending_once (ap (map line)
    (sym (numbered-map (λ (f : Found). f.terms) (solution_triples template lent (template_labels template)) slice 1)
    ∙ (λ i. graph_triples template ((l ∙ o) i) ((ap (map (λ (f : Found). f.terms)) s ∙ e ∙ ap (λ x. ranked x offered) k) i))))) h
