-- The instances of triple patterns in a graph, by what they bind.
use Rattle.std.proofs.Common.{◌≡◌, ◌≢◌, ◌∙◌, ℕ, ◌<◌, Bool, true, false, cond, IsSome, List, [], ◌∷◌, ◌++◌, flat_map, length, Option, Some, None, ⊎_elim, refl, sym, ap, subst, nat_eq}
use Rattle.std.specs.Prelude.{is_some}
use Rattle.std.specs.List.{AllByRecursion, Contains, IsDistinct}
use Rattle.std.proofs.Math.ListN.{length-replicate}
use Rattle.std.proofs.lemmas.Bool.{cases_Bool}
use Rattle.std.proofs.lemmas.List.{get_or-set_other, get_or-set_same, length-set}
use Rattle.std.proofs.lemmas.List.Elements.{Contains-append_left, Contains-append_right}
use Rattle.std.proofs.lemmas.Option.{same_Some}
use Rattle.vkg_lists.proofs.Counts.{eq_apart}
use Rattle.vkg_lists.proofs.Distinct.{IsDistinct-filter, IsDistinct-flat_map}
use Rattle.vkg_lists.proofs.Heads.{replicate_same}
use Rattle.vkg_lists.proofs.Members.{Contains-none, Contains-here, Contains-cons_cases, Contains-flat_map, Contains-from_filter, Contains-from_flat_map, each_from_recursion, recursion_from_each, Contains-only, Contains-cond}
use Rattle.vkg_lists.proofs.Tests.{nat_test}
use Rattle.vkg_maps.specs.Dataset.{graph_eq, quad_eq}
use Rattle.vkg_maps.proofs.Quads.{quads_apart, graphs_apart}
use Rattle.vkg_terms.proofs.SameLemmas.{terms_apart}
use Rattle.vkg_terms.specs.declared.term.Term.{Term}
use Rattle.vkg_terms.specs.NQuads.{Quad}
use Rattle.vkg_terms.specs.Same.{term_eq}
use Rattle.vkg_sparql.specs.declared.pattern.Node.{Node}
use Rattle.vkg_sparql.specs.declared.pattern.Node.TheVariants as node
use Rattle.vkg_sparql.specs.declared.pattern.TriplePattern.{TriplePattern}
use Rattle.vkg_algebra.specs.Answer.{solution_eq}
use Rattle.vkg_algebra.specs.Evaluation.{Dataset, graph_of}
use Rattle.vkg_algebra.specs.Laws.{AreBelow, HasInstances, node_numbers, node_term, pattern_numbers}
use Rattle.vkg_algebra.specs.Patterns.{instances, node_solutions, pattern_solutions, triple_solutions}
use Rattle.vkg_algebra.specs.Solutions.{Solution, lookup, only, unbound}
use Rattle.vkg_algebra.proofs.MapLemmas.{solution_test}
use Rattle.vkg_algebra.proofs.PatternLemmas.{Describes, IsMapOf, both_join, once_join, one_distinct, same_bound}

-- ---- a place of a pattern

lookup-only : (n v : ℕ) (t : Term) → v < n → lookup (only n v t) v ≡ Some t
lookup-only n v t l = get_or-set_same (unbound n) v (Some t) None (subst (λ k. v < k) (sym (length-replicate {A = Option Term} n None)) l)

lookup-only_other : (n v w : ℕ) (t : Term) → w ≢ v → lookup (only n v t) w ≡ None
lookup-only_other n v w t h = get_or-set_other (unbound n) v w (Some t) None h ∙ replicate_same {A = Option Term} n w None

length-only : (n v : ℕ) (t : Term) → length (only n v t) ≡ n
length-only n v t = length-set (unbound n) v (Some t) ∙ length-replicate n None

is_only : (n v : ℕ) (t : Term) → v < n → (s : Solution) → s ≡ only n v t → IsMapOf n (v ∷ []) (λ s. lookup s v ≡ Some t) s
is_only n v t l s e = record {
  size = ap length e ∙ length-only n v t;
  bound = λ w h. ⊎_elim
      (λ f. subst (Contains (v ∷ [])) ((nat_test.decides v w).0 f) (Contains-here v []))
      (λ f. let none : lookup s w ≡ None = ap (λ m. lookup m w) e ∙ lookup-only_other n v w t (λ k. eq_apart nat_test v w f (sym k)) in cc)
      (cases_Bool (nat_eq v w));
  fact = ap (λ m. lookup m v) e ∙ lookup-only n v t l;
}

numbered : (n v : ℕ) (t : Term) → v < n → Describes n (v ∷ []) (λ s. lookup s v ≡ Some t) (only n v t ∷ [])
numbered n v t l = record {
  onto = λ s c. ⊎_elim (λ e. is_only n v t l s (sym e)) (λ d. absurd (Contains-none s d)) (Contains-cons_cases (only n v t) [] s c);
  back = λ s m. subst (Contains (only n v t ∷ [])) (same_bound (only n v t) s (is_only n v t l (only n v t) refl) m (λ w c.
      let e = Contains-only v w c in subst (λ k. lookup (only n v t) k ≡ lookup s k) e (lookup-only n v t l ∙ sym m.fact))) (Contains-here (only n v t) []);
  binds = λ s p w c. subst (λ k. IsSome (lookup s k)) (Contains-only v w c) (ap is_some p);
  moves = λ s u p h. h v (Contains-here v []) ∙ p;
}

is_unbound : (n : ℕ) {P : Solution → Type 0} (s : Solution) → s ≡ unbound n → P s → IsMapOf n [] P s
is_unbound n s e p = record {
  size = ap length e ∙ length-replicate n None;
  bound = λ w h. let none : lookup s w ≡ None = ap (λ m. lookup m w) e ∙ replicate_same {A = Option Term} n w None in cc;
  fact = p;
}

fixed : (n : ℕ) (u t : Term) → Describes n [] (λ s. Some u ≡ Some t) (cond (term_eq u t) (unbound n ∷ []) [])
fixed n u t = record {
  onto = λ s c. let one = Contains-cond (term_eq u t) (unbound n) s c in is_unbound n s (sym one.1) (ap Some ((terms_apart.decides u t).0 one.0));
  back = λ s m. back s m (term_eq u t) ((terms_apart.decides u t).1 (let f : Some u ≡ Some t = m.fact in cc));
  binds = λ s p v c. absurd (Contains-none v c);
  moves = λ s v p h. p;
}
  where
    back : (s : Solution) → IsMapOf n [] (λ s. Some u ≡ Some t) s → (b : Bool) → b ≡ true → Contains (cond b (unbound n ∷ []) []) s
    back s m true e = subst (Contains (unbound n ∷ [])) (same_bound (unbound n) s (is_unbound n (unbound n) refl m.fact) m (λ v c. absurd (Contains-none v c))) (Contains-here (unbound n) [])
    back s m false e = cc

node_described : (n : ℕ) (x : Node) (t : Term) → ((v : ℕ) → Contains (node_numbers x) v → v < n) → Describes n (node_numbers x) (λ s. node_term s x ≡ Some t) (node_solutions n x t)
node_described n (node.Variable v) t h = numbered n v t (h v (Contains-here v []))
node_described n (node.Label v) t h = numbered n v t (h v (Contains-here v []))
node_described n (node.Fixed u) t h = fixed n u t

node_once : (n : ℕ) (x : Node) (t : Term) → IsDistinct solution_eq (node_solutions n x t)
node_once n (node.Variable v) t = one_distinct true (only n v t)
node_once n (node.Label v) t = one_distinct true (only n v t)
node_once n (node.Fixed u) t = one_distinct (term_eq u t) (unbound n)

-- ---- a pattern

abbrev Makes : TriplePattern → Quad → Solution → Type 0
Makes p q s = (node_term s p.subject ≡ Some q.subject) × ((node_term s p.predicate ≡ Some q.predicate) × (node_term s p.object ≡ Some q.object))

module _ (n : ℕ) (p : TriplePattern) (below : (v : ℕ) → Contains (pattern_numbers p) v → v < n) where
  triple_described : (q : Quad) → Describes n (pattern_numbers p) (Makes p q) (triple_solutions n p q)
  triple_described q =
      let s = node_numbers p.subject in
      let r = node_numbers p.predicate in
      let o = node_numbers p.object in
      both_join
      (node_described n p.subject q.subject (λ v c. below v (Contains-append_left s (r ++ o) v c)))
      (both_join
      (node_described n p.predicate q.predicate (λ v c. below v (Contains-append_right s (r ++ o) v (Contains-append_left r o v c))))
      (node_described n p.object q.object (λ v c. below v (Contains-append_right s (r ++ o) v (Contains-append_right r o v c)))))

  pub triple_once : (q : Quad) → IsDistinct solution_eq (triple_solutions n p q)
  triple_once q =
      let s = node_numbers p.subject in
      let r = node_numbers p.predicate in
      let o = node_numbers p.object in
      let ds = node_described n p.subject q.subject (λ v c. below v (Contains-append_left s (r ++ o) v c)) in
      let dr = node_described n p.predicate q.predicate (λ v c. below v (Contains-append_right s (r ++ o) v (Contains-append_left r o v c))) in
      let d_o = node_described n p.object q.object (λ v c. below v (Contains-append_right s (r ++ o) v (Contains-append_right r o v c))) in
      once_join ds (both_join dr d_o) (node_once n p.subject q.subject) (once_join dr d_o (node_once n p.predicate q.predicate) (node_once n p.object q.object))

  pub pattern_described : (triples : List Quad) → Describes n (pattern_numbers p) (λ s. (q : Quad) × (Contains triples q × Makes p q s)) (pattern_solutions n p triples)
  pattern_described triples = record {
    onto = λ s c.
        let r = Contains-from_flat_map (triple_solutions n p) triples s c in
        let m = (triple_described r.0).onto s r.2 in
        record { size = m.size; bound = m.bound; fact = (r.0, (r.1, m.fact)) };
    back = λ s m.
        let q = m.fact.0 in
        Contains-flat_map (triple_solutions n p) triples q s m.fact.1.0 ((triple_described q).back s (record { size = m.size; bound = m.bound; fact = m.fact.1.1 }));
    binds = λ s f. (triple_described f.0).binds s f.1.1;
    moves = λ s t f h. (f.0, (f.1.0, (triple_described f.0).moves s t f.1.1 h));
  }

  -- over triples of one graph
  pub pattern_once : (triples : List Quad) (g : Option Term) → IsDistinct quad_eq triples → ((q : Quad) → Contains triples q → q.graph ≡ g) → IsDistinct solution_eq (pattern_solutions n p triples)
  pattern_once triples g d one = IsDistinct-flat_map quads_apart solution_test (triple_solutions n p) triples d (λ q c. triple_once q)
      (λ q r s c k a b.
      let m = ((triple_described q).onto s a).fact in
      let o = ((triple_described r).onto s b).fact in
      let subject : q.subject ≡ r.subject = same_Some q.subject r.subject (sym m.0 ∙ o.0) in
      let predicate : q.predicate ≡ r.predicate = same_Some q.predicate r.predicate (sym m.1.0 ∙ o.1.0) in
      let object : q.object ≡ r.object = same_Some q.object r.object (sym m.1.1 ∙ o.1.1) in
      let graph : q.graph ≡ r.graph = one q c ∙ sym (one r k) in
      λ i. record { subject = subject i; predicate = predicate i; object = object i; graph = graph i })

-- ---- several patterns

abbrev EachMade : List Quad → List TriplePattern → Solution → Type 0
EachMade triples ps s = AllByRecursion (λ p. (q : Quad) × (Contains triples q × Makes p q s)) ps

first_below : (n : ℕ) (p : TriplePattern) (ps : List TriplePattern) → AreBelow n (p ∷ ps) → (v : ℕ) → Contains (pattern_numbers p) v → v < n
first_below n p ps h v c = h v (Contains-append_left (pattern_numbers p) (flat_map pattern_numbers ps) v c)

rest_below : (n : ℕ) (p : TriplePattern) (ps : List TriplePattern) → AreBelow n (p ∷ ps) → AreBelow n ps
rest_below n p ps h v c = h v (Contains-append_right (pattern_numbers p) (flat_map pattern_numbers ps) v c)

instances_described : (n : ℕ) (triples : List Quad) (ps : List TriplePattern) → AreBelow n ps → Describes n (flat_map pattern_numbers ps) (EachMade triples ps) (instances n ps triples)
instances_described n triples [] h = record {
  onto = λ s c. ⊎_elim (λ e. is_unbound n s (sym e) tt) (λ d. absurd (Contains-none s d)) (Contains-cons_cases (unbound n) [] s c);
  back = λ s m. subst (Contains (unbound n ∷ [])) (same_bound (unbound n) s (is_unbound n (unbound n) refl tt) m (λ v c. absurd (Contains-none v c))) (Contains-here (unbound n) []);
  binds = λ s p v c. absurd (Contains-none v c);
  moves = λ s t p h. tt;
}
instances_described n triples (p ∷ ps) h = both_join (pattern_described n p (first_below n p ps h) triples) (instances_described n triples ps (rest_below n p ps h))

instances_once : (n : ℕ) (triples : List Quad) (g : Option Term) → IsDistinct quad_eq triples → ((q : Quad) → Contains triples q → q.graph ≡ g) → (ps : List TriplePattern) → AreBelow n ps → IsDistinct solution_eq (instances n ps triples)
instances_once n triples g d one [] h = one_distinct true (unbound n)
instances_once n triples g d one (p ∷ ps) h =
    once_join (pattern_described n p (first_below n p ps h) triples) (instances_described n triples ps (rest_below n p ps h))
    (pattern_once n p (first_below n p ps h) triples g d one) (instances_once n triples g d one ps (rest_below n p ps h))

-- ---- in the words of the standard

module _ (n : ℕ) (ps : List TriplePattern) (d : Dataset) (g : Option Term) (h : AreBelow n ps) where
  pub has_instances : HasInstances n ps d g
  has_instances =
      let described = instances_described n (graph_of d g) ps h in
      record {
        members = λ s. (
          λ c. let m = described.onto s c in
              record {
                size = m.size;
                bound = m.bound;
                each = λ p k.
                    let made = each_from_recursion (λ p. (q : Quad) × (Contains (graph_of d g) q × Makes p q s)) ps m.fact p k in
                    (made.0, made.1.0, record { subject = made.1.1.0; predicate = made.1.1.1.0; object = made.1.1.1.1 });
              },
          λ i. described.back s (record {
            size = i.size;
            bound = i.bound;
            fact = recursion_from_each (λ p. (q : Quad) × (Contains (graph_of d g) q × Makes p q s)) ps (λ p k. let e = i.each p k in (e.0, (e.1, (e.2.subject, (e.2.predicate, e.2.object)))));
          }),
        );
        once = λ k. instances_once n (graph_of d g) g (IsDistinct-filter quad_eq (λ q. graph_eq q.graph g) d k) (λ q c. (graphs_apart.decides q.graph g).0 (Contains-from_filter (λ q. graph_eq q.graph g) d q c).1) ps h;
      }
