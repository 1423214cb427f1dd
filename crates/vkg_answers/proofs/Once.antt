-- Each row once, and each solution once.
use Rattle.std.proofs.Common.{◌≡◌, List, sym, ap, ◌∙◌}
use Rattle.std.specs.Prelude.{Option, Contains, filter, flat_map}
use Rattle.std.specs.List.{IsDistinct}
use Rattle.std.specs.List.Sorted.{IsPermutation}
use Rattle.vkg_lists.specs.Sets.{distinct}
use Rattle.vkg_lists.proofs.Counts.{eq_same}
use Rattle.vkg_lists.proofs.Distinct.{IsDistinct-distinct, IsDistinct-flat_map, Contains-from_distinct, HasSameMembers-distinct, bag_from_members, filter-distinct}
use Rattle.vkg_lists.proofs.SameMembers.{members_refl, members_sym, members_trans, members_flat_map}
use Rattle.std.proofs.lemmas.List.Sorted.{IsPermutation-trans}
use Rattle.vkg_lists.proofs.Bags.{bag_same}
use Rattle.vkg_lists.proofs.Members.{Contains-from_filter}
use Rattle.vkg_terms.specs.declared.term.Term.{Term}
use Rattle.vkg_terms.specs.NQuads.{Quad}
use Rattle.vkg_maps.specs.Dataset.{graph_eq, quad_eq}
use Rattle.vkg_maps.proofs.Quads.{quads_apart, graphs_apart}
use Rattle.vkg_algebra.specs.Answer.{solution_eq}
use Rattle.vkg_algebra.specs.Solutions.{Solution}
use Rattle.vkg_algebra.proofs.MapLemmas.{solution_test}

-- what at most one solution of each quad of one graph are, each once
module _ (f : Quad → List Solution) (g : Option Term)
    (one : (q : Quad) → IsDistinct solution_eq (f q))
    (apart : (q r : Quad) (s : Solution) → q.graph ≡ r.graph → Contains (f q) s → Contains (f r) s → q ≡ r) where
  pub quads_once : (qs : List Quad) → IsPermutation (flat_map f (filter (λ q. graph_eq q.graph g) (distinct quad_eq qs))) (distinct solution_eq (flat_map f (filter (λ q. graph_eq q.graph g) qs)))
  quads_once qs = IsPermutation-trans _ _ _ (bag_same (ap (flat_map f) (filter-distinct quads_apart (λ q. graph_eq q.graph g) qs)))
      (bag_from_members solution_test (flat_map f (distinct quad_eq here)) (distinct solution_eq (flat_map f here))
      (IsDistinct-flat_map quads_apart solution_test f (distinct quad_eq here) (IsDistinct-distinct quad_eq here) (λ q c. one q) (λ q r s c e k l. apart q r s (in_graph q c ∙ sym (in_graph r e)) k l))
      (IsDistinct-distinct solution_eq (flat_map f here))
      (members_trans (members_flat_map f f (members_sym (HasSameMembers-distinct quads_apart here)) (λ q. members_refl)) (HasSameMembers-distinct solution_test (flat_map f here))))
    where
      here : List Quad
      here = filter (λ q. graph_eq q.graph g) qs

      in_graph : (q : Quad) → Contains (distinct quad_eq here) q → q.graph ≡ g
      in_graph q c = eq_same graphs_apart q.graph g (Contains-from_filter (λ q. graph_eq q.graph g) qs q (Contains-from_distinct quad_eq here q c)).1
