-- `quad_eq` tells two quads apart.
use Rattle.std.proofs.Common.{◌≡◌, ◌∙◌, refl, sym, ap, true, ◌&&◌}
use Rattle.std.specs.Cmp.{first_so, second_so}
use Rattle.vkg_lists.specs.Sets.{IsEqualityTest}
use Rattle.vkg_lists.proofs.Tests.{option_test}
use Rattle.vkg_terms.proofs.SameLemmas.{terms_apart}
use Rattle.vkg_terms.specs.Same.{term_eq}
use Rattle.vkg_terms.specs.NQuads.{Quad}
use Rattle.vkg_maps.specs.Dataset.{graph_eq, quad_eq}

pub graphs_apart : IsEqualityTest graph_eq
graphs_apart = option_test terms_apart

same_quad : (q r : Quad) → quad_eq q r ≡ true → q ≡ r
same_quad q r e =
    let pair = term_eq q.subject r.subject && term_eq q.predicate r.predicate in
    let terms = pair && term_eq q.object r.object in
    let in_terms = first_so terms (graph_eq q.graph r.graph) e in
    let in_pair = first_so pair (term_eq q.object r.object) in_terms in
    let s = (terms_apart.decides q.subject r.subject).0 (first_so (term_eq q.subject r.subject) (term_eq q.predicate r.predicate) in_pair) in
    let p = (terms_apart.decides q.predicate r.predicate).0 (second_so (term_eq q.subject r.subject) (term_eq q.predicate r.predicate) in_pair) in
    let o = (terms_apart.decides q.object r.object).0 (second_so pair (term_eq q.object r.object) in_terms) in
    let g = (graphs_apart.decides q.graph r.graph).0 (second_so terms (graph_eq q.graph r.graph) e) in
    λ i. record { subject = s i; predicate = p i; object = o i; graph = g i }

quad_itself : (q : Quad) → quad_eq q q ≡ true
quad_itself q = λ i. (terms_apart.decides q.subject q.subject).1 refl i && (terms_apart.decides q.predicate q.predicate).1 refl i && (terms_apart.decides q.object q.object).1 refl i && (graphs_apart.decides q.graph q.graph).1 refl i

pub quads_apart : IsEqualityTest quad_eq
quads_apart = record { decides = λ q r. (same_quad q r, λ e. ap (λ x. quad_eq q x) (sym e) ∙ quad_itself q) }
