use Rattle.std.proofs.Common.{◌≡◌, ◌∙◌, ap, subst, List}
use Rattle.std.specs.Prelude.{IfOk, filter_map}
use Rattle.std.specs.List.{enumerate_from}
use Rattle.vkg_terms.specs.declared.term.Term.{Term}
use Rattle.vkg_terms.specs.Same.{term_name}
use Rattle.vkg_term_maps.specs.Graph.{object_if}
use Rattle.vkg_term_maps.specs.Index.{given_at, numbers_named}
use Rattle.vkg_term_maps.proofs.IndexLemmas.{objects_found}
use Rattle.vkg_term_maps.proofs.graph.Graph.objects.Goals as goal

pub returns : goal.returns
returns c =
    let node = c.args.node.now in
    let f = object_if node c.args.property.now in
    let e =
    ap (λ ns. filter_map (given_at f c.self.inside.triples.now) ns) c.numbers.ensures
    ∙ (ap (λ ts. filter_map (given_at f ts) (numbers_named (term_name node) (enumerate_from 0 c.args.self.now))) c.self.view_is
    ∙ objects_found c.args.self.now node c.args.property.now) in
    subst (λ (all : List Term). IfOk c.objects_at.result (λ found. found ≡ all)) e c.objects_at.ensures
