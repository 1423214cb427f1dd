use Rattle.std.proofs.Common.{◌∙◌, ap}
use Rattle.std.specs.List.{enumerate_from}
use Rattle.vkg_terms.specs.Same.{term_name}
use Rattle.vkg_term_maps.specs.Index.{numbers_named}
use Rattle.vkg_term_maps.proofs.graph.Graph.numbers.Goals as goal

pub returns : goal.returns
returns c =
    c.numbers_of.ensures
    ∙ (c.self.invariant c.name.result.now
    ∙ (ap (λ q. numbers_named q (enumerate_from 0 c.self.inside.triples.now)) c.name.ensures.value
    ∙ ap (λ ts. numbers_named (term_name c.args.node.now) (enumerate_from 0 ts)) c.self.view_is))
