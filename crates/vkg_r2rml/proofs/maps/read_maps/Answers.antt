use Rattle.std.proofs.Common.{◌∙◌, ap, sym, map, take, ◌++◌, ◌∷◌, []}
use Rattle.std.proofs.lemmas.List.{take_more}
use Rattle.vkg_r2rml.specs.TriplesMaps.{map_node, nodes_of_maps}
use Rattle.vkg_r2rml.specs.Index.{with_triple}
use Rattle.vkg_r2rml.proofs.IndexLemmas.{triple_more}
use Rattle.vkg_r2rml.proofs.maps.read_maps.Goals as goal

pub loop-t-preserved : goal.loop-t-preserved
loop-t-preserved c =
    let triples = c.args.graph.now in
    let schema = c.args.schema.now in
    let items = c.triples-t-items.result.now in
    let t = c.t-item.result in
    let done = take c.loop-t.t-index items in
    record {
      indexed = c.in_ok-add_triple.ensures.index;
      maps =
          c.in_ok-add_triple.ensures.nodes ∙ ap (λ ms. with_triple triples schema ms t) c.loop-t.invariant.maps ∙ triple_more triples schema done t
          ∙ ap (λ l. map (map_node triples schema) (nodes_of_maps l)) (ap (λ x. done ++ x ∷ []) c.t-item.is ∙ sym (take_more items c.loop-t.t-index t c.loop-t-test.true));
    }
