use Rattle.std.proofs.Common.{Some, subst, sym, string_bytes}
use Rattle.std.proofs.lemmas.Map.Text.{hash_map_updates_text}
use Rattle.vkg_r2rml.specs.Index.{IsIndexOf}
use Rattle.vkg_r2rml.proofs.IndexLemmas.{index_more}
use Rattle.vkg_r2rml.proofs.maps.add_node.Goals as goal

pub returns-clause-index : goal.returns-clause-index
returns-clause-index c =
    let text = string_bytes c.in_ok-text.text in
    subst (λ maps. IsIndexOf maps c.insert.new.self) (sym c.in_ok-push.ensures.ok)
    (index_more c.args.nodes.now c.args.node text c.len.result c.args.index.now c.insert.new.self c.in_ok-text.ensures.text c.len.ensures c.requires.is_new c.in_ok-text.ensures.own
    (hash_map_updates_text text c.args.index.now c.insert.new.self (Some c.len.result) c.in_ok-insert.ensures.updates) c.requires.index)
