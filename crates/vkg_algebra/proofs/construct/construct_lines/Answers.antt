use Rattle.vkg_sparql.specs.Seen.{query_seen}
use Rattle.vkg_algebra.specs.Answer.{modifiers_of, selected_variables}
use Rattle.vkg_algebra.proofs.Graphs.{graph_made}
use Rattle.vkg_algebra.proofs.construct.construct_lines.Goals as goal

pub returns : goal.returns
returns c =
    let q = query_seen c.args.query.now in
    graph_made c.args.template.now (selected_variables q) (modifiers_of q) _ _ _ c.args.solutions.items c.in_ok-found.found.items _ c.graph_lines.result c.deref.ensures.value c.as_slice.ensures c.in_ok-variables.ensures c.in_ok-modifiers.ensures
    c.in_ok-found.ensures c.graph_lines.ensures
