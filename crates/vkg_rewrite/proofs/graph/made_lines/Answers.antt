use Rattle.std.proofs.Common.{◌∙◌, List, map, subst, ap}
use Rattle.std.specs.Prelude.{IfOk, ◌≡◌}
use Rattle.vkg_sparql.specs.Seen.{query_seen}
use Rattle.vkg_order.specs.Ranked.{Found, ranked}
use Rattle.vkg_algebra.specs.Answer.{found_of, modifiers_of, selected_variables}
use Rattle.vkg_algebra.specs.Construct.{graph_lines}
use Rattle.vkg_answers.specs.Answering.{row_solution}
use Rattle.vkg_rewrite.proofs.Offers.{found_all}
use Rattle.vkg_rewrite.proofs.graph.made_lines.Goals as goal

pub returns : goal.returns
returns c =
    let q = query_seen c.args.query.now in
    subst (λ (fs : List Found). IfOk c.construct_lines.result (λ lines. lines ≡ graph_lines c.args.template.now (selected_variables q) (ranked (modifiers_of q) fs)))
    (c.in_ok-solutions.ensures ∙ found_all q c.in_ok-width.width c.in_ok-width.ensures c.args.rows.now) c.construct_lines.ensures
