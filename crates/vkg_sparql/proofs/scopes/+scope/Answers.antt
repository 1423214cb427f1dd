use Rattle.std.proofs.Common.{◌∙◌, arith}
use Rattle.vkg_sparql.proofs.Steps.{group_scope_step, groups_scope_step, parts_scope_step}
use Rattle.vkg_sparql.proofs.scopes.+scope.Goals as goal

pub read_graph-returns : goal.read_graph-returns
read_graph-returns t c = rw (c.in-Pair.ensures.made, c.in-Pair-node.ensures.made) (rw (c.in_ok-variable.ensures, c.in_ok-inner.ensures, c.first_token.ensures) at c.join.ensures)

pub read_group-returns : goal.read_group-returns
read_group-returns t c = group_scope_step c.args.meanings.now c.args.lexemes.now c.args.outer.now c.in-Pair.ensures.made c.in-Pair-node.ensures.made c.in-Pair-node-2.ensures.made c.inside-scope.ensures c.in_ok-block.ensures c.in_ok-read_parts.ensures

pub read_last-returns-in_ok-inner-in-Pair : goal.read_last-returns-in_ok-inner-in-Pair
read_last-returns-in_ok-inner-in-Pair t c = rw (c.in-First.ensures.made, c.in-Pair.ensures.made) (rw c.in_ok-inner-in-Pair.ensures at c.leave.ensures)

pub read_more_groups-loop-step-preserved : goal.read_more_groups-loop-step-preserved
read_more_groups-loop-step-preserved t c = record {
  below = omega (arith, c.in-Pair.ensures.below);
  inside = omega arith;
  same = groups_scope_step c.args.meanings.now c.args.lexemes.now c.loop-step.scope c.in-Pair.ensures.made c.in-Pair-node.ensures.made c.in_ok-inner.ensures c.in_ok-join.ensures ∙ c.loop-step.invariant.same;
}

pub read_other-returns-in-Second-node : goal.read_other-returns-in-Second-node
read_other-returns-in-Second-node t c = rw (c.in-Second.ensures.made, c.in-Second-node.ensures.made) c.read_later.ensures

pub read_part-returns-in_ok-inner-in-Pair : goal.read_part-returns-in_ok-inner-in-Pair
read_part-returns-in_ok-inner-in-Pair t c = rw (c.in-First.ensures.made, c.in-Pair.ensures.made) (rw c.in_ok-inner-in-Pair.ensures at c.join.ensures)

pub read_parts-loop-step-preserved : goal.read_parts-loop-step-preserved
read_parts-loop-step-preserved t c = record {
  below = omega (arith, c.in-Pair.ensures.below);
  inside = omega arith;
  same = parts_scope_step c.args.meanings.now c.args.lexemes.now c.loop-step.scope c.in-Pair.ensures.made c.in-Pair-node.ensures.made c.in-Pair-node-2.ensures.made c.in_ok-read_part.ensures c.in_ok-block.ensures ∙ c.loop-step.invariant.same;
}
