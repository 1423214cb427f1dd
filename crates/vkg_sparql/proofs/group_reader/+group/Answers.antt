use Rattle.std.proofs.Common.{◌∙◌, refl, arith}
use Rattle.vkg_sparql.specs.Groups.{group_value, groups_value}
use Rattle.vkg_sparql.proofs.Steps.{chain_step, parts_step}
use Rattle.vkg_sparql.proofs.group_reader.+group.Goals as goal

pub push_parts-loop-step-preserved : goal.push_parts-loop-step-preserved
push_parts-loop-step-preserved t c = record {
  below = omega (arith, c.in-Pair.ensures.below);
  inside = omega arith;
  same = parts_step c.args.meanings.now c.loop-step.parts c.in-Pair.ensures.made c.in-Pair-node.ensures.made c.in-Pair-node-2.ensures.made c.in_ok-read_part.ensures c.in_ok-push.ensures.ok c.in_ok-push_block.ensures ∙ c.loop-step.invariant.same;
}

pub read_more_groups-loop-step-preserved : goal.read_more_groups-loop-step-preserved
read_more_groups-loop-step-preserved t c = record {
  below = omega (arith, c.in-Pair.ensures.below);
  inside = omega arith;
  same = chain_step (group_value c.args.meanings.now) (groups_value c.args.meanings.now) (λ x a m. refl) c.loop-step.all c.in-Pair.ensures.made c.in-Pair-node.ensures.made c.in_ok-read_group.ensures c.in_ok-push.ensures.ok ∙ c.loop-step.invariant.same;
}

pub read_group-returns : goal.read_group-returns
read_group-returns t c = rw (c.in_ok-push_parts.ensures, c.in_ok-push_block.ensures, c.new-parts.ensures, c.in-Pair.ensures.made, c.in-Pair-node.ensures.made, c.in-Pair-node-2.ensures.made)

pub read_graph-returns : goal.read_graph-returns
read_graph-returns t c = rw (c.in-Pair.ensures.made, c.in-Pair-node.ensures.made, c.in_ok-parts.ensures, c.in_ok-name_of.ensures, c.first_token-token.ensures)

pub read_other-returns-in-Second-node : goal.read_other-returns-in-Second-node
read_other-returns-in-Second-node t c = rw (c.in-Second.ensures.made, c.in-Second-node.ensures.made) c.read_later.ensures

pub read_part-returns-in_ok-read_group-in-Pair : goal.read_part-returns-in_ok-read_group-in-Pair
read_part-returns-in_ok-read_group-in-Pair t c = rw (c.in-First.ensures.made, c.in-Pair.ensures.made, c.in_ok-read_group-in-Pair.ensures)

pub read_last-returns-in_ok-read_group-in-Pair : goal.read_last-returns-in_ok-read_group-in-Pair
read_last-returns-in_ok-read_group-in-Pair t c = rw (c.in-First.ensures.made, c.in-Pair.ensures.made, c.in_ok-read_group-in-Pair.ensures)
