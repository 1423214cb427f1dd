use Rattle.std.proofs.Common.{◌∙◌, refl, arith}
use Rattle.vkg_sparql.specs.Conditions.{and_value, or_more, rel_value, and_more}
use Rattle.vkg_sparql.proofs.Steps.{chain_step}
use Rattle.vkg_sparql.proofs.condition_reader.+condition.Goals as goal

pub read_or_more-loop-step-preserved : goal.read_or_more-loop-step-preserved
read_or_more-loop-step-preserved t c = record {
  below = omega (arith, c.in-Pair.ensures.below);
  inside = omega arith;
  same = chain_step (and_value c.args.meanings.now) (or_more c.args.meanings.now) (λ x a m. refl) c.loop-step.all c.in-Pair.ensures.made c.in-Pair-node.ensures.made c.in_ok-read_and.ensures c.in_ok-push.ensures.ok ∙ c.loop-step.invariant.same;
}

pub read_and_more-loop-step-preserved : goal.read_and_more-loop-step-preserved
read_and_more-loop-step-preserved t c = record {
  below = omega (arith, c.in-Pair.ensures.below);
  inside = omega arith;
  same = chain_step (rel_value c.args.meanings.now) (and_more c.args.meanings.now) (λ x a m. refl) c.loop-step.all c.in-Pair.ensures.made c.in-Pair-node.ensures.made c.in_ok-read_rel.ensures c.in_ok-push.ensures.ok ∙ c.loop-step.invariant.same;
}

pub read_bracketed-returns : goal.read_bracketed-returns
read_bracketed-returns t c = rw (c.in-Pair.ensures.made, c.in-Pair-node.ensures.made) c.read_or.ensures

pub read_call-returns-in-Pair : goal.read_call-returns-in-Pair
read_call-returns-in-Pair t c = rw (c.in-Second.ensures.made, c.in-First-node.ensures.made, c.in-Pair.ensures.made) c.read_two.ensures

pub read_call-returns-in_ok-new-in-Pair-node : goal.read_call-returns-in_ok-new-in-Pair-node
read_call-returns-in_ok-new-in-Pair-node t c = rw (c.in-Second.ensures.made, c.in-Second-node.ensures.made, c.in-Pair-node.ensures.made, c.applied.ensures, c.in_ok-new-in-Pair-node.ensures, c.in_ok-c-in-Pair-node.ensures, c.first_token-token.ensures)

pub read_primary-returns-in-First-node : goal.read_primary-returns-in-First-node
read_primary-returns-in-First-node t c = rw (c.in-Second.ensures.made, c.in-First-node.ensures.made) c.read_call.ensures

pub read_rel_more-returns : goal.read_rel_more-returns
read_rel_more-returns t c = rw (c.in-First.ensures.made, c.in-Pair.ensures.made, c.in_ok-left.ensures, c.in_ok-right.ensures, c.in_ok-read_unary.ensures, c.compare_of-compare.ensures, c.first_token.ensures)

pub read_two-returns : goal.read_two-returns
read_two-returns t c = rw (c.in-Pair.ensures.made, c.in-Pair-node.ensures.made, c.in-Pair-node-2.ensures.made, c.in-Pair-node-3.ensures.made, c.applied_to_two.ensures, c.first_token-token.ensures, c.in_ok-c.ensures, c.in_ok-read_or.ensures, c.in_ok-d.ensures, c.in_ok-read_or-2.ensures)
