use Rattle.std.proofs.Common.{◌≡◌, ◌++◌, ◌∙◌, ap, arith, append_assoc}
use Rattle.vkg_grammar.specs.Forest.{tree}
use Rattle.vkg_sparql.specs.Triples.{group_triples, parts_triples, part_triples, groups_triples, block_triples}
use Rattle.vkg_sparql.proofs.Steps.{one_more}
use Rattle.vkg_sparql.proofs.all_triples.+triples.Goals as goal

pub read_parts-loop-step-preserved : goal.read_parts-loop-step-preserved
read_parts-loop-step-preserved t c =
    let f = c.args.forest.now in
    let e : parts_triples (tree f c.loop-step.rest) ≡ (part_triples (tree f c.in-Pair-node.part) ++ block_triples (tree f c.in-Pair-node-2.block)) ++ parts_triples (tree f c.in-Pair.more) = rw (c.in-Pair.ensures.made, c.in-Pair-node.ensures.made, c.in-Pair-node-2.ensures.made) in
    record { below = omega (arith, c.in-Pair.ensures.below); inside = omega arith; same = one_more c.loop-step.out _ _ e (c.in_ok-read_triples.ensures ∙ ap (λ y. y ++ block_triples (tree f c.in-Pair-node-2.block)) c.in_ok-read_part.ensures ∙ append_assoc c.loop-step.out (part_triples (tree f c.in-Pair-node.part)) (block_triples (tree f c.in-Pair-node-2.block))) ∙ c.loop-step.invariant.same }

pub read_more_groups-loop-step-preserved : goal.read_more_groups-loop-step-preserved
read_more_groups-loop-step-preserved t c =
    let f = c.args.forest.now in
    let e : groups_triples (tree f c.loop-step.rest) ≡ group_triples (tree f c.in-Pair-node.group) ++ groups_triples (tree f c.in-Pair.more) = rw (c.in-Pair.ensures.made, c.in-Pair-node.ensures.made) in
    record { below = omega (arith, c.in-Pair.ensures.below); inside = omega arith; same = one_more c.loop-step.out _ _ e c.in_ok-read_group_triples.ensures ∙ c.loop-step.invariant.same }

pub read_group_triples-returns : goal.read_group_triples-returns
read_group_triples-returns t c = rw (c.in-Pair.ensures.made, c.in-Pair-node.ensures.made, c.in-Pair-node-2.ensures.made, ← append_assoc, ← c.in_ok-read_triples.ensures) c.read_parts.ensures
