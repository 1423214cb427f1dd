use Rattle.std.proofs.Common.{◌≡◌, ◌++◌, ◌∙◌, arith, append_assoc}
use Rattle.vkg_grammar.specs.Forest.{tree}
use Rattle.vkg_sparql.specs.Triples.{plist_more, verb_value, olist_more, object_value}
use Rattle.vkg_sparql.proofs.Steps.{one_more}
use Rattle.vkg_sparql.proofs.triple_reader.+plist.Goals as goal

pub read_more-loop-step-preserved : goal.read_more-loop-step-preserved
read_more-loop-step-preserved t c =
    let f = c.args.forest.now in
    let s = c.args.subject in
    let e : plist_more s (tree f c.loop-step.rest) ≡ verb_value s (tree f c.in-Pair-node.verb) ++ plist_more s (tree f c.in-Pair.more) = rw (c.in-Pair.ensures.made, c.in-Pair-node.ensures.made) in
    record { below = omega (arith, c.in-Pair.ensures.below); inside = omega arith; same = one_more c.loop-step.out _ _ e c.in_ok-read_verb.ensures ∙ c.loop-step.invariant.same }

pub read_olist-loop-step-preserved : goal.read_olist-loop-step-preserved
read_olist-loop-step-preserved t c =
    let f = c.args.forest.now in
    let s = c.args.subject in
    let p = c.args.predicate in
    let e : olist_more s p (tree f c.loop-step.rest) ≡ object_value s p (tree f c.in-Pair-node-2.object) ++ olist_more s p (tree f c.in-Pair-node.more) = rw (c.in-Pair-node.ensures.made, c.in-Pair-node-2.ensures.made) in
    record { below = omega (arith, c.in-Pair-node.ensures.below); inside = omega arith; same = one_more c.loop-step.out _ _ e c.in_ok-read_object-2.ensures ∙ c.loop-step.invariant.same }

pub read_plist-returns : goal.read_plist-returns
read_plist-returns t c = rw (c.in-Pair.ensures.made, c.in-Pair-node.ensures.made, ← c.first_token-predicate.ensures, ← append_assoc, ← c.in_ok-read_olist.ensures) c.read_more.ensures

pub read_verb-returns : goal.read_verb-returns
read_verb-returns t c = rw (c.in-First.ensures.made, c.in-Pair.ensures.made) (rw c.first_token-predicate.ensures at c.read_olist.ensures)

pub read_object-returns-in_ok-push-in-Second : goal.read_object-returns-in_ok-push-in-Second
read_object-returns-in_ok-push-in-Second t c =
    rw (c.in-Second.ensures.made, c.in-Pair.ensures.made, c.in-Pair-node.ensures.made) (rw (c.in_ok-push-in-Second.ensures.ok, c.first_token-object-in-Second.ensures, append_assoc) at c.read_inner.ensures)
