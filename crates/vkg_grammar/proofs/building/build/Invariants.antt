use Rattle.std.proofs.Common.{◌≡◌, ◌≤◌, drop, length}
use Rattle.vkg_grammar.specs.Decoding.{acts_of, decoded, tops_of, AreNodesOf}
use Rattle.vkg_grammar.proofs.building.build.Given as goal

abbrev pub invariant-loop-at : goal.invariant-loop-at
invariant-loop-at l = record {
  inside : l.at ≤ length l.notes;
  below : AreNodesOf (length l.forest.nodes.items) l.stack.items;
  token : l.token ≡ (decoded l.tokens (drop l.at (acts_of l.notes))).token;
  tops : tops_of l.forest.nodes.items l.stack.items ≡ (decoded l.tokens (drop l.at (acts_of l.notes))).trees;
}

abbrev pub decreases-loop-at : goal.decreases-loop-at
decreases-loop-at l = l.at
