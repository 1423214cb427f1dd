use Rattle.std.proofs.Common.{arith}
use Rattle.vkg_grammar.proofs.Rooting.{root_of_text}
use Rattle.vkg_grammar.proofs.tree.parse_tree.Goals as goal

pub index-root-requires : goal.index-root-requires
index-root-requires c =
    let b = c.in_ok-built.built in
    let r = root_of_text c.args.tokens.now b.forest.nodes.items b.stack.items c.in_ok-notes.ensures.text c.deref.ensures.value c.in_ok-built.ensures.tops c.in_ok-built.ensures.below in
    omega (arith, r.0, b.stack.ok.0)

pub returns-clause-tree : goal.returns-clause-tree
returns-clause-tree c =
    let b = c.in_ok-built.built in
    let r = root_of_text c.args.tokens.now b.forest.nodes.items b.stack.items c.in_ok-notes.ensures.text c.deref.ensures.value c.in_ok-built.ensures.tops c.in_ok-built.ensures.below in
    (r.1 c.index-root.result.now c.index-root.ensures).0

pub returns-clause-root : goal.returns-clause-root
returns-clause-root c =
    let b = c.in_ok-built.built in
    let r = root_of_text c.args.tokens.now b.forest.nodes.items b.stack.items c.in_ok-notes.ensures.text c.deref.ensures.value c.in_ok-built.ensures.tops c.in_ok-built.ensures.below in
    (r.1 c.index-root.result.now c.index-root.ensures).1
