use Rattle.std.proofs.Common.{ap, ◌∙◌, ◌++◌, ◌∷◌, []}
use Rattle.vkg_grammar.specs.Trees.{trees_of, grown}
use Rattle.vkg_grammar.specs.Decoding.{tops_of}
use Rattle.vkg_grammar.proofs.Tops.{added}
use Rattle.vkg_grammar.proofs.building.add.Goals as goal

pub returns-clause-tops : goal.returns-clause-tops
returns-clause-tops c =
    let ns = c.args.forest.now.nodes.items in
    let s = c.args.stack.now.items in
    ap (tops_of c.push.new.self.nodes.items) (c.in_ok-push-2.ensures.items ∙ ap (λ x. s ++ x ∷ []) c.len-at.ensures) ∙ added ns c.push.new.self.nodes.items s (grown (trees_of ns) c.args.node) c.in_ok-push.ensures.trees c.requires.stack
