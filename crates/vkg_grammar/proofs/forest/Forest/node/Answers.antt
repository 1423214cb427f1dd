use Rattle.std.proofs.Common.{◌≡◌, ap, sym, ◌∙◌, get_or}
use Rattle.std.proofs.lemmas.List.{get_or_default}
use Rattle.vkg_grammar.specs.declared.forest.Node.TheVariants.{Nothing}
use Rattle.vkg_grammar.specs.Trees.{grown, trees_of}
use Rattle.vkg_grammar.proofs.Forests.{made}
use Rattle.vkg_grammar.proofs.forest.Forest.node.Goals as goal

pub returns-clause-made : goal.returns-clause-made
returns-clause-made c =
    let ns = c.args.self.now.nodes.items in
    let same : get_or ns c.args.at Nothing ≡ c.index.result.now = get_or_default ns c.args.at Nothing c.index.result.now c.requires ∙ sym c.index.ensures in
    made ns c.args.at c.requires (c.args.self.now.before c.args.at c.requires) ∙ ap (λ n. grown (trees_of ns) n) same
