use Rattle.vkg_grammar.proofs.Following.{shape_behind}
use Rattle.vkg_grammar.specs.Grammar.{shape_of}
use Rattle.vkg_grammar.specs.Rank.{rank_in}
use Rattle.vkg_grammar.proofs.follow.parent_follows.Goals as goal

pub returns : goal.returns
returns c = (
  (λ t. shape_behind (rank_in c.args.table.now c.args.width) c.args.symbol c.args.seen (shape_of c.args.rules.now c.args.parent) c.is_ranked-behind.ensures.0 (c.symbol_follows.ensures.0 t)),
  (λ p. c.symbol_follows.ensures.1 (shape_behind (rank_in c.args.table.now c.args.width) c.args.symbol c.args.seen (shape_of c.args.rules.now c.args.parent) c.is_ranked-behind.ensures.1 p)),
)
