use Rattle.std.proofs.Common.{length, [], ◌∷◌, ap, ◌<◌}
use Rattle.vkg_lists.proofs.Members.{recursion_at}
use Rattle.vkg_grammar.specs.Grammar.{shape, the_parts, the_first, the_second}
use Rattle.vkg_grammar.proofs.productive.has_text.Goals as goal

pub all_found-requires : goal.all_found-requires
all_found-requires c = λ i h. rw c.requires.sized (recursion_at (λ k. k < length c.args.rules.now) (c.in-Then.first ∷ c.in-Then.second ∷ []) i 0 (c.requires.grammar.closed c.args.symbol (c.in-Then.first ∷ c.in-Then.second ∷ []) c.requires.inside (the_parts (ap (shape c.args.symbol) c.in-Then.is))) h)

pub all_found-requires-in-Either : goal.all_found-requires-in-Either
all_found-requires-in-Either c = λ i h. rw c.requires.sized (recursion_at (λ k. k < length c.args.rules.now) (c.in-Either.first ∷ []) i 0 (c.requires.grammar.closed c.args.symbol (c.in-Either.first ∷ []) c.requires.inside (the_first {ys = c.in-Either.second ∷ []} (ap (shape c.args.symbol) c.in-Either.is))) h)

pub all_found-requires-else-all_found : goal.all_found-requires-else-all_found
all_found-requires-else-all_found c = λ i h. rw c.requires.sized (recursion_at (λ k. k < length c.args.rules.now) (c.in-Either.second ∷ []) i 0 (c.requires.grammar.closed c.args.symbol (c.in-Either.second ∷ []) c.requires.inside (the_second {xs = c.in-Either.first ∷ []} (ap (shape c.args.symbol) c.in-Either.is))) h)
