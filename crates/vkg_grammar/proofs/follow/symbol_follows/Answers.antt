use Rattle.std.proofs.Common.{length, [], ◌∷◌, ap}
use Rattle.vkg_grammar.specs.Grammar.{shape, the_parts, the_first, the_second}
use Rattle.vkg_grammar.proofs.Replacing.{rows_below}
use Rattle.vkg_grammar.proofs.follow.symbol_follows.Goals as goal

pub place_follows-requires : goal.place_follows-requires
place_follows-requires c = rows_below c.args.width (length c.args.rules.now) (length c.args.table.now) c.args.seen (c.in-Then.first ∷ c.in-Then.second ∷ []) (c.requires.grammar.closed c.args.parent (c.in-Then.first ∷ c.in-Then.second ∷ []) c.requires.inside (the_parts (ap (shape c.args.parent) c.in-Then.is))) c.requires.sized c.requires.in_column

pub place_follows-requires-in-Either : goal.place_follows-requires-in-Either
place_follows-requires-in-Either c = rows_below c.args.width (length c.args.rules.now) (length c.args.table.now) c.args.seen (c.in-Either.first ∷ []) (c.requires.grammar.closed c.args.parent (c.in-Either.first ∷ []) c.requires.inside (the_first {ys = c.in-Either.second ∷ []} (ap (shape c.args.parent) c.in-Either.is))) c.requires.sized c.requires.in_column

pub place_follows-requires-else-place_follows : goal.place_follows-requires-else-place_follows
place_follows-requires-else-place_follows c = rows_below c.args.width (length c.args.rules.now) (length c.args.table.now) c.args.seen (c.in-Either.second ∷ []) (c.requires.grammar.closed c.args.parent (c.in-Either.second ∷ []) c.requires.inside (the_second {xs = c.in-Either.first ∷ []} (ap (shape c.args.parent) c.in-Either.is))) c.requires.sized c.requires.in_column

pub place_follows-requires-in-Optional : goal.place_follows-requires-in-Optional
place_follows-requires-in-Optional c = rows_below c.args.width (length c.args.rules.now) (length c.args.table.now) c.args.seen (c.in-Optional.part ∷ []) (c.requires.grammar.closed c.args.parent (c.in-Optional.part ∷ []) c.requires.inside (the_first {ys = []} (ap (shape c.args.parent) c.in-Optional.is))) c.requires.sized c.requires.in_column

pub place_follows-requires-in-Repeated : goal.place_follows-requires-in-Repeated
place_follows-requires-in-Repeated c = rows_below c.args.width (length c.args.rules.now) (length c.args.table.now) c.args.seen (c.in-Repeated.part ∷ c.args.parent ∷ []) (c.requires.grammar.closed c.args.parent (c.in-Repeated.part ∷ c.args.parent ∷ []) c.requires.inside (the_first {ys = []} (ap (shape c.args.parent) c.in-Repeated.is))) c.requires.sized c.requires.in_column
