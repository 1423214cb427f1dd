use Rattle.std.proofs.Common.{length, [], ◌∷◌, ap}
use Rattle.vkg_grammar.specs.Grammar.{shape, the_parts, the_first, the_second}
use Rattle.vkg_grammar.proofs.Replacing.{rows_below}
use Rattle.vkg_grammar.proofs.table.has_reason.Goals as goal

pub begins-requires-in-Then : goal.begins-requires-in-Then
begins-requires-in-Then c = rows_below c.args.width (length c.args.rules.now) (length c.args.table.now) c.args.seen (c.in-Then.first ∷ c.in-Then.second ∷ []) (c.requires.grammar.closed c.args.symbol (c.in-Then.first ∷ c.in-Then.second ∷ []) c.requires.inside (the_parts (ap (shape c.args.symbol) c.in-Then.is))) c.requires.sized c.requires.in_column

pub begins_either-requires-clause-rows : goal.begins_either-requires-clause-rows
begins_either-requires-clause-rows c = rows_below c.args.width (length c.args.rules.now) (length c.args.table.now) c.args.seen (c.in-Either.first ∷ []) (c.requires.grammar.closed c.args.symbol (c.in-Either.first ∷ []) c.requires.inside (the_first {ys = c.in-Either.second ∷ []} (ap (shape c.args.symbol) c.in-Either.is))) c.requires.sized c.requires.in_column

pub begins_either-requires-clause-second_rows : goal.begins_either-requires-clause-second_rows
begins_either-requires-clause-second_rows c = rows_below c.args.width (length c.args.rules.now) (length c.args.table.now) c.args.seen (c.in-Either.second ∷ []) (c.requires.grammar.closed c.args.symbol (c.in-Either.second ∷ []) c.requires.inside (the_second {xs = c.in-Either.first ∷ []} (ap (shape c.args.symbol) c.in-Either.is))) c.requires.sized c.requires.in_column

pub begins_either-requires-in-Optional-clause-rows : goal.begins_either-requires-in-Optional-clause-rows
begins_either-requires-in-Optional-clause-rows c = rows_below c.args.width (length c.args.rules.now) (length c.args.table.now) c.args.seen (c.in-Optional.part ∷ []) (c.requires.grammar.closed c.args.symbol (c.in-Optional.part ∷ []) c.requires.inside (the_first {ys = []} (ap (shape c.args.symbol) c.in-Optional.is))) c.requires.sized c.requires.in_column

pub begins_either-requires-in-Repeated-clause-rows : goal.begins_either-requires-in-Repeated-clause-rows
begins_either-requires-in-Repeated-clause-rows c = rows_below c.args.width (length c.args.rules.now) (length c.args.table.now) c.args.seen (c.in-Repeated.part ∷ c.args.symbol ∷ []) (c.requires.grammar.closed c.args.symbol (c.in-Repeated.part ∷ c.args.symbol ∷ []) c.requires.inside (the_first {ys = []} (ap (shape c.args.symbol) c.in-Repeated.is))) c.requires.sized c.requires.in_column
