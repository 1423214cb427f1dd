use Rattle.std.proofs.Common.{length, [], ◌∷◌, ap, sym, subst, Some, None}
use Rattle.vkg_grammar.specs.Grammar.{shape, the_first, the_second}
use Rattle.vkg_grammar.specs.Rank.{rank_in}
use Rattle.vkg_grammar.specs.Tables.{ShapeApart}
use Rattle.vkg_grammar.proofs.Replacing.{rows_below}
use Rattle.vkg_grammar.proofs.check.is_apart.Goals as goal

pub are_apart-requires-clause-rows : goal.are_apart-requires-clause-rows
are_apart-requires-clause-rows c = λ k h. rows_below c.args.width (length c.args.rules.now) (length c.args.table.now) (Some k) (c.in-Either.first ∷ []) (c.requires.grammar.closed c.args.symbol (c.in-Either.first ∷ []) c.requires.inside (the_first {ys = c.in-Either.second ∷ []} (ap (shape c.args.symbol) c.in-Either.is))) c.requires.sized h

pub are_apart-requires-clause-none_rows : goal.are_apart-requires-clause-none_rows
are_apart-requires-clause-none_rows c = rows_below c.args.width (length c.args.rules.now) (length c.args.table.now) None (c.in-Either.first ∷ []) (c.requires.grammar.closed c.args.symbol (c.in-Either.first ∷ []) c.requires.inside (the_first {ys = c.in-Either.second ∷ []} (ap (shape c.args.symbol) c.in-Either.is))) c.requires.sized c.requires.wide

pub are_apart-requires-clause-second_rows : goal.are_apart-requires-clause-second_rows
are_apart-requires-clause-second_rows c = λ k h. rows_below c.args.width (length c.args.rules.now) (length c.args.table.now) (Some k) (c.in-Either.second ∷ []) (c.requires.grammar.closed c.args.symbol (c.in-Either.second ∷ []) c.requires.inside (the_second {xs = c.in-Either.first ∷ []} (ap (shape c.args.symbol) c.in-Either.is))) c.requires.sized h

pub are_apart-requires-clause-second_none_rows : goal.are_apart-requires-clause-second_none_rows
are_apart-requires-clause-second_none_rows c = rows_below c.args.width (length c.args.rules.now) (length c.args.table.now) None (c.in-Either.second ∷ []) (c.requires.grammar.closed c.args.symbol (c.in-Either.second ∷ []) c.requires.inside (the_second {xs = c.in-Either.first ∷ []} (ap (shape c.args.symbol) c.in-Either.is))) c.requires.sized c.requires.wide

pub are_apart-requires-in-Optional-clause-rows : goal.are_apart-requires-in-Optional-clause-rows
are_apart-requires-in-Optional-clause-rows c = λ k h. rows_below c.args.width (length c.args.rules.now) (length c.args.table.now) (Some k) (c.in-Optional.part ∷ []) (c.requires.grammar.closed c.args.symbol (c.in-Optional.part ∷ []) c.requires.inside (the_first {ys = []} (ap (shape c.args.symbol) c.in-Optional.is))) c.requires.sized h

pub are_apart-requires-in-Optional-clause-none_rows : goal.are_apart-requires-in-Optional-clause-none_rows
are_apart-requires-in-Optional-clause-none_rows c = rows_below c.args.width (length c.args.rules.now) (length c.args.table.now) None (c.in-Optional.part ∷ []) (c.requires.grammar.closed c.args.symbol (c.in-Optional.part ∷ []) c.requires.inside (the_first {ys = []} (ap (shape c.args.symbol) c.in-Optional.is))) c.requires.sized c.requires.wide

pub are_apart-requires-in-Repeated-clause-rows : goal.are_apart-requires-in-Repeated-clause-rows
are_apart-requires-in-Repeated-clause-rows c = λ k h. rows_below c.args.width (length c.args.rules.now) (length c.args.table.now) (Some k) (c.in-Repeated.part ∷ c.args.symbol ∷ []) (c.requires.grammar.closed c.args.symbol (c.in-Repeated.part ∷ c.args.symbol ∷ []) c.requires.inside (the_first {ys = []} (ap (shape c.args.symbol) c.in-Repeated.is))) c.requires.sized h

pub are_apart-requires-in-Repeated-clause-none_rows : goal.are_apart-requires-in-Repeated-clause-none_rows
are_apart-requires-in-Repeated-clause-none_rows c = rows_below c.args.width (length c.args.rules.now) (length c.args.table.now) None (c.in-Repeated.part ∷ c.args.symbol ∷ []) (c.requires.grammar.closed c.args.symbol (c.in-Repeated.part ∷ c.args.symbol ∷ []) c.requires.inside (the_first {ys = []} (ap (shape c.args.symbol) c.in-Repeated.is))) c.requires.sized c.requires.wide

pub returns-in-Either : goal.returns-in-Either
returns-in-Either c = ((λ t. subst (ShapeApart (rank_in c.args.table.now c.args.width) c.args.follow.now c.args.width c.args.symbol) (sym (ap (shape c.args.symbol) c.in-Either.is)) (c.are_apart.ensures.0 t)), λ a. c.are_apart.ensures.1 (subst (ShapeApart (rank_in c.args.table.now c.args.width) c.args.follow.now c.args.width c.args.symbol) (ap (shape c.args.symbol) c.in-Either.is) a))
