use Rattle.std.proofs.Common.{length, [], ◌∷◌, refl, ap, ◌∙◌}
use Rattle.vkg_grammar.specs.Grammar.{shape, the_first, the_second}
use Rattle.vkg_grammar.proofs.Replacing.{rows_below, did_parts, did_first, did_second, did_take, is_stuck_at, pushed, ok_more}
use Rattle.vkg_grammar.proofs.machine.expand.Goals as goal

pub returns-then-is_stuck : goal.returns-then-is_stuck
returns-then-is_stuck c = is_stuck_at c.requires.grammar c.requires.is_table c.requires.inside (c.is_stuck.ensures.stuck c.if-is_stuck.true)

pub takes_first-requires-clause-rows : goal.takes_first-requires-clause-rows
takes_first-requires-clause-rows c = rows_below c.args.width (length c.args.rules.now) (length c.args.table.now) c.args.seen (c.in-Either.first ∷ []) (c.requires.grammar.closed c.args.symbol (c.in-Either.first ∷ []) c.requires.inside (the_first {ys = c.in-Either.second ∷ []} (ap (shape c.args.symbol) c.in-Either.is))) c.requires.sized c.requires.in_column

pub takes_first-requires-clause-second_rows : goal.takes_first-requires-clause-second_rows
takes_first-requires-clause-second_rows c = rows_below c.args.width (length c.args.rules.now) (length c.args.table.now) c.args.seen (c.in-Either.second ∷ []) (c.requires.grammar.closed c.args.symbol (c.in-Either.second ∷ []) c.requires.inside (the_second {xs = c.in-Either.first ∷ []} (ap (shape c.args.symbol) c.in-Either.is))) c.requires.sized c.requires.in_column

pub takes_first-requires-in-Optional-clause-rows : goal.takes_first-requires-in-Optional-clause-rows
takes_first-requires-in-Optional-clause-rows c = rows_below c.args.width (length c.args.rules.now) (length c.args.table.now) c.args.seen (c.in-Optional.part ∷ []) (c.requires.grammar.closed c.args.symbol (c.in-Optional.part ∷ []) c.requires.inside (the_first {ys = []} (ap (shape c.args.symbol) c.in-Optional.is))) c.requires.sized c.requires.in_column

pub takes_first-requires-in-Repeated-clause-rows : goal.takes_first-requires-in-Repeated-clause-rows
takes_first-requires-in-Repeated-clause-rows c = rows_below c.args.width (length c.args.rules.now) (length c.args.table.now) c.args.seen (c.in-Repeated.part ∷ c.args.symbol ∷ []) (c.requires.grammar.closed c.args.symbol (c.in-Repeated.part ∷ c.args.symbol ∷ []) c.requires.inside (the_first {ys = []} (ap (shape c.args.symbol) c.in-Repeated.is))) c.requires.sized c.requires.in_column

pub returns-in_ok-_more-in-Token : goal.returns-in_ok-_more-in-Token
returns-in_ok-_more-in-Token c = did_take _ _ (record { grammar = c.requires.grammar; ll1 = c.requires.ll1; is_table = c.requires.is_table; inside = c.requires.inside; live = c.is_stuck.ensures.live c.if-is_stuck.false }) (ap (shape c.args.symbol) c.in-Token.is) c.in_ok-_more-in-Token.ensures.1

pub returns-in-Empty : goal.returns-in-Empty
returns-in-Empty c = ok_more _ _ _ _ _ (λ e. did_parts _ [] c.args.notes.now.items (record { grammar = c.requires.grammar; ll1 = c.requires.ll1; is_table = c.requires.is_table; inside = c.requires.inside; live = c.is_stuck.ensures.live c.if-is_stuck.false }) (ap (shape c.args.symbol) c.in-Empty.is) refl e) c.noted-in-Empty.ensures

pub returns-in_ok-push-in-Then-2 : goal.returns-in_ok-push-in-Then-2
returns-in_ok-push-in-Then-2 c = ok_more _ _ _ _ _ (λ e. did_parts _ (c.in-Then.first ∷ c.in-Then.second ∷ []) c.args.notes.now.items (record { grammar = c.requires.grammar; ll1 = c.requires.ll1; is_table = c.requires.is_table; inside = c.requires.inside; live = c.is_stuck.ensures.live c.if-is_stuck.false }) (ap (shape c.args.symbol) c.in-Then.is) (pushed _ c.in_ok-push-in-Then-2.ensures.items ∙ ap (λ t. c.in-Then.first ∷ t) (pushed _ c.in_ok-push-in-Then.ensures.items)) e) c.noted-in-Then.ensures

pub returns-then-takes_first : goal.returns-then-takes_first
returns-then-takes_first c = ok_more _ _ _ _ _ (λ e. did_first _ c.args.notes.now.items (c.in-Either.first ∷ []) (c.in-Either.second ∷ []) (record { grammar = c.requires.grammar; ll1 = c.requires.ll1; is_table = c.requires.is_table; inside = c.requires.inside; live = c.is_stuck.ensures.live c.if-is_stuck.false }) (ap (shape c.args.symbol) c.in-Either.is) (c.takes_first.ensures.first c.if-takes_first.true) (pushed _ c.in_ok-push-in-Either.ensures.items) e) c.noted-then-takes_first.ensures

pub returns-in_ok-push-in-Either-2 : goal.returns-in_ok-push-in-Either-2
returns-in_ok-push-in-Either-2 c = ok_more _ _ _ _ _ (λ e. did_second _ c.args.notes.now.items (c.in-Either.first ∷ []) (c.in-Either.second ∷ []) (record { grammar = c.requires.grammar; ll1 = c.requires.ll1; is_table = c.requires.is_table; inside = c.requires.inside; live = c.is_stuck.ensures.live c.if-is_stuck.false }) (ap (shape c.args.symbol) c.in-Either.is) (c.takes_first.ensures.second c.if-takes_first.false) (pushed _ c.in_ok-push-in-Either-2.ensures.items) e) c.noted-in-Either.ensures

pub returns-then-not-takes_first : goal.returns-then-not-takes_first
returns-then-not-takes_first c = ok_more _ _ _ _ _ (λ e. did_second _ c.args.notes.now.items (c.in-Optional.part ∷ []) [] (record { grammar = c.requires.grammar; ll1 = c.requires.ll1; is_table = c.requires.is_table; inside = c.requires.inside; live = c.is_stuck.ensures.live c.if-is_stuck.false }) (ap (shape c.args.symbol) c.in-Optional.is) (c.takes_first-in-Optional.ensures.second c.if-not-takes_first.true) refl e) c.noted-then-not-takes_first.ensures

pub returns-in_ok-push-in-Optional : goal.returns-in_ok-push-in-Optional
returns-in_ok-push-in-Optional c = ok_more _ _ _ _ _ (λ e. did_first _ c.args.notes.now.items (c.in-Optional.part ∷ []) [] (record { grammar = c.requires.grammar; ll1 = c.requires.ll1; is_table = c.requires.is_table; inside = c.requires.inside; live = c.is_stuck.ensures.live c.if-is_stuck.false }) (ap (shape c.args.symbol) c.in-Optional.is) (c.takes_first-in-Optional.ensures.first c.if-not-takes_first.false) (pushed _ c.in_ok-push-in-Optional.ensures.items) e) c.noted-in-Optional.ensures

pub returns-then-not-takes_first-2 : goal.returns-then-not-takes_first-2
returns-then-not-takes_first-2 c = ok_more _ _ _ _ _ (λ e. did_second _ c.args.notes.now.items (c.in-Repeated.part ∷ c.args.symbol ∷ []) [] (record { grammar = c.requires.grammar; ll1 = c.requires.ll1; is_table = c.requires.is_table; inside = c.requires.inside; live = c.is_stuck.ensures.live c.if-is_stuck.false }) (ap (shape c.args.symbol) c.in-Repeated.is) (c.takes_first-in-Repeated.ensures.second c.if-not-takes_first-2.true) refl e) c.noted-then-not-takes_first-2.ensures

pub returns-in_ok-push-in-Repeated-2 : goal.returns-in_ok-push-in-Repeated-2
returns-in_ok-push-in-Repeated-2 c = ok_more _ _ _ _ _ (λ e. did_first _ c.args.notes.now.items (c.in-Repeated.part ∷ c.args.symbol ∷ []) [] (record { grammar = c.requires.grammar; ll1 = c.requires.ll1; is_table = c.requires.is_table; inside = c.requires.inside; live = c.is_stuck.ensures.live c.if-is_stuck.false }) (ap (shape c.args.symbol) c.in-Repeated.is) (c.takes_first-in-Repeated.ensures.first c.if-not-takes_first-2.false) (pushed _ c.in_ok-push-in-Repeated-2.ensures.items ∙ ap (λ t. c.in-Repeated.part ∷ t) (pushed _ c.in_ok-push-in-Repeated.ensures.items)) e) c.noted-in-Repeated.ensures
