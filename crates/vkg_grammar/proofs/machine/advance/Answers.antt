use Rattle.std.proofs.Common.{reverse, arith}
use Rattle.std.proofs.lemmas.List.{nil_from_length}
use Rattle.vkg_grammar.specs.Rank.{rank_in}
use Rattle.vkg_grammar.proofs.Advancing.{on_stack, reached_more, advanced_taken, advanced_stuck, advanced_out}
use Rattle.vkg_grammar.proofs.machine.advance.Goals as goal

pub returns-in-Taken : goal.returns-in-Taken
returns-in-Taken c = advanced_taken (rank_in c.args.table.now c.args.width) (reverse c.pop.new.self.items) (reverse c.expand.new.stack.items) c.args.notes.now.items c.loop-symbol.notes.items c.expand.new.notes.items (rw c.in-Taken.is at c.in_ok-expand.ensures) (on_stack c.loop-symbol.stack.items c.pop.new.self.items c.args.notes.now.items c.loop-symbol.notes.items c.in-Some.ensures.items c.loop-symbol.invariant)

pub returns-in-Stuck : goal.returns-in-Stuck
returns-in-Stuck c = advanced_stuck (rank_in c.args.table.now c.args.width) (reverse c.pop.new.self.items) (reverse c.expand.new.stack.items) c.args.notes.now.items c.loop-symbol.notes.items c.expand.new.notes.items (rw c.in-Stuck.is at c.in_ok-expand.ensures) (on_stack c.loop-symbol.stack.items c.pop.new.self.items c.args.notes.now.items c.loop-symbol.notes.items c.in-Some.ensures.items c.loop-symbol.invariant)

pub loop-symbol-preserved : goal.loop-symbol-preserved
loop-symbol-preserved c = reached_more (rank_in c.args.table.now c.args.width) (reverse c.pop.new.self.items) (reverse c.expand.new.stack.items) c.args.notes.now.items c.loop-symbol.notes.items c.expand.new.notes.items c.requires.grammar c.requires.ll1 (rw c.in-More.is at c.in_ok-expand.ensures) (on_stack c.loop-symbol.stack.items c.pop.new.self.items c.args.notes.now.items c.loop-symbol.notes.items c.in-Some.ensures.items c.loop-symbol.invariant)

pub returns : goal.returns
returns c = advanced_out c.args.seen c.loop-symbol.stack.items c.pop.new.self.items c.args.notes.now.items c.loop-symbol.notes.items c.is_none.result c.in_default.ensures.items (nil_from_length c.pop.new.self.items (omega (arith, c.in_default.ensures.cases, c.pop.new.self.ok.0))) c.is_none.ensures c.loop-symbol.invariant
