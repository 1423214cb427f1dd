use Rattle.std.proofs.Common.{reverse, take}
use Rattle.vkg_grammar.specs.Kinds.{kinds_of}
use Rattle.vkg_grammar.specs.Machine.{Parsed}
use Rattle.vkg_grammar.proofs.parsing.parse_by.Given as goal

abbrev pub invariant-loop-index : goal.invariant-loop-index
invariant-loop-index l = Parsed l.rules (take l.index (kinds_of l.tokens)) (reverse l.stack.items) l.notes.items
