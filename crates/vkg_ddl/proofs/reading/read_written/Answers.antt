use Rattle.std.proofs.Common.{[], sym, subst}
use Rattle.std.specs.List.{AllByRecursion}
use Rattle.vkg_grammar.specs.Kinds.{AreBelow}
use Rattle.vkg_tokens.specs.declared.ddl_kinds.TheConstants.{KIND_COUNT}
use Rattle.vkg_ddl.specs.Formed.{IsWord, IsFormed}
use Rattle.vkg_ddl.specs.Names.{HasAsciiEnds}
use Rattle.vkg_ddl.proofs.Ends.{ascii_ends}
use Rattle.vkg_ddl.proofs.Forming.{written_formed}
use Rattle.vkg_ddl.proofs.reading.read_written.Goals as goal

pub notes_of-requires : goal.notes_of-requires
notes_of-requires c = subst (AreBelow KIND_COUNT) (sym c.deref.ensures.value) c.in-Ok.ensures.kinds

pub names_of-requires-clause-ends : goal.names_of-requires-clause-ends
names_of-requires-clause-ends c = subst (AllByRecursion (HasAsciiEnds c.args.text.now)) (sym c.deref-in-Ok-notes_of.ensures.value) (ascii_ends c.args.text.now c.in-Ok.tokens.items c.in-Ok.ensures.ok)

pub returns-in-Ok-notes_of-clause-form : goal.returns-in-Ok-notes_of-clause-form
returns-in-Ok-notes_of-clause-form c = subst (AllByRecursion IsFormed) (sym c.in_ok-written_of-in-Ok-notes_of.ensures) (written_formed _ _ [] (subst (AllByRecursion IsWord) (sym c.deref-in-Ok-notes_of-3.ensures.value) c.in_ok-names-in-Ok-notes_of.ensures.utf8) tt)
