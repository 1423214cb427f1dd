use Rattle.std.proofs.Common.{subst, sym}
use Rattle.vkg_grammar.specs.Form.{IsWellFormed}
use Rattle.vkg_grammar.specs.Grammar.{IsLL1}
use Rattle.vkg_tokens.specs.declared.ddl_kinds.TheConstants.{KIND_COUNT}
use Rattle.vkg_ddl.proofs.Certificate.{ddl_form, ddl_ll1}
use Rattle.vkg_ddl.proofs.reading.notes_of.Goals as goal

pub new-grammar-requires : goal.new-grammar-requires
new-grammar-requires c = subst (λ g. IsWellFormed g KIND_COUNT) (sym c.rules.ensures) ddl_form

pub parse-requires-clause-ll1 : goal.parse-requires-clause-ll1
parse-requires-clause-ll1 c = subst (λ f. IsLL1 f.rules) (sym c.new-grammar.ensures) (subst IsLL1 (sym c.rules.ensures) ddl_ll1)
