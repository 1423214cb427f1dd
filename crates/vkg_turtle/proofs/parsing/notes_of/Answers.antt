use Rattle.std.proofs.Common.{subst, sym}
use Rattle.vkg_grammar.specs.Form.{IsWellFormed}
use Rattle.vkg_grammar.specs.Grammar.{IsLL1}
use Rattle.vkg_tokens.specs.declared.turtle_kinds.TheConstants.{KIND_COUNT}
use Rattle.vkg_turtle.proofs.Certificate.{turtle_form, turtle_ll1}
use Rattle.vkg_turtle.proofs.parsing.notes_of.Goals as goal

pub with_limit-grammar-requires : goal.with_limit-grammar-requires
with_limit-grammar-requires c = subst (λ g. IsWellFormed g KIND_COUNT) (sym c.rules.ensures) turtle_form

pub parse-requires-clause-ll1 : goal.parse-requires-clause-ll1
parse-requires-clause-ll1 c = subst (λ f. IsLL1 f.rules) (sym c.with_limit-grammar.ensures) (subst IsLL1 (sym c.rules.ensures) turtle_ll1)
