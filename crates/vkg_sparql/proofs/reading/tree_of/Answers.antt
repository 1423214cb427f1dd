use Rattle.std.proofs.Common.{subst, sym}
use Rattle.vkg_grammar.specs.Form.{IsWellFormed}
use Rattle.vkg_grammar.specs.Grammar.{IsLL1}
use Rattle.vkg_tokens.specs.declared.sparql_kinds.TheConstants.{KIND_COUNT}
use Rattle.vkg_sparql.proofs.Certificate.{sparql_form, sparql_ll1}
use Rattle.vkg_sparql.proofs.reading.tree_of.Goals as goal

pub with_limit-grammar-requires : goal.with_limit-grammar-requires
with_limit-grammar-requires c = subst (λ g. IsWellFormed g KIND_COUNT) (sym c.rules.ensures) sparql_form

pub parse_tree-requires-clause-ll1 : goal.parse_tree-requires-clause-ll1
parse_tree-requires-clause-ll1 c = subst (λ f. IsLL1 f.rules) (sym c.with_limit-grammar.ensures) (subst IsLL1 (sym c.rules.ensures) sparql_ll1)
