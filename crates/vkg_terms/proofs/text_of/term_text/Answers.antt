use Rattle.std.proofs.Common.{rules, ◌∙◌, ap}
use Rattle.std.specs.List.{list_all}
use Rattle.vkg_terms.specs.Writable.{is_inline}
use Rattle.vkg_terms.proofs.TextLemmas.{term_text_same, term_text_inline}
use Rattle.vkg_terms.proofs.text_of.term_text.Goals as goal

pub returns-clause-value : goal.returns-clause-value
returns-clause-value c = search rules

pub returns-clause-one_to_one : goal.returns-clause-one_to_one
returns-clause-one_to_one c = λ other u e. term_text_same other c.args.term.now u c.in_ok-push_term.ensures.utf8 (e ∙ returns-clause-value c)

pub returns-clause-one_field : goal.returns-clause-one_field
returns-clause-one_field c = λ w. ap (list_all is_inline) (returns-clause-value c) ∙ term_text_inline c.args.term.now w
