use Rattle.std.proofs.Common.{rules, ◌∙◌, ap}
use Rattle.std.specs.List.{list_all}
use Rattle.vkg_terms.specs.NQuads.{quad_of}
use Rattle.vkg_terms.specs.Writable.{is_inline}
use Rattle.vkg_terms.proofs.TextLemmas.{line_same, line_inline}
use Rattle.vkg_terms.proofs.line.quad_line.Goals as goal

pub returns-clause-value : goal.returns-clause-value
returns-clause-value c = search rules

pub returns-clause-one_to_one : goal.returns-clause-one_to_one
returns-clause-one_to_one c = λ w other u e. line_same other (quad_of c.args.subject.now c.args.predicate.now c.args.object.now c.args.graph) u w (e ∙ returns-clause-value c)

pub returns-clause-one_line : goal.returns-clause-one_line
returns-clause-one_line c = λ w. ap (list_all is_inline) (returns-clause-value c) ∙ line_inline (quad_of c.args.subject.now c.args.predicate.now c.args.object.now c.args.graph) w
