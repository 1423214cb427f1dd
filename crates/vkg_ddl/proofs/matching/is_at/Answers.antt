use Rattle.std.proofs.Common.{◌∙◌, sym, ap}
use Rattle.std.specs.Prelude.{slice_get}
use Rattle.vkg_ddl.specs.NameChecks.{matches}
use Rattle.vkg_ddl.proofs.Placing.{untried}
use Rattle.vkg_ddl.proofs.matching.is_at.Goals as goal

pub returns-else-matches : goal.returns-else-matches
returns-else-matches c = c.if-matches.false ∙ untried (λ d. matches c.args.n.now d.name) c.args.columns.now c.args.place c.in-Some.c.now (ap (λ cs. slice_get cs c.args.place) (sym c.as_slice.ensures) ∙ sym c.in-Some.ensures) (sym c.matches.ensures ∙ c.if-matches.false)
