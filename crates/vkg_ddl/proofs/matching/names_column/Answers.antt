use Rattle.std.proofs.Common.{◌∙◌, sym, ap}
use Rattle.std.specs.Prelude.{is_some}
use Rattle.vkg_lists.proofs.Positions.{any_at}
use Rattle.vkg_ddl.specs.NameChecks.{matches}
use Rattle.vkg_ddl.proofs.matching.names_column.Goals as goal

pub returns : goal.returns
returns c = c.is_some.ensures ∙ ap is_some c.place.ensures ∙ sym (any_at (λ d. matches c.args.n.now d.name) c.args.columns.now)
