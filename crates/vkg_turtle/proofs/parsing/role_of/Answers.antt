use Rattle.std.proofs.Common.{◌∙◌, ap}
use Rattle.std.specs.Prelude.{slice_get, unwrap_or}
use Rattle.vkg_turtle.specs.declared.role.Role.TheVariants.{Choice}
use Rattle.vkg_turtle.specs.Document.{role_of}
use Rattle.vkg_turtle.proofs.parsing.role_of.Goals as goal

pub returns : goal.returns
unfolding role_of
returns c = c.role_in.ensures ∙ ap (λ rs. unwrap_or (slice_get rs c.args.symbol) Choice) c.meanings.ensures
