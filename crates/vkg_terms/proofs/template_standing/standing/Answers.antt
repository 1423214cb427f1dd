use Rattle.std.proofs.Common.{◌∙◌, ap}
use Rattle.vkg_terms.specs.Standing.{decided}
use Rattle.vkg_terms.proofs.StandingLemmas.{standing_folds}
use Rattle.vkg_terms.proofs.template_standing.standing.Goals as goal

pub returns : goal.returns
returns c = c.decide.ensures ∙ (ap decided c.front_of.ensures ∙ standing_folds c.args.template.now)
