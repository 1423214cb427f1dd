-- Where they may, the first rules rest.
use Rattle.std.proofs.Common.{◌∙◌, sym}
use Rattle.vkg_plan.specs.Seen.{plan_seen}
use Rattle.vkg_normal.proofs.AtRest.{first-rest}
use Rattle.vkg_normal.proofs.first_rules.FirstRulesResting.rests.Goals as goal

pub returns : goal.returns
returns c = λ e. first-rest c.args.arg2.now (plan_seen c.args.plan.now) c.requires.typed c.requires.none (sym c.may_rest.ensures ∙ e)
