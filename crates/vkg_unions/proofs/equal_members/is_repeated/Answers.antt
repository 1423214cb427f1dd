-- Plans of other numbers are other plans.
use Rattle.std.proofs.Common.{◌∙◌, sym}
use Rattle.vkg_unions.proofs.Keys.{not_among}
use Rattle.vkg_plan.specs.Seen.{plan_seen}
use Rattle.vkg_unions.proofs.equal_members.is_repeated.Goals as goal

pub returns-else-has_key : goal.returns-else-has_key
returns-else-has_key c = c.if-has_key.false ∙ sym (not_among c.args.plans.now (plan_seen c.args.p.now) c.args.keys.now c.args.key c.requires.keys c.requires.key (sym c.has_key.ensures ∙ c.if-has_key.false))
