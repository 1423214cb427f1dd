use Rattle.std.proofs.Common.{◌∙◌, sym, ap, inr, Ok}
use Rattle.vkg_direct.specs.DirectMapping.{maps_of}
use Rattle.vkg_direct.proofs.RuleCount.{too_many, few_enough}
use Rattle.vkg_direct.proofs.mapping.direct_within_limit.Goals as goal

pub returns-then-exceeds_limit-clause-err : goal.returns-then-exceeds_limit-clause-err
returns-then-exceeds_limit-clause-err c = inr (too_many c.args.tables.now c.args.base.now (sym c.exceeds_limit.ensures ∙ c.if-exceeds_limit.true))

pub returns-clause-ok : goal.returns-clause-ok
returns-clause-ok c =
    few_enough c.args.tables.now c.args.base.now (sym c.exceeds_limit.ensures ∙ c.if-exceeds_limit.false)
    ∙ ap (λ base. Ok (record { base = base; maps = maps_of c.args.base.now c.args.tables.now })) (sym c.in_ok-base.ensures)
    ∙ ap (λ maps. Ok (record { base = c.in_ok-base.base; maps = maps })) (sym c.in_ok-maps.ensures)
