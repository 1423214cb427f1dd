-- The text of a Left or an AntiJoin is made of those of its sides.
use Rattle.vkg_sqltext.proofs.AntiText.{anti_case}
use Rattle.vkg_sqltext.proofs.LeftText.{left_case}
use Rattle.vkg_sqltext.proofs.plan_texts.+plan_text.Goals as goal

pub plan_text-returns-in-Left : goal.plan_text-returns-in-Left
plan_text-returns-in-Left t c =
    left_case c.args.schema.now c.args.plan.now c.in-Left.p c.in-Left.q c.deref-in-Left.result.now c.deref-in-Left-2.result.now c.in-Left.c
    c.left_text.result c.plan_text-in-Left.result c.plan_text-in-Left-2.result
    c.in-Left.is c.deref-in-Left.ensures c.deref-in-Left-2.ensures c.plan_text-in-Left.ensures c.plan_text-in-Left-2.ensures c.left_text.ensures

pub plan_text-returns-in-AntiJoin : goal.plan_text-returns-in-AntiJoin
plan_text-returns-in-AntiJoin t c =
    anti_case c.args.schema.now c.args.plan.now c.in-AntiJoin.p c.in-AntiJoin.q c.deref-in-AntiJoin.result.now c.deref-in-AntiJoin-2.result.now c.in-AntiJoin.c
    c.anti_text.result c.plan_text-in-AntiJoin.result c.plan_text-in-AntiJoin-2.result
    c.in-AntiJoin.is c.deref-in-AntiJoin.ensures c.deref-in-AntiJoin-2.ensures c.plan_text-in-AntiJoin.ensures c.plan_text-in-AntiJoin-2.ensures c.anti_text.ensures
