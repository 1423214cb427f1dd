use Rattle.std.proofs.Common.{◌≡◌, ◌++◌, drop, map}
use Rattle.vkg_plan.specs.Plan.{plans}
use Rattle.vkg_plan.specs.Seen.{plan_seen}
use Rattle.vkg_sqltext.specs.Text.{sql_texts}
use Rattle.vkg_sqltext.proofs.plan_texts.+plan_text.Given as goal

abbrev pub invariant-plan_texts-loop-p : goal.invariant-plan_texts-loop-p
invariant-plan_texts-loop-p l = sql_texts l.schema (plans (map plan_seen l.ps)) ≡ l.texts ++ sql_texts l.schema (plans (map plan_seen (drop l.p-index l.ps)))
