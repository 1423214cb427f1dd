use Rattle.std.proofs.lemmas.Result.{on_ok_weaker}
use Rattle.vkg_ddl.specs.Written.{edit}
use Rattle.vkg_ddl.proofs.Last.{last_none, last_edited, act_other}
use Rattle.std.proofs.Common.{◌∙◌, sym}
use Rattle.vkg_ddl.proofs.written.act.Goals as goal

pub returns-in_default-pop : goal.returns-in_default-pop
returns-in_default-pop c = last_none (edit c.args.role c.args.token.now) c.in_default-pop.ensures.0 c.in_default-pop.ensures.1 ∙ sym (act_other c.args.role c.args.token.now c.args.tables.now c.in_default.not-Table)

pub returns : goal.returns
returns c = on_ok_weaker c.push-2.result (λ n. n ∙ sym (act_other c.args.role c.args.token.now c.args.tables.now c.in_default.not-Table)) (last_edited (edit c.args.role c.args.token.now) c.push-2.result c.pop.new.self c.push-2.new.self c.in-Some.ensures c.in_ok-edit.ensures c.push-2.ensures.ok)
