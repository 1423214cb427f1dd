use Rattle.vkg_ddl.specs.Written.{edit_column}
use Rattle.vkg_ddl.proofs.Last.{last_none, last_edited}
use Rattle.vkg_ddl.proofs.written.edit_last_column.Goals as goal

pub returns-in_default : goal.returns-in_default
returns-in_default c = last_none (edit_column c.args.role c.args.token.now) c.in_default.ensures.0 c.in_default.ensures.1

pub returns : goal.returns
returns c = last_edited (edit_column c.args.role c.args.token.now) c.push.result c.pop.new.self c.push.new.self c.in-Some.ensures c.in_ok-edit_column.ensures c.push.ensures.ok
