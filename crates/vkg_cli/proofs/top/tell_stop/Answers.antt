use Rattle.vkg_cli.proofs.Answers.{memory_stop, read_stop}
use Rattle.vkg_cli.proofs.top.tell_stop.Goals as goal

pub returns-in-Read : goal.returns-in-Read
returns-in-Read g c = read_stop _ _ _ c.in-Read.is c.tell.ensures

pub returns-in-Memory : goal.returns-in-Memory
returns-in-Memory g c = memory_stop _ _ _ c.in-Memory.is c.tell-in-Memory.ensures
