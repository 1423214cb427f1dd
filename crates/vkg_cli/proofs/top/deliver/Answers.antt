use Rattle.vkg_cli.proofs.Answers.{stopped}
use Rattle.vkg_cli.proofs.top.deliver.Goals as goal

pub returns : goal.returns
returns g c = stopped _ _ _ _ _ _ c.in-Err.is c.tell_stop.ensures
