use Rattle.vkg_cli.proofs.LoadLemmas.{checks_keys, checks_references, none_found}
use Rattle.vkg_cli.proofs.database.check.Goals as goal

pub returns-in-Err-clause-value : goal.returns-in-Err-clause-value
returns-in-Err-clause-value c = checks_keys c.args.db.now c.in-Err.stop c.in-Err.ensures.value

pub returns-in-Ok-clause-value : goal.returns-in-Ok-clause-value
returns-in-Ok-clause-value c = checks_references c.args.db.now c.check_references.result (none_found _ c.in-Ok.ensures.value) c.check_references.ensures.value

pub check_references-requires : goal.check_references-requires
check_references-requires c = none_found _ c.in-Ok.ensures.value
