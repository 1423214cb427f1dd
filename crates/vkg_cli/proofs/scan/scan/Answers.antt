use Rattle.std.proofs.Common.{◌∙◌, sym}
use Rattle.vkg_cli.proofs.LoadLemmas.{scans_fault, scans_none}
use Rattle.vkg_cli.proofs.scan.scan.Goals as goal

pub returns-in-Ok-Some-clause-value : goal.returns-in-Ok-Some-clause-value
returns-in-Ok-Some-clause-value c =
    rw c.data_stop.ensures (scans_fault c.args.db.now.tables c.args.mapping.now c.in-Ok-Some.fault (sym c.in-Ok-Some.ensures.value ∙ c.in-Ok-Some.field-0-is))

pub returns-in-Ok-None-clause-value : goal.returns-in-Ok-None-clause-value
returns-in-Ok-None-clause-value c = scans_none c.args.db.now.tables c.args.mapping.now (sym c.in-Ok-None.ensures.value ∙ c.in-Ok-None.field-0-is)
