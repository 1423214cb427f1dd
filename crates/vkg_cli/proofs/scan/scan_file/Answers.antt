use Rattle.vkg_cli.proofs.LoadLemmas.{scans_none}
use Rattle.vkg_cli.proofs.scan.scan_file.Goals as goal

pub returns-in-None-clause-value : goal.returns-in-None-clause-value
returns-in-None-clause-value c = scans_none c.args.db.now.tables c.args.mapping.now (c.requires c.in-None.is)
