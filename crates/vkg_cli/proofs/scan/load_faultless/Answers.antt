use Rattle.std.proofs.Common.{Ok, Err}
use Rattle.vkg_cli.proofs.LoadLemmas.{faultless_of, none_of}
use Rattle.vkg_cli.proofs.Ran.{ran_settle, ran_stop, ran_then}
use Rattle.vkg_cli.proofs.Whole.{determined_mapping}
use Rattle.vkg_cli.proofs.scan.load_faultless.Goals as goal

pub returns-in-Err-clause-ran : goal.returns-in-Err-clause-ran
returns-in-Err-clause-ran g c = ran_stop _ _ _ _ _ (rw c.schema.ensures at c.in-Err.ensures.ran)

pub scan_file-requires : goal.scan_file-requires
scan_file-requires g c =
    λ none. none_of c.args.db.now.tables c.in-Ok.mapping ((rw c.schema.ensures at c.in-Ok.ensures.faultless none) _ c.requires.meets)

pub returns-in-Ok-scan_file-clause-ran : goal.returns-in-Ok-scan_file-clause-ran
returns-in-Ok-scan_file-clause-ran g c =
    ran_then _ _ _ _ _ _ _ (λ files. determined_mapping files _ _ _) (rw c.schema.ensures at c.in-Ok.ensures.ran) (ran_settle _ _ (Ok c.in-Ok.mapping) c.in-Ok-scan_file.ensures.value)

pub returns-in-Ok-scan_file-clause-faultless : goal.returns-in-Ok-scan_file-clause-faultless
returns-in-Ok-scan_file-clause-faultless g c = faultless_of c.args.db.now.tables c.in-Ok.mapping c.in-Ok-scan_file.ensures.none

pub returns-in-Err-scan_file-clause-ran : goal.returns-in-Err-scan_file-clause-ran
returns-in-Err-scan_file-clause-ran g c =
    ran_then _ _ _ _ _ _ _ (λ files. determined_mapping files _ _ _) (rw c.schema.ensures at c.in-Ok.ensures.ran) (ran_settle _ _ (Err c.in-Err-scan_file.stop) c.in-Err-scan_file.ensures.value)

pub returns-in-Ok-scan_file-clause-within : goal.returns-in-Ok-scan_file-clause-within
returns-in-Ok-scan_file-clause-within g c = rw c.schema.ensures at c.in-Ok.ensures.within

pub returns-in-Ok-scan_file-clause-graph : goal.returns-in-Ok-scan_file-clause-graph
returns-in-Ok-scan_file-clause-graph g c = λ none. rw c.schema.ensures at c.in-Ok.ensures.graph none
