use Rattle.vkg_cli.specs.declared.load.TheConstants.{LIMIT}
use Rattle.vkg_cli.proofs.Ran.{determined_loads, ran_settle, ran_short, ran_then, ran_stop}
use Rattle.vkg_cli.proofs.load.load_table.Goals as goal

pub returns-in-Err-load_file-clause-ran : goal.returns-in-Err-load_file-clause-ran
returns-in-Err-load_file-clause-ran g c =
    ran_stop _ _ _ _ _ (rw (c.as_str.ensures.value, c.in-Ok.ensures) at c.in-Err-load_file.ensures.ran)

pub returns-clause-ran : goal.returns-clause-ran
returns-clause-ran g c =
    let read = rw c.deref.ensures.value at c.read_table.ensures.read in
    ran_then _ _ _ _ _ _ _ (λ files. determined_loads LIMIT files _) (rw (c.as_str.ensures.value, c.in-Ok.ensures) at c.in-Ok-load_file.ensures.ran)
    (ran_settle _ _ _ read)

pub returns-in-Err-clause-ran : goal.returns-in-Err-clause-ran
returns-in-Err-clause-ran g c = ran_short _ _
