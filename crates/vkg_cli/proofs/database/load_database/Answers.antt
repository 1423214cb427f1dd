use Rattle.std.proofs.Common.{[], Ok, Err}
use Rattle.vkg_cli.proofs.Ran.{ran_settle, ran_stop, ran_then}
use Rattle.vkg_cli.proofs.Tables.{determined_tables}
use Rattle.vkg_cli.proofs.Whole.{determined_schema}
use Rattle.vkg_tables.specs.Seen.{Seen}
use Rattle.vkg_cli.proofs.Names.{from_more}
use Rattle.vkg_cli.proofs.database.load_database.Goals as goal

pub returns-in-Err-clause-ran : goal.returns-in-Err-clause-ran
returns-in-Err-clause-ran g c = ran_stop _ _ _ _ _ c.in-Err.ensures.ran

pub returns-in-Err-load_tables-clause-ran : goal.returns-in-Err-load_tables-clause-ran
returns-in-Err-load_tables-clause-ran g c =
    ran_then _ _ _ _ _ _ _ (λ files. determined_schema files _) c.in-Ok.ensures.ran (ran_stop _ _ _ _ _ c.in-Err-load_tables.ensures.ran)

pub returns-in-Ok-check-clause-ran : goal.returns-in-Ok-check-clause-ran
returns-in-Ok-check-clause-ran g c =
    ran_then _ _ _ _ _ _ _ (λ files. determined_schema files _) c.in-Ok.ensures.ran
    (ran_then _ _ _ _ _ _ _ (λ files. determined_tables files _ _ 0 _) c.in-Ok-load_tables.ensures.ran (ran_settle _ _ (Ok c.in-Ok-load_tables.db) c.in-Ok-check.ensures.value))

pub returns-clause-ran : goal.returns-clause-ran
returns-clause-ran g c =
    ran_then _ _ _ _ _ _ _ (λ files. determined_schema files _) c.in-Ok.ensures.ran
    (ran_then _ _ _ _ _ _ _ (λ files. determined_tables files _ _ 0 _) c.in-Ok-load_tables.ensures.ran (ran_settle _ _ (Err c.in-Err-check.stop) c.in-Err-check.ensures.value))

pub returns-in-Err-clause-asked : goal.returns-in-Err-clause-asked
returns-in-Err-clause-asked g c = ([], c.in-Err.ensures.asked)

pub returns-in-Err-load_tables-clause-asked : goal.returns-in-Err-load_tables-clause-asked
returns-in-Err-load_tables-clause-asked g c = from_more {A = Seen} _ [] _ _ _ (Err c.in-Err-load_tables.stop) c.in-Ok.ensures.asked c.in-Err-load_tables.ensures.ran.more

pub returns-in-Ok-check-clause-asked : goal.returns-in-Ok-check-clause-asked
returns-in-Ok-check-clause-asked g c = from_more _ [] _ _ _ (Ok c.in-Ok-load_tables.db) c.in-Ok.ensures.asked c.in-Ok-load_tables.ensures.ran.more

pub returns-clause-asked : goal.returns-clause-asked
returns-clause-asked g c = from_more {A = Seen} _ [] _ _ _ (Err c.in-Err-check.stop) c.in-Ok.ensures.asked c.in-Ok-load_tables.ensures.ran.more
