use Rattle.std.proofs.Common.{inr}
use Rattle.vkg_cli.specs.declared.load.TheConstants.{LIMIT}
use Rattle.vkg_cli.proofs.Ran.{ran_load, ran_unread, ran_load_short}
use Rattle.vkg_cli.proofs.Names.{up_to_one}
use Rattle.vkg_cli.proofs.load.load_file.Goals as goal

pub returns-in-Ok-clause-ran : goal.returns-in-Ok-clause-ran
returns-in-Ok-clause-ran g c = ran_load LIMIT _ _ _ _ c.in-Ok.ensures.files c.in-Ok.ensures.counts.0 c.in-Ok.ensures.counts.1 c.in-Ok.ensures.bytes

pub returns-in-Err-Failed-clause-ran : goal.returns-in-Err-Failed-clause-ran
returns-in-Err-Failed-clause-ran g c =
    let counts = rw c.in-Err-Failed.field-0-is at c.in-Err-Failed.ensures.counts in
    ran_unread LIMIT _ _ _ c.in-Err-Failed.ensures.files counts.0 counts.1

pub returns-in-Err-Memory-clause-ran : goal.returns-in-Err-Memory-clause-ran
returns-in-Err-Memory-clause-ran g c =
    let counts = rw c.in-Err-Memory.field-0-is at c.in-Err-Memory.ensures.counts in
    ran_load_short LIMIT _ _ _ c.in-Err-Memory.ensures.files counts.0 counts.1

pub returns-in-Ok-clause-asked : goal.returns-in-Ok-clause-asked
returns-in-Ok-clause-asked g c = c.in-Ok.ensures.counts.0

pub returns-in-Err-Failed-clause-asked : goal.returns-in-Err-Failed-clause-asked
returns-in-Err-Failed-clause-asked g c =
    let counts = rw c.in-Err-Failed.field-0-is at c.in-Err-Failed.ensures.counts in
    up_to_one _ _ _ (inr counts.0)

pub returns-in-Err-Memory-clause-asked : goal.returns-in-Err-Memory-clause-asked
returns-in-Err-Memory-clause-asked g c =
    let counts = rw c.in-Err-Memory.field-0-is at c.in-Err-Memory.ensures.counts in
    up_to_one _ _ _ counts.0
