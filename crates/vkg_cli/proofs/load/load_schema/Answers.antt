use Rattle.std.proofs.Common.{[], ◌∷◌}
use Rattle.vkg_cli.specs.declared.load.TheConstants.{LIMIT}
use Rattle.vkg_cli.proofs.Ran.{determined_loads, ran_settle, ran_stop, ran_then}
use Rattle.vkg_cli.proofs.AskedNames.{load_asks}
use Rattle.vkg_cli.proofs.load.load_schema.Goals as goal

pub returns-in-Err-clause-ran : goal.returns-in-Err-clause-ran
returns-in-Err-clause-ran g c = ran_stop _ _ _ _ _ c.in-Err.ensures.ran

pub returns-clause-ran : goal.returns-clause-ran
returns-clause-ran g c =
    ran_then _ _ _ _ _ _ _ (λ files. determined_loads LIMIT files _) c.in-Ok.ensures.ran
    (ran_settle _ _ c.schema_of.result (rw c.deref.ensures.value at c.schema_of.ensures.value))

pub returns-in-Err-clause-asked : goal.returns-in-Err-clause-asked
returns-in-Err-clause-asked g c = c.in-Err.ensures.asked

pub returns-clause-asked : goal.returns-clause-asked
returns-clause-asked g c = load_asks _ _ _ _ (c.args.name.now ∷ []) c.schema_of.result c.in-Ok.ensures.ran c.in-Ok.ensures.asked
