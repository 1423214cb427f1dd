use Rattle.vkg_cli.proofs.Ran.{ran_settle}
use Rattle.vkg_cli.proofs.Names.{these_none}
use Rattle.vkg_cli.proofs.mapping.load_mapping.Goals as goal

pub returns-in-None-clause-ran : goal.returns-in-None-clause-ran
returns-in-None-clause-ran g c = rw c.in-None.is (ran_settle _ _ c.direct_mapping.result c.direct_mapping.ensures.maps)

pub returns-in-Some-clause-ran : goal.returns-in-Some-clause-ran
returns-in-Some-clause-ran g c = rw c.in-Some.is c.load_text.ensures.ran

pub returns-in-None-clause-asked : goal.returns-in-None-clause-asked
returns-in-None-clause-asked g c = rw c.in-None.is (these_none _ c.direct_mapping.result)

pub returns-in-Some-clause-asked : goal.returns-in-Some-clause-asked
returns-in-Some-clause-asked g c = rw c.in-Some.is c.load_text.ensures.asked
