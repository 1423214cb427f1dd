-- Checks of a loaded database, and of a mapping over it.
use Rattle.std.proofs.Common.{◌≡◌, [], ap, sym, Ok, Err, refl}
use Rattle.std.specs.Prelude.{Result, Option, Some, None, option_map}
use Rattle.vkg_lists.proofs.Nothing.{first_nothing}
use Rattle.vkg_schema.specs.Rows.{Database}
use Rattle.vkg_maps.specs.declared.mapping.Mapping.{Mapping}
use Rattle.vkg_maps.specs.declared.data_fault.DataFault.{DataFault}
use Rattle.vkg_maps.specs.DataFaults.{data_faults, least_data_fault}
use Rattle.vkg_cli.specs.declared.stops.Stop.{Stop}
use Rattle.vkg_cli.specs.declared.stops.Stop.TheVariants.{Refused, Read, Memory}
use Rattle.vkg_tables.specs.declared.fault.TableFault.{TableFault}
use Rattle.vkg_cli.specs.Stages.{Answers, carried, done_or}
use Rattle.vkg_tables.specs.Seen.{Seen}
use Rattle.vkg_lists.proofs.Results.{ok_err, unless_given}
use Rattle.vkg_lists.proofs.Onto.{map_lacking}
use Rattle.vkg_tables.specs.Checks.{key_fault, reference_fault}
use Rattle.vkg_cli.specs.Work.{Checks, Scans, checked, data_stop, table_stop, unless_data, unless_fault}

pub same_error : {A B : Type 0} (stop other : Stop) → (let one : Result A Stop = Err stop in one ≡ Err other) → (let one : Result B Stop = Err stop in one ≡ Err other)
same_error stop other e = cc

refused_by : {A : Type 0} (found : Option TableFault) (stop : Stop) (later : Result A Stop) → (let one : Result (Unit {0}) Stop = Err stop in one ≡ checked found) → (let one : Result A Stop = Err stop in one ≡ unless_fault found later)
refused_by None stop later e = absurd (ok_err tt stop (sym e))
refused_by {A} (Some f) stop later e = same_error {A = Unit {0}} {B = A} stop (table_stop f) e

pub none_found : (found : Option TableFault) → (let one : Result (Unit {0}) Stop = Ok tt in one ≡ checked found) → found ≡ None
none_found found e = map_lacking table_stop found (unless_given {A = Unit {0}} (option_map table_stop found) (Ok tt) tt (sym e)).0

module _ (db : Seen) where
  -- a repeated key, or want of memory
  pub checks_keys : (stop : Stop) → Answers {A = Unit {0}} (λ outcome. outcome ≡ checked (key_fault db.schema db.tables)) (Err stop) → Answers {A = Seen} (Checks db) (Err stop)
  unfolding Checks
  checks_keys (Refused fault) is = refused_by (key_fault db.schema db.tables) (Refused fault) _ is
  checks_keys Read is = absurd is
  checks_keys Memory is = tt

  -- a reference without a target, or none
  pub checks_references : {B : Type 0} (result : Result B Stop) → key_fault db.schema db.tables ≡ None
      → Answers {A = Unit {0}} (λ outcome. outcome ≡ checked (reference_fault db.schema db.tables)) (done_or result) → Answers (Checks db) (carried db result)
  unfolding Checks
  checks_references (Ok v) keys is = rw (keys, none_found (reference_fault db.schema db.tables) is) refl
  checks_references (Err (Refused fault)) keys is = rw keys (refused_by (reference_fault db.schema db.tables) (Refused fault) (Ok db) is)
  checks_references (Err Read) keys is = absurd is
  checks_references (Err Memory) keys is = tt

module _ (db : Database) (mapping : Mapping) where
  pub scans_fault : (fault : DataFault) → least_data_fault mapping db ≡ Some fault → Answers {A = Mapping} (Scans db mapping) (Err (data_stop fault))
  scans_fault fault is = ap (λ f. unless_data f (Ok mapping)) (sym is)

  pub scans_none : least_data_fault mapping db ≡ None → Answers {A = Mapping} (Scans db mapping) (Ok mapping)
  scans_none is = ap (λ f. unless_data f (Ok mapping)) (sym is)

  pub none_of : data_faults mapping db ≡ [] → least_data_fault mapping db ≡ None
  none_of is = rw is refl

-- where there is no least data error there is none
pub faultless_of : (db : Database) (mapping : Mapping) → least_data_fault mapping db ≡ None → data_faults mapping db ≡ []
faultless_of db mapping is = first_nothing (data_faults mapping db) is
