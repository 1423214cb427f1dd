-- The answer of a command, by its work and what became of it.
use Rattle.std.proofs.Common.{◌≡◌, inl, inr, ℕ, List, [], ◌∷◌, ◌++◌, length, take, refl, sym, ◌∙◌, ap, arith, subst, Ok, Err, Some}
use Rattle.std.proofs.Math.Seq.{take-length}
use Rattle.std.proofs.lemmas.List.{append-nil}
use Rattle.std.specs.Prelude.{Result, Bool, true, false, codes, IfErr, IfOk, Option, None, if◌then◌else◌, IsTrue, IsOk, option_and_then, option_map}
use Rattle.std.specs.Str.{bytes_eq}
use Rattle.std.proofs.lemmas.Option.{same_Some}
use Rattle.vkg_company.specs.Count.{count_in}
use Rattle.vkg_gen.specs.Report.{IsReport}
use Rattle.vkg_base.specs.Outside.{SinkState, StoreState}
use Rattle.vkg_base.specs.declared.status.Status.{Status}
use Rattle.vkg_base.specs.declared.status.Status.TheVariants.{ReadFault, Memory}
use Rattle.vkg_cli.specs.declared.stops.Fault.{Fault}
use Rattle.vkg_cli.specs.declared.stops.Fault.TheVariants.{Schema, Table, Keyless, Mapping, Data, Query}
use Rattle.vkg_cli.specs.declared.stops.Stop.{Stop}
use Rattle.vkg_cli.specs.declared.stops.Stop.TheVariants as stop
use Rattle.vkg_cli.specs.FaultLine.{status_of}
use Rattle.vkg_cli.specs.declared.stops.Usage.TheVariants.{Base}
use Rattle.vkg_terms.specs.Iri.{is_absolute}
use Rattle.clap.specs.Words.{Kinds, Row, Text, fault_of, first_of, subcommand_of}
use Rattle.vkg_cli.specs.CommandLine.{vkg_app}
use Rattle.vkg_cli.specs.Words.{Asked, Command, asked_of, asked_or, base_of, command_unless, dump_words, gen, gen_words, help, is_help, named_words, query_words, refused, run, sql_words, taken_command, with_base}
use Rattle.vkg_cli.specs.Headline.{IsTextOf}
use Rattle.vkg_cli.specs.Work.{AsksFirst, IsNumbered, MayStop, Works}
use Rattle.vkg_cli.specs.Stages.{Stage, Asks, AsksSome, IsDetermined, Matches, Ran, Where}
use Rattle.vkg_cli.specs.Answer.{World, IsAnswer, IsCommandAnswer, IsRefused, Ends, Delivers, Reports, Tells, TellsStop}
use Rattle.vkg_cli.proofs.Names.{first_none}
use Rattle.vkg_cli.proofs.Whole.{determined_work}

whole : {A : Type 0} (stage : Stage A) (before now : List (List ℕ)) (made : Result A Stop) → IsDetermined stage → Asks stage before now made → AsksSome stage before now
whole stage before now made one (names, done, all) = λ others outcome other.
    let same = one.one_list names others made outcome done other in
    (length names, all ∙ ap (λ (l : List (List ℕ)). before ++ l) (sym (take-length names) ∙ ap (take (length names)) same))

some_names : {A : Type 0} (stage : Stage A) (before now : List (List ℕ)) (made : Result A Stop) → IsDetermined stage → Matches stage before now made → AsksSome stage before now
some_names stage before now (Ok lines) one is = whole stage before now (Ok lines) one is
some_names stage before now (Err (stop.Refused fault)) one is = whole stage before now (Err (stop.Refused fault)) one is
some_names stage before now (Err stop.Read) one some = some
some_names stage before now (Err stop.Memory) one some = some

module _ (command : Command) (old new : World) where
  refusal : (fault : Fault) → IsRefused command old new (status_of fault) → Ends command old new (status_of fault)
  refusal (Schema check at) is = is
  refusal (Table check table row column) is = is
  refusal (Keyless table) is = is
  refusal (Mapping check at) is = is
  refusal (Data check map row term) is = is
  refusal (Query check at) is = is

  ended : (made : Result (List (List ℕ)) Stop) (status : Status) → IfErr made (MayStop command) → IfErr made IsNumbered
      → IfOk made (λ lines. Where old.store.files (λ files. IsTextOf command files lines))
      → Ran (Works command) old.store new.store made → Delivers made old.out new.out old.err new.err status → Ends command old new status
  ended (Ok lines) status may numbered text ran (inl (is, took, quiet)) =
      subst (Ends command old new) (sym is)
      (record { lines = lines; defined = λ files known. let all = ran.over files known in (all.0, all.1); text_of = text; taken = took; store = ran.counts; err = quiet })
  ended (Ok lines) status may numbered text ran (inr (is, broke, told)) =
      subst (Ends command old new) (sym is)
      (record { lines = lines; defined = λ files known. let all = ran.over files known in (all.0, all.1); text_of = text; taken = broke; store = ran.counts; told = told })
  ended (Err (stop.Refused fault)) status may numbered text ran (same, (is, told)) =
      subst (Ends command old new) (sym is)
      (refusal fault
      (record { fault = fault; status_is = refl; of_table = numbered; may = may; defined = λ files known. let all = ran.over files known in (all.0, all.1); out = same; store = ran.counts; told = told }))
  ended (Err stop.Read) status may numbered text ran (same, (is, told)) = subst (Ends command old new) (sym is) (record { rose = ran.counts; out = same; told = told })
  ended (Err stop.Memory) status may numbered text ran (same, (is, told)) = subst (Ends command old new) (sym is) (record { out = same; store = ran.counts; told = told })

  answers : (made : Result (List (List ℕ)) Stop) (status : Status) → IfErr made (MayStop command) → IfErr made IsNumbered
      → IfOk made (λ lines. Where old.store.files (λ files. IsTextOf command files lines)) → AsksFirst command old.store.asked new.store.asked
      → Ran (Works command) old.store new.store made → Delivers made old.out new.out old.err new.err status → IsCommandAnswer command old new status
  answers made status may numbered text first ran delivers = record {
    files = ran.files;
    first = first;
    asked = λ files told. some_names (Works command files) old.store.asked new.store.asked made (determined_work command files) (ran.over files told);
    ends = ended made status may numbered text ran delivers;
  }

pub answers_to : (asked : Asked) (command : Command) (old new : World) (made : Result (List (List ℕ)) Stop) (status : Status)
    → run command ≡ asked → IfErr made (MayStop command) → IfErr made IsNumbered → IfOk made (λ lines. Where old.store.files (λ files. IsTextOf command files lines))
    → AsksFirst command old.store.asked new.store.asked → Ran (Works command) old.store new.store made → Delivers made old.out new.out old.err new.err status → IsAnswer asked old new status
answers_to asked command old new made status is may numbered text first ran delivers =
    subst (λ a. IsAnswer a old new status) is (answers command old new made status may numbered text first ran delivers)

-- why there is no text was told, and nothing was written
pub stopped : (made : Result (List (List ℕ)) Stop) (why : Stop) (out err after : SinkState) (status : Status) → made ≡ Err why → TellsStop why err after status → Delivers made out out err after status
stopped made why out err after status is told = subst (λ m. Delivers m out out err after status) (sym is) (refl, told)

pub read_stop : (why : Stop) (err after : SinkState) → why ≡ stop.Read → Tells err after (codes "vkg: read fault\n") → TellsStop why err after ReadFault
read_stop why err after is told = subst (λ w. TellsStop w err after ReadFault) (sym is) (refl, told)

pub memory_stop : (why : Stop) (err after : SinkState) → why ≡ stop.Memory → Tells err after (codes "vkg: want of memory\n") → TellsStop why err after Memory
memory_stop why err after is told = subst (λ w. TellsStop w err after Memory) (sym is) (refl, told)

no_help_of : (command : Command) → with_base command ≡ help → ⊥
no_help_of command e = by (is_absolute (base_of command)) e
  where
    by : (b : Bool) → (if b then run command else refused Base) ≡ help → ⊥
    by true f = cc f
    by false f = cc f

based : (command : Option Command) → option_map with_base command ≡ Some help → ⊥
based None e = cc e
based (Some command) e = no_help_of command (same_Some _ _ e)

counted : (word : Option Text) → option_and_then (λ w. option_map gen (count_in w)) word ≡ Some help → ⊥
counted None e = cc e
counted (Some word) e = by (count_in word) e
  where
    by : (n : Option ℕ) → option_map gen n ≡ Some help → ⊥
    by None f = cc f
    by (Some n) f = cc f

named : (name : Text) (rows : List Row) → named_words name rows ≡ Some help → ⊥
named name rows e = by (bytes_eq name (codes "dump")) (bytes_eq name (codes "query")) (bytes_eq name (codes "sql")) (bytes_eq name (codes "gen")) e
  where
    by : (dumps asks writes reports : Bool)
        → (if dumps then option_map with_base (dump_words rows) else if asks then option_map with_base (query_words rows)
        else if writes then option_map with_base (sql_words rows) else if reports then gen_words rows else None) ≡ Some help → ⊥
    by true asks writes reports f = based (dump_words rows) f
    by false true writes reports f = based (query_words rows) f
    by false false true reports f = based (sql_words rows) f
    by false false false true f = counted (first_of (codes "N") rows) f
    by false false false false f = cc f

no_help_taken : (words : List Text) (kinds : Kinds) → command_unless kinds words ≡ Some help → ⊥
no_help_taken words (k ∷ ks) e = cc e
no_help_taken words [] e = by (subcommand_of vkg_app words) e
  where
    by : (found : Option (Text × List Row)) → option_and_then (λ p. named_words p.0 p.1) found ≡ Some help → ⊥
    by None f = cc f
    by (Some p) f = named p.0 p.1 f

no_help : (words : List Text) → asked_or (taken_command words) ≡ help → ⊥
unfolding taken_command
no_help words e = by (taken_command words) (no_help_taken words (fault_of vkg_app words)) e
  where
    by : (asked : Option Asked) → (asked ≡ Some help → ⊥) → asked_or asked ≡ help → ⊥
    by None never f = cc f
    by (Some a) never f = never (ap Some f)

-- what errs was not asked for help, where help never errs
pub no_help_asked : {A B : Type 0} (asks : Bool) (result : Result A B) (e : B) → (IsTrue asks → IsOk result) → result ≡ Err e → asks ≡ false
no_help_asked false result e never is = refl
no_help_asked true (Ok v) e never is = cc is
no_help_asked true (Err x) e never is = let ok = never refl in cc ok

-- memory was short before the words were read: they ask for no help, which takes none
pub short_words : (words : List Text) (store : StoreState) (out err after : SinkState) → is_help words ≡ false → Tells err after (codes "vkg: want of memory\n")
    → IsAnswer (asked_of words) (record { store = store; out = out; err = err }) (record { store = store; out = out; err = after }) Memory
short_words words store out err after asks told =
    subst (λ b. IsAnswer (if b then help else asked_or (taken_command words)) (record { store = store; out = out; err = err }) (record { store = store; out = out; err = after }) Memory) (sym asks)
    (by (asked_or (taken_command words)) (no_help words))
  where
    by : (asked : Asked) → (asked ≡ help → ⊥) → IsAnswer asked (record { store = store; out = out; err = err }) (record { store = store; out = out; err = after }) Memory
    by help never = absurd (never refl)
    by (refused usage) never = (refl, inr (refl, record { out = refl; store = omega arith; told = told }))
    by (run command) never = record {
      files = refl;
      first = first_none command store.asked;
      asked = λ files known names outcome other. (0, sym (append-nil _));
      ends = record { out = refl; store = omega arith; told = told };
    }
    by (gen n) never = (refl, inr (inr (refl, record { out = refl; store = omega arith; told = told })))

-- the report on a company, by what became of its lines
pub reports : (n : ℕ) (made : Result (List (List ℕ)) Stop) (store : StoreState) (out out' err err' : SinkState) (status : Status)
    → IfOk made (IsReport n) → IfErr made (λ why. why ≡ stop.Memory) → Delivers made out out' err err' status
    → Reports n (record { store = store; out = out; err = err }) (record { store = store; out = out'; err = err' }) status
reports n (Ok lines) store out out' err err' status is may (inl (done, took, quiet)) = (refl, inl (done, record { lines = lines; report = is; taken = took; err = quiet }))
reports n (Ok lines) store out out' err err' status is may (inr (ended, broke, told)) = (refl, inr (inl (ended, record { lines = lines; report = is; taken = broke; told = told })))
reports n (Err (stop.Refused fault)) store out out' err err' status is may ends = cc may
reports n (Err stop.Read) store out out' err err' status is may ends = cc may
reports n (Err stop.Memory) store out out' err err' status is may (same, (short, told)) = (refl, inr (inr (short, record { out = same; store = omega arith; told = told })))

pub reports_to : (asked : Asked) (n : ℕ) (old new : World) (status : Status) → gen n ≡ asked → Reports n old new status → IsAnswer asked old new status
reports_to asked n old new status is reports = subst (λ a. IsAnswer a old new status) is reports
