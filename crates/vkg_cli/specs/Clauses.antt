-- The clauses of the top call, one for each answer, over the worlds before and after it.
use Rattle.std.specs.Prelude.{◌≡◌, ◌⊎◌, ◌≤◌, ◌-◌, ◌^◌, ℕ, List, codes, min, Some}
use Rattle.vkg_base.specs.Outside.{Files, Rose, Took, Broke}
use Rattle.vkg_base.specs.Written.{written}
use Rattle.vkg_base.specs.declared.status.Status.{Status}
use Rattle.vkg_base.specs.declared.status.Status.TheVariants.{Done, Usage as BadWords, BadTable, BadData, BadQuery, ReadFault, WriteFault, Memory}
use Rattle.vkg_cli.specs.declared.stops.Fault.{Fault}
use Rattle.vkg_cli.specs.declared.stops.Usage.{Usage}
use Rattle.vkg_cli.specs.FaultLine.{status_of, usage_line}
use Rattle.vkg_cli.specs.Headline.{IsTextOf}
use Rattle.vkg_cli.specs.Stages.{AsksSome}
use Rattle.vkg_cli.specs.Words.{Asked, Command, dump, gen, help, refused, run, sql}
use Rattle.vkg_cli.specs.Work.{AsksFirst, Works}
use Rattle.vkg_cli.specs.Answer.{BreaksReport, HasFault, HasText, IsRefused, IsUnwritten, Tells, WhereTold, World, WritesReport, help_text}

-- A command is done: the output took the lines, each with its line feed; no fault was counted, and nothing was told.
pub record Writes (command : Command) (old new : World) : Type 0 where
  pub lines : List (List ℕ)
  pub text_of : WhereTold old (λ files. IsTextOf command files lines)
  pub taken : Took old.out new.out (written lines)
  pub store : new.store.faults ≡ old.store.faults
  pub err : new.err ≡ old.err

-- Done: the output took the whole text of what was asked for, nothing was told, and no count of faults rose.
abbrev pub IsDoneOnly : Asked → World → World → Status → Type 0
IsDoneOnly asked old new status = status ≡ Done →
    ((asked ≡ help) × Took old.out new.out help_text × (new.store ≡ old.store) × (new.err ≡ old.err))
    ⊎ ((command : Command) × (asked ≡ run command) × Writes command old new)
    ⊎ ((n : ℕ) × (asked ≡ gen n) × (new.store ≡ old.store) × WritesReport n old new)

-- Usage: exactly where the words are not taken, but for want of memory; they are told so.
abbrev pub IsUsageExactly : Asked → World → World → Status → Type 0
IsUsageExactly asked old new status =
    (status ≡ BadWords → (usage : Usage) × (asked ≡ refused usage) × Tells old.err new.err (usage_line usage))
    × ((usage : Usage) → asked ≡ refused usage → (status ≡ BadWords) ⊎ (status ≡ Memory))

-- A status of faults: exactly where the first fault has this status, but for a load that failed and want of memory; the
-- fault is told, with the number of a check of its table.
unfoldable pub IsRefusedExactly : Status → Asked → World → World → Status → Type 0
IsRefusedExactly bad asked old new status =
    (status ≡ bad → (command : Command) × (asked ≡ run command) × IsRefused command old new bad)
    × ((command : Command) → asked ≡ run command → (files : Files) → old.store.files ≡ Some files → (fault : Fault) → HasFault command files fault → status_of fault ≡ bad
    → (status ≡ bad) ⊎ ((status ≡ ReadFault) × Rose old.store.faults new.store.faults) ⊎ (status ≡ Memory))

-- ReadFault: only where a load failed, which the store counted; it is told.
abbrev pub IsReadFaultOnly : World → World → Status → Type 0
IsReadFaultOnly old new status = status ≡ ReadFault → Rose old.store.faults new.store.faults × Tells old.err new.err (codes "vkg: read fault\n")

-- WriteFault: only where a write failed, which the output counted; it took a prefix of the text, and that is told.
abbrev pub IsWriteFaultOnly : Asked → World → World → Status → Type 0
IsWriteFaultOnly asked old new status = status ≡ WriteFault →
    ((asked ≡ help) × Broke old.out new.out help_text × Tells old.err new.err (codes "vkg: write fault\n"))
    ⊎ ((command : Command) × (asked ≡ run command) × IsUnwritten command old new)
    ⊎ ((n : ℕ) × (asked ≡ gen n) × BreaksReport n old new)

-- `dump` reads no query, and `sql` no table: neither is told to be at fault. `gen` reads nothing that can be.
abbrev pub IsNoOther : Asked → Status → Type 0
IsNoOther (run (dump words)) status = ¬ (status ≡ BadQuery)
IsNoOther (run (sql words)) status = ¬ (status ≡ BadTable) × ¬ (status ≡ BadData)
IsNoOther (gen n) status = (status ≡ Done) ⊎ (status ≡ WriteFault) ⊎ (status ≡ Memory)
IsNoOther asked status = Unit {0}

-- Memory: it is told.
abbrev pub IsMemoryTold : World → World → Status → Type 0
IsMemoryTold old new status = status ≡ Memory → Tells old.err new.err (codes "vkg: want of memory\n")

-- The report on a company is written, but for counted faults of the output and want of memory.
abbrev pub IsReported : Asked → World → World → Status → Type 0
IsReported asked old new status = (n : ℕ) → asked ≡ gen n → ¬ (Rose old.out.faults new.out.faults) → ((status ≡ Done) × WritesReport n old new) ⊎ (status ≡ Memory)

-- Where no first fault stands, the whole text of the command is written, but for counted faults and want of memory.
unfoldable pub IsComplete : Asked → World → World → Status → Type 0
IsComplete asked old new status = (command : Command) → asked ≡ run command → (files : Files) → old.store.files ≡ Some files
    → ((fault : Fault) → ¬ (HasFault command files fault))
    → ¬ (Rose old.store.faults new.store.faults) → ¬ (Rose old.out.faults new.out.faults)
    → ((status ≡ Done) × Writes command old new) ⊎ (status ≡ Memory)

-- Where there is a text, this very one is written, but for counted faults and want of memory.
unfoldable pub IsNoOtherText : Asked → World → World → Status → Type 0
IsNoOtherText asked old new status = (command : Command) → asked ≡ run command → (files : Files) → old.store.files ≡ Some files
    → (lines : List (List ℕ)) → HasText command files lines
    → ¬ (Rose old.store.faults new.store.faults) → ¬ (Rose old.out.faults new.out.faults)
    → ((status ≡ Done) × Took old.out new.out (written lines)) ⊎ (status ≡ Memory)

-- A help request is never answered with want of memory.
abbrev pub HelpIsGiven : Asked → Status → Type 0
HelpIsGiven asked status = asked ≡ help → (status ≡ Done) ⊎ (status ≡ WriteFault)

-- But for Done and WriteFault the output is as it was.
abbrev pub IsUntouched : World → World → Status → Type 0
IsUntouched old new status = ¬ (status ≡ Done) → ¬ (status ≡ WriteFault) → new.out ≡ old.out

-- The names asked for are the first of those that the command loads, in its order; without one over files there are none.
abbrev pub AsksInOrder : Asked → World → World → Type 0
AsksInOrder help old new = new.store ≡ old.store
AsksInOrder (refused usage) old new = new.store ≡ old.store
AsksInOrder (gen n) old new = new.store ≡ old.store
AsksInOrder (run command) old new = WhereTold old (λ files. AsksSome (Works command files) old.store.asked new.store.asked)

-- Whatever the store tells, `sql` asks for the first names of the schema, the mapping and the query, each other command for the schema
-- first; without a command over files there are none.
unfoldable pub AsksByWords : Asked → World → World → Type 0
AsksByWords help old new = new.store.asked ≡ old.store.asked
AsksByWords (refused usage) old new = new.store.asked ≡ old.store.asked
AsksByWords (gen n) old new = new.store.asked ≡ old.store.asked
AsksByWords (run command) old new = AsksFirst command old.store.asked new.store.asked

-- The files of the store are as they were.
abbrev pub KeepsFiles : World → World → Type 0
KeepsFiles old new = new.store.files ≡ old.store.files

-- a count of faults did not fall, or stands at its last value
abbrev pub HasNotFallen : ℕ → ℕ → Type 0
HasNotFallen before now = min before (2 ^ 64 - 1) ≤ now

-- At Memory no count of faults fell: the store's, the output's and the error stream's.
abbrev pub HasNoneFallen : World → World → Status → Type 0
HasNoneFallen old new status = status ≡ Memory → (old.store.faults ≤ new.store.faults) × (old.out.faults ≤ new.out.faults) × HasNotFallen old.err.faults new.err.faults
