-- How a call ends: the status with its cause, the bytes of the output and the line of the standard error.
use Rattle.std.specs.Prelude.{◌≡◌, ◌⊎◌, ◌≤◌, ℕ, List, [], ◌∷◌, codes, Result, Ok, Err}
use Rattle.vkg_base.specs.Outside.{Files, StoreState, SinkState, Rose, Took, Broke}
use Rattle.vkg_base.specs.Written.{written}
use Rattle.vkg_base.specs.declared.status.Status.{Status}
use Rattle.vkg_base.specs.declared.status.Status.TheVariants.{Done, Usage as BadWords, BadSchema, BadTable, BadMapping, BadData, BadQuery, ReadFault, WriteFault, Memory}
use Rattle.vkg_gen.specs.Report.{IsReport}
use Rattle.vkg_cli.specs.declared.stops.Fault.{Fault}
use Rattle.vkg_cli.specs.declared.stops.Usage.{Usage}
use Rattle.vkg_cli.specs.declared.stops.Stop.{Stop}
use Rattle.vkg_cli.specs.declared.stops.Stop.TheVariants as stop
use Rattle.vkg_cli.specs.FaultLine.{fault_line, status_of, usage_line}
use Rattle.vkg_cli.specs.Headline.{IsTextOf}
use Rattle.vkg_cli.specs.Stages.{AsksSome, Where}
use Rattle.vkg_cli.specs.Words.{Asked, Command, gen, help, refused, run}
use Rattle.vkg_cli.specs.Work.{AsksFirst, IsOfTable, MayStop, Works}

-- the store of files, the output and the standard error
pub record World : Type 0 where
  pub store : StoreState
  pub out : SinkState
  pub err : SinkState

-- a fact on the store's files, where it tells them
abbrev pub WhereTold : World → (Files → Type 0) → Type 0
WhereTold world fact = Where world.store.files fact

-- one line for the standard error: it took all of it, or its count rose and it took a prefix
abbrev pub Tells : SinkState → SinkState → List ℕ → Type 0
Tells old new line = Took old new line ⊎ Broke old new line

-- the command asks for these lines, over these files
abbrev pub HasText : Command → Files → List (List ℕ) → Type 0
HasText command files lines = (names : List (List ℕ)) × Works command files names (Ok lines)

-- this is the first fault, over these files
abbrev pub HasFault : Command → Files → Fault → Type 0
HasFault command files fault = (names : List (List ℕ)) × Works command files names (Err (stop.Refused fault))

-- all of the text was taken, no fault was counted, and nothing was told
pub record IsDone (command : Command) (old new : World) : Type 0 where
  pub lines : List (List ℕ)
  pub defined : WhereTold old (λ files. HasText command files lines)
  pub text_of : WhereTold old (λ files. IsTextOf command files lines)
  pub taken : Took old.out new.out (written lines)
  pub store : new.store.faults ≡ old.store.faults
  pub err : new.err ≡ old.err

-- the first fault stands, by a check of its table, and is told
pub record IsRefused (command : Command) (old new : World) (status : Status) : Type 0 where
  pub fault : Fault
  pub status_is : status ≡ status_of fault
  pub of_table : IsOfTable fault
  pub may : MayStop command (stop.Refused fault)
  pub defined : WhereTold old (λ files. HasFault command files fault)
  pub out : new.out ≡ old.out
  pub store : new.store.faults ≡ old.store.faults
  pub told : Tells old.err new.err (fault_line fault)

-- a load failed
pub record IsUnread (old new : World) : Type 0 where
  pub rose : Rose old.store.faults new.store.faults
  pub out : new.out ≡ old.out
  pub told : Tells old.err new.err (codes "vkg: read fault\n")

-- a write failed, after a prefix of the text
pub record IsUnwritten (command : Command) (old new : World) : Type 0 where
  pub lines : List (List ℕ)
  pub defined : WhereTold old (λ files. HasText command files lines)
  pub text_of : WhereTold old (λ files. IsTextOf command files lines)
  pub taken : Broke old.out new.out (written lines)
  pub store : new.store.faults ≡ old.store.faults
  pub told : Tells old.err new.err (codes "vkg: write fault\n")

-- an allocation was refused
pub record IsShort (old new : World) : Type 0 where
  pub out : new.out ≡ old.out
  pub store : old.store.faults ≤ new.store.faults
  pub told : Tells old.err new.err (codes "vkg: want of memory\n")

-- why a command may end with a status, and what it leaves
abbrev pub Ends : Command → World → World → Status → Type 0
Ends command old new Done = IsDone command old new
Ends command old new BadWords = ⊥
Ends command old new BadSchema = IsRefused command old new BadSchema
Ends command old new BadTable = IsRefused command old new BadTable
Ends command old new BadMapping = IsRefused command old new BadMapping
Ends command old new BadData = IsRefused command old new BadData
Ends command old new BadQuery = IsRefused command old new BadQuery
Ends command old new ReadFault = IsUnread old new
Ends command old new WriteFault = IsUnwritten command old new
Ends command old new Memory = IsShort old new

-- the words ask for a command
pub record IsCommandAnswer (command : Command) (old new : World) (status : Status) : Type 0 where
  pub files : new.store.files ≡ old.store.files
  pub first : AsksFirst command old.store.asked new.store.asked
  pub asked : WhereTold old (λ files. AsksSome (Works command files) old.store.asked new.store.asked)
  pub ends : Ends command old new status

-- a line for each command, with its options
abbrev pub help_lines : List (List ℕ)
help_lines =
    codes "vkg dump --schema F --data DIR --base IRI [--mapping F]"
    ∷ codes "vkg query --schema F --data DIR --base IRI --query F [--mapping F]"
    ∷ codes "vkg sql --schema F --base IRI --query F [--mapping F]"
    ∷ codes "vkg gen N"
    ∷ []

abbrev pub help_text : List ℕ
help_text = written help_lines

-- help is written, or a write failed
abbrev pub WritesHelp : SinkState → SinkState → SinkState → SinkState → Status → Type 0
WritesHelp out out' err err' status =
    ((status ≡ Done) × Took out out' help_text × (err' ≡ err)) ⊎ ((status ≡ WriteFault) × Broke out out' help_text × Tells err err' (codes "vkg: write fault\n"))

-- the words ask for help
abbrev pub Helps : World → World → Status → Type 0
Helps old new status = (new.store ≡ old.store) × WritesHelp old.out new.out old.err new.err status

-- the words are not taken
pub record IsUsage (usage : Usage) (old new : World) : Type 0 where
  pub out : new.out ≡ old.out
  pub told : Tells old.err new.err (usage_line usage)

abbrev pub Rejects : Usage → World → World → Status → Type 0
Rejects usage old new status = (new.store ≡ old.store) × (((status ≡ BadWords) × IsUsage usage old new) ⊎ ((status ≡ Memory) × IsShort old new))

-- all of the report on a company was taken, and nothing was told
pub record WritesReport (n : ℕ) (old new : World) : Type 0 where
  pub lines : List (List ℕ)
  pub report : IsReport n lines
  pub taken : Took old.out new.out (written lines)
  pub err : new.err ≡ old.err

-- a write failed, after a prefix of the report
pub record BreaksReport (n : ℕ) (old new : World) : Type 0 where
  pub lines : List (List ℕ)
  pub report : IsReport n lines
  pub taken : Broke old.out new.out (written lines)
  pub told : Tells old.err new.err (codes "vkg: write fault\n")

-- the words ask for the report on a company: no file is asked for
abbrev pub Reports : ℕ → World → World → Status → Type 0
Reports n old new status =
    (new.store ≡ old.store)
    × (((status ≡ Done) × WritesReport n old new) ⊎ ((status ≡ WriteFault) × BreaksReport n old new) ⊎ ((status ≡ Memory) × IsShort old new))

-- the whole answer
abbrev pub IsAnswer : Asked → World → World → Status → Type 0
IsAnswer help old new status = Helps old new status
IsAnswer (refused usage) old new status = Rejects usage old new status
IsAnswer (run command) old new status = IsCommandAnswer command old new status
IsAnswer (gen n) old new status = Reports n old new status

-- why there is no text is told
abbrev pub TellsStop : Stop → SinkState → SinkState → Status → Type 0
TellsStop (stop.Refused fault) err err' status = (status ≡ status_of fault) × Tells err err' (fault_line fault)
TellsStop stop.Read err err' status = (status ≡ ReadFault) × Tells err err' (codes "vkg: read fault\n")
TellsStop stop.Memory err err' status = (status ≡ Memory) × Tells err err' (codes "vkg: want of memory\n")

-- what becomes of made lines, or of the reason why there are none
abbrev pub Delivers : Result (List (List ℕ)) Stop → SinkState → SinkState → SinkState → SinkState → Status → Type 0
Delivers (Ok lines) out out' err err' status =
    ((status ≡ Done) × Took out out' (written lines) × (err' ≡ err)) ⊎ ((status ≡ WriteFault) × Broke out out' (written lines) × Tells err err' (codes "vkg: write fault\n"))
Delivers (Err why) out out' err err' status = (out' ≡ out) × TellsStop why err err' status
