-- What the words of the command line ask for.
use Rattle.std.specs.Prelude.{◌≡◌, ◌≢◌, ◌⊎◌, ◌<◌, ◌≤◌, ℕ, Bool, true, false, List, [], ◌∷◌, Option, Some, None, if◌then◌else◌, codes, option_and_then, option_map}
use Rattle.std.specs.Str.{bytes_eq}
use Rattle.clap.specs.Words.{Kinds, Row, Text, fault_of, first_of, subcommand_of}
use Rattle.vkg_terms.specs.Iri.{is_absolute}
use Rattle.vkg_company.specs.Count.{count_in}
use Rattle.vkg_cli.specs.CommandLine.{vkg_app}
use Rattle.vkg_cli.specs.declared.stops.Usage.{Usage}
use Rattle.vkg_cli.specs.declared.stops.Usage.TheVariants.{Words, Base}
use Rattle.vkg_cli.specs.declared.words.Command.{Command as CommandValue}
use Rattle.vkg_cli.specs.declared.words.Command.TheVariants as value
use Rattle.vkg_cli.specs.declared.words.Request.{Request}
use Rattle.vkg_cli.specs.declared.words.Request.TheVariants as request

-- the values of the options of `dump`
pub record DumpWords : Type 0 where
  pub schema : Text
  pub folder : Text
  pub base : Text
  pub mapping : Option Text

-- the values of the options of `query`
pub record QueryWords : Type 0 where
  pub schema : Text
  pub folder : Text
  pub base : Text
  pub query : Text
  pub mapping : Option Text

-- the values of the options of `sql`
pub record SqlWords : Type 0 where
  pub schema : Text
  pub base : Text
  pub query : Text
  pub mapping : Option Text

pub data Command : Type 0 where
  dump : DumpWords → Command
  query : QueryWords → Command
  sql : SqlWords → Command

-- what words ask for
pub data Asked : Type 0 where
  help : Asked
  refused : Usage → Asked
  run : Command → Asked
  gen : ℕ → Asked

-- the value of an option
abbrev pub with_value : {A : Type 0} → Text → List Row → (Text → Option A) → Option A
with_value name rows more = option_and_then more (first_of name rows)

abbrev pub dump_words : List Row → Option Command
dump_words rows =
    with_value (codes "schema") rows (λ schema. with_value (codes "data") rows (λ folder. with_value (codes "base") rows (λ base.
    Some (dump (record { schema = schema; folder = folder; base = base; mapping = first_of (codes "mapping") rows })))))

abbrev pub query_words : List Row → Option Command
query_words rows =
    with_value (codes "schema") rows (λ schema. with_value (codes "data") rows (λ folder. with_value (codes "base") rows (λ base. with_value (codes "query") rows (λ file.
    Some (query (record { schema = schema; folder = folder; base = base; query = file; mapping = first_of (codes "mapping") rows }))))))

abbrev pub sql_words : List Row → Option Command
sql_words rows =
    with_value (codes "schema") rows (λ schema. with_value (codes "base") rows (λ base. with_value (codes "query") rows (λ file.
    Some (sql (record { schema = schema; base = base; query = file; mapping = first_of (codes "mapping") rows })))))

abbrev pub base_of : Command → Text
base_of (dump words) = words.base
base_of (query words) = words.base
base_of (sql words) = words.base

-- the base of a command has to be an absolute IRI
abbrev pub with_base : Command → Asked
with_base command = if is_absolute (base_of command) then run command else refused Base

-- the number of employees, one of 1 to 100000
abbrev pub gen_words : List Row → Option Asked
gen_words rows = with_value (codes "N") rows (λ word. option_map gen (count_in word))

-- what a command asks for, by its name and its matches
abbrev pub named_words : Text → List Row → Option Asked
named_words name rows =
    if bytes_eq name (codes "dump") then option_map with_base (dump_words rows)
    else if bytes_eq name (codes "query") then option_map with_base (query_words rows)
    else if bytes_eq name (codes "sql") then option_map with_base (sql_words rows)
    else if bytes_eq name (codes "gen") then gen_words rows
    else None

abbrev pub command_unless : Kinds → List Text → Option Asked
command_unless [] words = option_and_then (λ p. named_words p.0 p.1) (subcommand_of vkg_app words)
command_unless (k ∷ ks) words = None

-- what is asked for, where the command line's definition finds no fault in the words
unfoldable pub taken_command : List Text → Option Asked
taken_command words = command_unless (fault_of vkg_app words) words

-- the command is `gen`, and its word is no number of employees
pub record HasNoCount (found : Option (Text × List Row)) : Type 0 where
  pub rows : List Row
  pub named : found ≡ Some (codes "gen", rows)
  pub word : Text
  pub given : first_of (codes "N") rows ≡ Some word
  pub none : count_in word ≡ None

-- why words are not taken: the command line's definition finds a fault in them, or the word of `gen` is no number
abbrev pub AreNotTaken : List Text → Type 0
AreNotTaken words = (fault_of vkg_app words ≢ []) ⊎ HasNoCount (subcommand_of vkg_app words)

-- what is asked for, and words that are not taken are refused
abbrev pub asked_or : Option Asked → Asked
asked_or None = refused Words
asked_or (Some asked) = asked

-- a help request: two words, the second of them `--help`
abbrev pub is_help : List Text → Bool
is_help (program ∷ word ∷ []) = bytes_eq word (codes "--help")
is_help words = false

-- what the words ask for; the first is the program's name
abbrev pub asked_of : List Text → Asked
asked_of words = if is_help words then help else asked_or (taken_command words)

-- a command as the program has it
abbrev pub command_seen : CommandValue → Command
command_seen (value.Dump options) = dump (record {
  schema = options.schema.now;
  folder = options.data.now;
  base = options.base.now;
  mapping = option_map (λ s. s.now) options.mapping;
})
command_seen (value.Query options) = query (record {
  schema = options.schema.now;
  folder = options.data.now;
  base = options.base.now;
  query = options.query.now;
  mapping = option_map (λ s. s.now) options.mapping;
})
command_seen (value.Sql options) = sql (record {
  schema = options.schema.now;
  base = options.base.now;
  query = options.query.now;
  mapping = option_map (λ s. s.now) options.mapping;
})

abbrev pub request_seen : Request → Asked
request_seen request.Help = help
request_seen (request.Refused usage) = refused usage
request_seen (request.Run command) = run (command_seen command)
request_seen (request.Gen n) = gen n

-- the base of a command is an absolute IRI, and a number of employees is one of 1 to 100000
abbrev pub IsFit : Request → Type 0
IsFit (request.Run command) = is_absolute (base_of (command_seen command)) ≡ true
IsFit (request.Gen n) = (0 < n) × (n ≤ 100000)
IsFit request.Help = Unit {0}
IsFit (request.Refused usage) = Unit {0}
