-- What the program does for a command, over known files.
use Rattle.std.specs.Prelude.{◌≡◌, ◌≤◌, ℕ, ◌+◌, Bool, true, false, List, ◌∷◌, [], ◌++◌, codes, length, nat_lt, Option, Some, None, Result, Ok, Err, option_map}
use Rattle.std.specs.Result.{result_map_both}
use Rattle.vkg_lists.specs.Results.{unless}
use Rattle.vkg_base.specs.Outside.{Files}
use Rattle.vkg_terms.specs.Safe.{safe}
use Rattle.vkg_schema.specs.declared.table.Table.{Table}
use Rattle.vkg_schema.specs.Rows.{Database}
use Rattle.vkg_cli.specs.declared.stops.Fault.{Fault}
use Rattle.vkg_cli.specs.declared.stops.Fault.TheVariants as fault
use Rattle.vkg_cli.specs.declared.stops.Stop.{Stop}
use Rattle.vkg_cli.specs.declared.stops.Stop.TheVariants as stop
use Rattle.vkg_cli.specs.declared.load.TheConstants.{LIMIT}
use Rattle.vkg_tables.specs.declared.fault.TableFault.{TableFault}
use Rattle.vkg_tables.specs.declared.load.TheConstants.{MOST_BYTES}
use Rattle.vkg_direct.specs.declared.direct_error.DirectError.{DirectError}
use Rattle.vkg_direct.specs.declared.direct_error.DirectError.TheVariants as direct_error
use Rattle.vkg_direct.specs.DirectMapping.{direct_result}
use Rattle.vkg_maps.specs.declared.mapping.Mapping.{Mapping}
use Rattle.vkg_maps.specs.declared.data_fault.DataFault.{DataFault}
use Rattle.vkg_maps.specs.DataFaults.{check_of, least_data_fault}
use Rattle.vkg_maps.specs.Dataset.{dataset}
use Rattle.vkg_tables.specs.Seen.{Seen, without_rows, loaded}
use Rattle.vkg_tables.specs.Checks.{key_fault, reference_fault}
use Rattle.vkg_schema.specs.Reading.{IsSchemaOf, IsFirstFault}
use Rattle.vkg_turtle.specs.declared.triple.Triple.{Triple}
use Rattle.vkg_turtle.specs.Reading.{IsDocumentOf, IsFirstFault as IsTurtleFault}
use Rattle.vkg_r2rml.specs.declared.map_error.MapFault.{MapFault}
use Rattle.vkg_r2rml.specs.Mapping.{mapping_of}
use Rattle.vkg_quads.specs.Dump.{dump as dump_of}
use Rattle.vkg_sparql.specs.declared.query.Query.{Query}
use Rattle.vkg_sparql.specs.Reading.{IsQuery, IsFirstFault as IsQueryFault}
use Rattle.vkg_sparql.specs.Seen.{query_seen}
use Rattle.vkg_algebra.specs.Answer.{answer}
use Rattle.vkg_cli.specs.QueryText.{query_text}
use Rattle.vkg_cli.specs.Stages.{AsksUpTo, Stage, Settles, Loads, Then, listed}
use Rattle.vkg_cli.specs.Words.{Command, dump, query, sql}

-- a file that is too long is past its limit, before any other fault of it
abbrev pub UnlessLong : {A : Type 0} → Fault → (Result A Stop → Type 0) → Bool → Result A Stop → Type 0
UnlessLong limit reads true outcome = outcome ≡ Err (stop.Refused limit)
UnlessLong limit reads false outcome = reads outcome

-- the bytes are a schema, or its first fault stands
abbrev pub Reads : List ℕ → Result (List Table) Stop → Type 0
Reads bytes (Ok tables) = IsSchemaOf bytes tables
Reads bytes (Err (stop.Refused (fault.Schema check at))) = IsFirstFault bytes (record { check = check; at = at })
Reads bytes (Err (stop.Refused (fault.Table check table row column))) = ⊥
Reads bytes (Err (stop.Refused (fault.Keyless table))) = ⊥
Reads bytes (Err (stop.Refused (fault.Mapping check at))) = ⊥
Reads bytes (Err (stop.Refused (fault.Data check map row term))) = ⊥
Reads bytes (Err (stop.Refused (fault.Query check at))) = ⊥
Reads bytes (Err stop.Read) = ⊥
Reads bytes (Err stop.Memory) = ⊥

-- own: a schema of 2147483648 bytes is past the limit (S14), before any other fault of it
unfoldable pub ReadsSchema : List ℕ → Result (List Table) Stop → Type 0
ReadsSchema bytes outcome = UnlessLong (fault.Schema 14 MOST_BYTES) (Reads bytes) (nat_lt MOST_BYTES (length bytes)) outcome

-- the file of a table: the folder, `/`, the IRI-safe form of the table's name, `.csv`
abbrev pub table_file : List ℕ → Table → List ℕ
table_file folder table = folder ++ codes "/" ++ safe table.name ++ codes ".csv"

abbrev pub table_stop : TableFault → Stop
table_stop f = stop.Refused (fault.Table f.check f.table f.row f.column)

abbrev pub loaded_or : Result Seen TableFault → Result Seen Stop
loaded_or r = result_map_both (λ (db : Seen). db) table_stop r

-- one table: the rows of its file in place of those that it has
abbrev pub LoadsTable : Files → List ℕ → Seen → ℕ → Table → Stage Seen
LoadsTable files folder db k table = Then (Loads LIMIT files (table_file folder table)) (λ bytes. Settles (λ outcome. outcome ≡ loaded_or (loaded db k bytes)))

-- the tables from a place on, one after another
abbrev pub LoadsTables : Files → List ℕ → Seen → ℕ → List Table → Stage Seen
LoadsTables files folder db k [] = Settles (λ outcome. outcome ≡ Ok db)
LoadsTables files folder db k (table ∷ tables) = Then (LoadsTable files folder db k table) (λ next. LoadsTables files folder next (k + 1) tables)

abbrev pub unless_fault : {A : Type 0} → Option TableFault → Result A Stop → Result A Stop
unless_fault found later = unless (option_map table_stop found) later

-- a check that gives no value
abbrev pub checked : Option TableFault → Result (Unit {0}) Stop
checked found = unless_fault {A = Unit {0}} found (Ok tt)

-- of a loaded database: the first repeated key, else the first reference without a target
abbrev pub checks : Seen → Result Seen Stop
checks db = unless_fault (key_fault db.schema db.tables) (unless_fault (reference_fault db.schema db.tables) (Ok db))

-- the database, where neither stands
unfoldable pub Checks : Seen → Result Seen Stop → Type 0
Checks db outcome = outcome ≡ checks db

abbrev pub direct_stop : DirectError → Stop
direct_stop (direct_error.NoPrimaryKey table) = stop.Refused (fault.Keyless table)
direct_stop direct_error.TooManyRules = stop.Refused (fault.Mapping 22 0)
direct_stop direct_error.Memory = stop.Memory

abbrev pub direct_or : Result Mapping DirectError → Result Mapping Stop
direct_or r = result_map_both (λ (mapping : Mapping). mapping) direct_stop r

-- the direct mapping of the schema, or why there is none
unfoldable pub MapsDirectly : List Table → List ℕ → Result Mapping Stop → Type 0
MapsDirectly schema base outcome = outcome ≡ direct_or (direct_result schema base)

-- the bytes are triples, or their first fault stands
abbrev pub SaysTriples : List ℕ → List ℕ → Result (List Triple) Stop → Type 0
SaysTriples bytes base (Ok triples) = IsDocumentOf bytes base triples
SaysTriples bytes base (Err (stop.Refused (fault.Schema check at))) = ⊥
SaysTriples bytes base (Err (stop.Refused (fault.Table check table row column))) = ⊥
SaysTriples bytes base (Err (stop.Refused (fault.Keyless table))) = ⊥
SaysTriples bytes base (Err (stop.Refused (fault.Mapping check at))) = IsTurtleFault bytes base (record { check = check; at = at })
SaysTriples bytes base (Err (stop.Refused (fault.Data check map row term))) = ⊥
SaysTriples bytes base (Err (stop.Refused (fault.Query check at))) = ⊥
SaysTriples bytes base (Err stop.Read) = ⊥
SaysTriples bytes base (Err stop.Memory) = ⊥

-- own: a mapping of 2147483648 bytes is past the limit (M22), before any other fault of it
unfoldable pub ReadsTriples : List ℕ → List ℕ → Result (List Triple) Stop → Type 0
ReadsTriples bytes base outcome = UnlessLong (fault.Mapping 22 MOST_BYTES) (SaysTriples bytes base) (nat_lt MOST_BYTES (length bytes)) outcome

abbrev pub mapping_stop : MapFault → Stop
mapping_stop f = stop.Refused (fault.Mapping f.check f.map)

abbrev pub mapping_or : Result Mapping MapFault → Result Mapping Stop
mapping_or r = result_map_both (λ (mapping : Mapping). mapping) mapping_stop r

-- the triples are a mapping of the schema, or their least fault stands
abbrev pub MapsTriples : List Triple → List Table → List ℕ → Result Mapping Stop → Type 0
MapsTriples triples schema base outcome = outcome ≡ mapping_or (mapping_of triples schema base)

-- the mapping of a file
abbrev pub LoadsText : Files → List ℕ → List Table → List ℕ → Stage Mapping
LoadsText files name schema base =
    Then (Loads LIMIT files name) (λ bytes. Then (Settles (ReadsTriples bytes base)) (λ triples. Settles (MapsTriples triples schema base)))

-- the mapping of the file where one is named, else the direct mapping
abbrev pub LoadsMapping : Files → Option (List ℕ) → List Table → List ℕ → Stage Mapping
LoadsMapping files None schema base = Settles (MapsDirectly schema base)
LoadsMapping files (Some name) schema base = LoadsText files name schema base

abbrev pub data_stop : DataFault → Stop
data_stop f = stop.Refused (fault.Data (check_of f.fault) f.map f.row f.term)

abbrev pub unless_data : {A : Type 0} → Option DataFault → Result A Stop → Result A Stop
unless_data found later = unless (option_map data_stop found) later

-- a mapping that makes each of its terms over the tables, or the least data error
abbrev pub Scans : Database → Mapping → Result Mapping Stop → Type 0
Scans db mapping outcome = outcome ≡ unless_data (least_data_fault mapping db) (Ok mapping)

-- the bytes are a query, or their first fault stands
abbrev pub SaysQuery : List ℕ → List ℕ → Result Query Stop → Type 0
SaysQuery bytes base (Ok asked) = IsQuery bytes base asked
SaysQuery bytes base (Err (stop.Refused (fault.Schema check at))) = ⊥
SaysQuery bytes base (Err (stop.Refused (fault.Table check table row column))) = ⊥
SaysQuery bytes base (Err (stop.Refused (fault.Keyless table))) = ⊥
SaysQuery bytes base (Err (stop.Refused (fault.Mapping check at))) = ⊥
SaysQuery bytes base (Err (stop.Refused (fault.Data check map row term))) = ⊥
SaysQuery bytes base (Err (stop.Refused (fault.Query check at))) = IsQueryFault bytes base (record { check = check; at = at })
SaysQuery bytes base (Err stop.Read) = ⊥
SaysQuery bytes base (Err stop.Memory) = ⊥

-- own: a query of 2147483648 bytes is past the limit (Q09), before any other fault of it
unfoldable pub ReadsQuery : List ℕ → List ℕ → Result Query Stop → Type 0
ReadsQuery bytes base outcome = UnlessLong (fault.Query 9 MOST_BYTES) (SaysQuery bytes base) (nat_lt MOST_BYTES (length bytes)) outcome

-- the query of a file
abbrev pub LoadsQuery : Files → List ℕ → List ℕ → Stage Query
LoadsQuery files name base = Then (Loads LIMIT files name) (λ bytes. Settles (ReadsQuery bytes base))

-- the schema of a file
abbrev pub LoadsSchema : Files → List ℕ → Stage (List Table)
LoadsSchema files name = Then (Loads LIMIT files name) (λ bytes. Settles (ReadsSchema bytes))

-- a database that meets its schema: the schema, then the tables in its order, then keys and references
abbrev pub LoadsDatabase : Files → List ℕ → List ℕ → Stage Seen
LoadsDatabase files name folder =
    Then (LoadsSchema files name) (λ schema. Then (LoadsTables files folder (without_rows schema) 0 schema) (λ db. Settles (Checks db)))

-- a mapping without a data error
abbrev pub LoadsFaultless : Files → Option (List ℕ) → Seen → List ℕ → Stage Mapping
LoadsFaultless files file db base = Then (LoadsMapping files file db.schema base) (λ mapping. Settles (Scans db.tables mapping))

-- the lines of the dataset
unfoldable pub Dumps : Database → Mapping → Result (List (List ℕ)) Stop → Type 0
Dumps db mapping outcome = outcome ≡ Ok (dump_of (dataset mapping db))

-- the answer to a query over the dataset
unfoldable pub GivesAnswer : Seen → Mapping → Query → Result (List (List ℕ)) Stop → Type 0
GivesAnswer db mapping asked outcome = outcome ≡ Ok (answer (query_seen asked) (dataset mapping db.tables))

-- the text of the query's plan, its order and its slice
abbrev pub GivesText : List Table → Mapping → Query → Result (List (List ℕ)) Stop → Type 0
GivesText schema mapping asked outcome = outcome ≡ Ok (query_text schema mapping (query_seen asked) ∷ [])

-- the work of a command
abbrev pub Works : Command → Files → Stage (List (List ℕ))
Works (dump words) files =
    Then (LoadsDatabase files words.schema words.folder) (λ db.
    Then (LoadsFaultless files words.mapping db words.base) (λ mapping. Settles (Dumps db.tables mapping)))
Works (query words) files =
    Then (LoadsDatabase files words.schema words.folder) (λ db.
    Then (LoadsFaultless files words.mapping db words.base) (λ mapping.
    Then (LoadsQuery files words.query words.base) (λ asked. Settles (GivesAnswer db mapping asked))))
Works (sql words) files =
    Then (LoadsSchema files words.schema) (λ schema.
    Then (LoadsMapping files words.mapping schema words.base) (λ mapping.
    Then (LoadsQuery files words.query words.base) (λ asked. Settles (GivesText schema mapping asked))))

-- faults of the tables' files, and of the terms made of their rows
abbrev pub is_of_tables : Stop → Bool
is_of_tables (stop.Refused (fault.Table check table row column)) = true
is_of_tables (stop.Refused (fault.Data check map row term)) = true
is_of_tables why = false

abbrev pub is_of_query : Stop → Bool
is_of_query (stop.Refused (fault.Query check at)) = true
is_of_query why = false

-- `dump` reads no query, and `sql` no table
abbrev pub MayStop : Command → Stop → Type 0
MayStop (dump words) why = is_of_query why ≡ false
MayStop (query words) why = Unit {0}
MayStop (sql words) why = is_of_tables why ≡ false

-- a number of one of the checks from the first to the last
abbrev pub IsCheck : ℕ → ℕ → ℕ → Type 0
IsCheck first last check = (first ≤ check) × (check ≤ last)

-- a number of one of the checks of a query: Q01 to Q12
abbrev pub IsQueryCheck : ℕ → Type 0
IsQueryCheck check = IsCheck 1 12 check

-- the number of a fault's check is one of its table: S01 to S15, T01 to T11, M01 to M22, X01 to X03, and those of a query
abbrev pub IsOfTable : Fault → Type 0
IsOfTable (fault.Schema check at) = IsCheck 1 15 check
IsOfTable (fault.Table check table row column) = IsCheck 1 11 check
IsOfTable (fault.Keyless table) = Unit {0}
IsOfTable (fault.Mapping check at) = IsCheck 1 22 check
IsOfTable (fault.Data check map row term) = IsCheck 1 3 check
IsOfTable (fault.Query check at) = IsQueryCheck check

-- why there is none: a fault of its table, a load that failed, or want of memory
abbrev pub IsNumbered : Stop → Type 0
IsNumbered (stop.Refused fault) = IsOfTable fault
IsNumbered stop.Read = Unit {0}
IsNumbered stop.Memory = Unit {0}

-- The names that a command asks for, whatever the store tells: `sql` for the first of the schema, the mapping and the query, each
-- other command for the schema first.
abbrev pub AsksFirst : Command → List (List ℕ) → List (List ℕ) → Type 0
AsksFirst (dump words) before now = (others : List (List ℕ)) × AsksUpTo (words.schema ∷ others) before now
AsksFirst (query words) before now = (others : List (List ℕ)) × AsksUpTo (words.schema ∷ others) before now
AsksFirst (sql words) before now = AsksUpTo (words.schema ∷ (listed words.mapping ++ words.query ∷ [])) before now
