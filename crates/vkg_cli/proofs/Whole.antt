-- The work of a command is determined by the files.
use Rattle.std.proofs.Common.{◌∙◌, ℕ, Bool, true, false, List, ap, sym, Ok, Err, length, nat_lt, Some, None}
use Rattle.std.specs.Prelude.{Option, Result}
use Rattle.vkg_base.specs.Outside.{Files}
use Rattle.vkg_schema.specs.declared.table.Table.{Table}
use Rattle.vkg_schema.specs.Rows.{Database}
use Rattle.vkg_maps.specs.declared.mapping.Mapping.{Mapping as Maps}
use Rattle.vkg_turtle.specs.declared.triple.Triple.{Triple}
use Rattle.vkg_turtle.specs.declared.reading.TurtleFault.{TurtleFault}
use Rattle.vkg_cli.specs.declared.load.TheConstants.{LIMIT}
use Rattle.vkg_schema.specs.declared.reading.SchemaFault.{SchemaFault}
use Rattle.vkg_cli.specs.declared.stops.Fault.{Fault}
use Rattle.vkg_cli.specs.declared.stops.Fault.TheVariants.{Schema, Table as AtTable, Keyless, Mapping, Data, Query as AtQuery}
use Rattle.vkg_cli.specs.declared.stops.Stop.{Stop}
use Rattle.vkg_cli.specs.declared.stops.Stop.TheVariants.{Refused, Read, Memory}
use Rattle.vkg_tables.specs.Seen.{Seen, without_rows}
use Rattle.vkg_schema.proofs.One.{determined}
use Rattle.vkg_tables.specs.declared.load.TheConstants.{MOST_BYTES}
use Rattle.vkg_turtle.proofs.One.{determined as determined_triples}
use Rattle.vkg_sparql.specs.declared.fault.QueryFault.{QueryFault}
use Rattle.vkg_sparql.specs.declared.query.Query.{Query}
use Rattle.vkg_sparql.proofs.One.{determined as determined_query}
use Rattle.vkg_cli.specs.Stages.{IsDetermined, IsOneOutcome}
use Rattle.vkg_cli.specs.Words.{Command, dump, query, sql}
use Rattle.vkg_cli.specs.Work.{Checks, Dumps, GivesAnswer, LoadsDatabase, LoadsFaultless, LoadsMapping, LoadsQuery, LoadsSchema, LoadsText, MapsDirectly, Reads, ReadsQuery, ReadsSchema, ReadsTriples, SaysQuery, SaysTriples, UnlessLong, Works}
use Rattle.vkg_cli.proofs.Ran.{determined_loads, determined_settles, determined_then}
use Rattle.vkg_cli.proofs.Tables.{determined_tables, one_equal}

one_reading : (bytes : List ℕ) → IsOneOutcome (Reads bytes)
one_reading bytes (Ok v) (Ok w) first second = ap (λ (t : List Table). Ok t) (determined.one_value bytes v w first second)
one_reading bytes (Ok v) (Err (Refused (Schema check at))) first second = absurd (determined.not_both bytes v (record { check = check; at = at }) first second)
one_reading bytes (Ok v) (Err (Refused (AtTable check table row column))) first second = absurd second
one_reading bytes (Ok v) (Err (Refused (Keyless table))) first second = absurd second
one_reading bytes (Ok v) (Err (Refused (Mapping check at))) first second = absurd second
one_reading bytes (Ok v) (Err (Refused (Data check map row term))) first second = absurd second
one_reading bytes (Ok v) (Err (Refused (AtQuery check at))) first second = absurd second
one_reading bytes (Ok v) (Err Read) first second = absurd second
one_reading bytes (Ok v) (Err Memory) first second = absurd second
one_reading bytes (Err (Refused (Schema check at))) (Ok v) first second = absurd (determined.not_both bytes v (record { check = check; at = at }) second first)
one_reading bytes (Err (Refused (Schema check at))) (Err (Refused (Schema other place))) first second =
    let e = determined.one_fault bytes (record { check = check; at = at }) (record { check = other; at = place }) first second in
    ap (λ (f : SchemaFault). Err (Refused (Schema f.check f.at))) e
one_reading bytes (Err (Refused (Schema check at))) (Err (Refused (AtTable other table row column))) first second = absurd second
one_reading bytes (Err (Refused (Schema check at))) (Err (Refused (Keyless table))) first second = absurd second
one_reading bytes (Err (Refused (Schema check at))) (Err (Refused (Mapping other place))) first second = absurd second
one_reading bytes (Err (Refused (Schema check at))) (Err (Refused (Data other map row term))) first second = absurd second
one_reading bytes (Err (Refused (Schema check at))) (Err (Refused (AtQuery other place))) first second = absurd second
one_reading bytes (Err (Refused (Schema check at))) (Err Read) first second = absurd second
one_reading bytes (Err (Refused (Schema check at))) (Err Memory) first second = absurd second
one_reading bytes (Err (Refused (AtTable check table row column))) p first second = absurd first
one_reading bytes (Err (Refused (Keyless table))) p first second = absurd first
one_reading bytes (Err (Refused (Mapping check at))) p first second = absurd first
one_reading bytes (Err (Refused (Data check map row term))) p first second = absurd first
one_reading bytes (Err (Refused (AtQuery check at))) p first second = absurd first
one_reading bytes (Err Read) p first second = absurd first
one_reading bytes (Err Memory) p first second = absurd first

one_unless : {A : Type 0} (limit : Fault) (reads : Result A Stop → Type 0) (long : Bool) → IsOneOutcome reads → IsOneOutcome (UnlessLong limit reads long)
one_unless limit reads true one = one_equal _
one_unless limit reads false one = one

pub one_schema : (bytes : List ℕ) → IsOneOutcome (ReadsSchema bytes)
unfolding ReadsSchema
one_schema bytes = one_unless (Schema 14 MOST_BYTES) (Reads bytes) (nat_lt MOST_BYTES (length bytes)) (one_reading bytes)

one_saying : (bytes : List ℕ) → (base : List ℕ) → IsOneOutcome (SaysTriples bytes base)
one_saying bytes base (Ok v) (Ok w) first second = ap (λ (t : List Triple). Ok t) (determined_triples.one_value bytes base v w first second)
one_saying bytes base (Ok v) (Err (Refused (Schema check at))) first second = absurd second
one_saying bytes base (Ok v) (Err (Refused (AtTable check table row column))) first second = absurd second
one_saying bytes base (Ok v) (Err (Refused (Keyless table))) first second = absurd second
one_saying bytes base (Ok v) (Err (Refused (Mapping check at))) first second = absurd (determined_triples.not_both bytes base v (record { check = check; at = at }) first second)
one_saying bytes base (Ok v) (Err (Refused (Data check map row term))) first second = absurd second
one_saying bytes base (Ok v) (Err (Refused (AtQuery check at))) first second = absurd second
one_saying bytes base (Ok v) (Err Read) first second = absurd second
one_saying bytes base (Ok v) (Err Memory) first second = absurd second
one_saying bytes base (Err (Refused (Mapping check at))) (Ok v) first second = absurd (determined_triples.not_both bytes base v (record { check = check; at = at }) second first)
one_saying bytes base (Err (Refused (Mapping check at))) (Err (Refused (Schema other place))) first second = absurd second
one_saying bytes base (Err (Refused (Mapping check at))) (Err (Refused (AtTable other table row column))) first second = absurd second
one_saying bytes base (Err (Refused (Mapping check at))) (Err (Refused (Keyless table))) first second = absurd second
one_saying bytes base (Err (Refused (Mapping check at))) (Err (Refused (Mapping other place))) first second =
    let e = determined_triples.one_fault bytes base (record { check = check; at = at }) (record { check = other; at = place }) first second in
    ap (λ (f : TurtleFault). Err (Refused (Mapping f.check f.at))) e
one_saying bytes base (Err (Refused (Mapping check at))) (Err (Refused (Data other map row term))) first second = absurd second
one_saying bytes base (Err (Refused (Mapping check at))) (Err (Refused (AtQuery other place))) first second = absurd second
one_saying bytes base (Err (Refused (Mapping check at))) (Err Read) first second = absurd second
one_saying bytes base (Err (Refused (Mapping check at))) (Err Memory) first second = absurd second
one_saying bytes base (Err (Refused (Schema check at))) p first second = absurd first
one_saying bytes base (Err (Refused (AtTable check table row column))) p first second = absurd first
one_saying bytes base (Err (Refused (Keyless table))) p first second = absurd first
one_saying bytes base (Err (Refused (Data check map row term))) p first second = absurd first
one_saying bytes base (Err (Refused (AtQuery check at))) p first second = absurd first
one_saying bytes base (Err Read) p first second = absurd first
one_saying bytes base (Err Memory) p first second = absurd first

pub one_document : (bytes base : List ℕ) → IsOneOutcome (ReadsTriples bytes base)
unfolding ReadsTriples
one_document bytes base = one_unless (Mapping 22 MOST_BYTES) (SaysTriples bytes base) (nat_lt MOST_BYTES (length bytes)) (one_saying bytes base)

one_direct : (schema : List Table) (base : List ℕ) → IsOneOutcome (MapsDirectly schema base)
unfolding MapsDirectly
one_direct schema base o p first second = first ∙ sym second

one_asking : (bytes base : List ℕ) → IsOneOutcome (SaysQuery bytes base)
one_asking bytes base (Ok v) (Ok w) first second = ap (λ (q : Query). Ok q) (determined_query.one_value bytes base v w first second)
one_asking bytes base (Ok v) (Err (Refused (Schema check at))) first second = absurd second
one_asking bytes base (Ok v) (Err (Refused (AtTable check table row column))) first second = absurd second
one_asking bytes base (Ok v) (Err (Refused (Keyless table))) first second = absurd second
one_asking bytes base (Ok v) (Err (Refused (Mapping check at))) first second = absurd second
one_asking bytes base (Ok v) (Err (Refused (Data check map row term))) first second = absurd second
one_asking bytes base (Ok v) (Err (Refused (AtQuery check at))) first second = absurd (determined_query.not_both bytes base v (record { check = check; at = at }) first second)
one_asking bytes base (Ok v) (Err Read) first second = absurd second
one_asking bytes base (Ok v) (Err Memory) first second = absurd second
one_asking bytes base (Err (Refused (AtQuery check at))) (Ok v) first second = absurd (determined_query.not_both bytes base v (record { check = check; at = at }) second first)
one_asking bytes base (Err (Refused (AtQuery check at))) (Err (Refused (Schema other place))) first second = absurd second
one_asking bytes base (Err (Refused (AtQuery check at))) (Err (Refused (AtTable other table row column))) first second = absurd second
one_asking bytes base (Err (Refused (AtQuery check at))) (Err (Refused (Keyless table))) first second = absurd second
one_asking bytes base (Err (Refused (AtQuery check at))) (Err (Refused (Mapping other place))) first second = absurd second
one_asking bytes base (Err (Refused (AtQuery check at))) (Err (Refused (Data other map row term))) first second = absurd second
one_asking bytes base (Err (Refused (AtQuery check at))) (Err (Refused (AtQuery other place))) first second =
    let e = determined_query.one_fault bytes base (record { check = check; at = at }) (record { check = other; at = place }) first second in
    ap (λ (f : QueryFault). Err (Refused (AtQuery f.check f.at))) e
one_asking bytes base (Err (Refused (AtQuery check at))) (Err Read) first second = absurd second
one_asking bytes base (Err (Refused (AtQuery check at))) (Err Memory) first second = absurd second
one_asking bytes base (Err (Refused (Schema check at))) p first second = absurd first
one_asking bytes base (Err (Refused (AtTable check table row column))) p first second = absurd first
one_asking bytes base (Err (Refused (Keyless table))) p first second = absurd first
one_asking bytes base (Err (Refused (Mapping check at))) p first second = absurd first
one_asking bytes base (Err (Refused (Data check map row term))) p first second = absurd first
one_asking bytes base (Err Read) p first second = absurd first
one_asking bytes base (Err Memory) p first second = absurd first

pub one_query : (bytes base : List ℕ) → IsOneOutcome (ReadsQuery bytes base)
unfolding ReadsQuery
one_query bytes base = one_unless (AtQuery 9 MOST_BYTES) (SaysQuery bytes base) (nat_lt MOST_BYTES (length bytes)) (one_asking bytes base)

pub one_check : (db : Seen) → IsOneOutcome (Checks db)
unfolding Checks
one_check db o p first second = first ∙ sym second

pub one_dump : (db : Database) (mapping : Maps) → IsOneOutcome (Dumps db mapping)
unfolding Dumps
one_dump db mapping o p first second = first ∙ sym second

pub one_answer : (db : Seen) (mapping : Maps) (asked : Query) → IsOneOutcome (GivesAnswer db mapping asked)
unfolding GivesAnswer
one_answer db mapping asked o p first second = first ∙ sym second

pub determined_text : (files : Files) (name : List ℕ) (schema : List Table) (base : List ℕ) → IsDetermined (LoadsText files name schema base)
determined_text files name schema base =
    determined_then _ _ (determined_loads LIMIT files name) (λ bytes.
    determined_then _ _ (determined_settles _ (one_document bytes base)) (λ triples. determined_settles _ (one_equal _)))

pub determined_mapping : (files : Files) (file : Option (List ℕ)) (schema : List Table) (base : List ℕ) → IsDetermined (LoadsMapping files file schema base)
determined_mapping files None schema base = determined_settles _ (one_direct schema base)
determined_mapping files (Some name) schema base = determined_text files name schema base

pub determined_schema : (files : Files) (name : List ℕ) → IsDetermined (LoadsSchema files name)
determined_schema files name = determined_then _ _ (determined_loads LIMIT files name) (λ bytes. determined_settles _ (one_schema bytes))

pub determined_database : (files : Files) (name folder : List ℕ) → IsDetermined (LoadsDatabase files name folder)
determined_database files name folder =
    determined_then _ _ (determined_schema files name) (λ schema.
    determined_then _ _ (determined_tables files folder (without_rows schema) 0 schema) (λ db. determined_settles _ (one_check db)))

pub determined_faultless : (files : Files) (file : Option (List ℕ)) (db : Seen) (base : List ℕ) → IsDetermined (LoadsFaultless files file db base)
determined_faultless files file db base = determined_then _ _ (determined_mapping files file db.schema base) (λ mapping. determined_settles _ (one_equal _))

pub determined_asked : (files : Files) (name base : List ℕ) → IsDetermined (LoadsQuery files name base)
determined_asked files name base = determined_then _ _ (determined_loads LIMIT files name) (λ bytes. determined_settles _ (one_query bytes base))

pub determined_work : (command : Command) (files : Files) → IsDetermined (Works command files)
determined_work (dump words) files =
    determined_then _ _ (determined_database files words.schema words.folder) (λ db.
    determined_then _ _ (determined_faultless files words.mapping db words.base) (λ mapping. determined_settles _ (one_dump db.tables mapping)))
determined_work (query words) files =
    determined_then _ _ (determined_database files words.schema words.folder) (λ db.
    determined_then _ _ (determined_faultless files words.mapping db words.base) (λ mapping.
    determined_then _ _ (determined_asked files words.query words.base) (λ asked. determined_settles _ (one_answer db mapping asked))))
determined_work (sql words) files =
    determined_then _ _ (determined_schema files words.schema) (λ schema.
    determined_then _ _ (determined_mapping files words.mapping schema words.base) (λ mapping.
    determined_then _ _ (determined_asked files words.query words.base) (λ asked. determined_settles _ (one_equal _))))
