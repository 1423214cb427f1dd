-- The lines of a command are those that its files define.
use Rattle.std.proofs.Common.{◌≡◌, ◌∙◌, ℕ, ◌+◌, ◌≤◌, Bool, true, false, List, [], ◌∷◌, ◌++◌, length, nat_lt, take, map, refl, sym, ap, ap₂, subst, arith, append_assoc, length-append, Ok, Err, Some, if◌then◌else◌}
use Rattle.std.proofs.lemmas.List.{length-map, length-take, take_all}
use Rattle.std.proofs.lemmas.Bool.{ltb-false}
use Rattle.std.proofs.Math.Seq.{set-append_seam}
use Rattle.std.specs.List.{AllZip, slice_get, slice_set}
use Rattle.std.specs.Prelude.{IfOk, Option, None, Result, option_map}
use Rattle.std.specs.Result.{result_map_both}
use Rattle.vkg_lists.specs.Results.{unless}
use Rattle.vkg_lists.proofs.Heads.{at_seam}
use Rattle.vkg_lists.proofs.Results.{ok_same, ok_err, unless_given}
use Rattle.vkg_lists.proofs.Onto.{map_lacking}
use Rattle.vkg_base.specs.Outside.{Files, StoreState, held}
use Rattle.vkg_schema.specs.declared.table.Table.{Table}
use Rattle.vkg_schema.specs.declared.table.Column.{Column}
use Rattle.vkg_schema.specs.Rows.{Row}
use Rattle.vkg_schema.specs.Meets.{MeetsSchema}
use Rattle.vkg_maps.specs.declared.mapping.Mapping.{Mapping}
use Rattle.vkg_maps.specs.declared.data_fault.DataFault.{DataFault}
use Rattle.vkg_maps.specs.DataFaults.{data_faults, least_data_fault}
use Rattle.vkg_maps.specs.Dataset.{dataset}
use Rattle.vkg_direct.specs.DirectMapping.{direct_result}
use Rattle.vkg_direct.specs.Laws.{GivesDirectGraph}
use Rattle.vkg_quads.specs.Dump.{IsDump as IsLinesOf}
use Rattle.vkg_plan.specs.Rows.{rows_of}
use Rattle.vkg_rewrite.specs.Lines.{result_lines}
use Rattle.vkg_rewrite.specs.Rewritten.{rewritten}
use Rattle.vkg_sparql.specs.declared.query.Query.{Query}
use Rattle.vkg_sparql.specs.Reading.{IsQuery}
use Rattle.vkg_sparql.specs.Seen.{query_seen}
use Rattle.vkg_turtle.specs.declared.triple.Triple.{Triple}
use Rattle.vkg_turtle.specs.Reading.{IsDocumentOf}
use Rattle.vkg_r2rml.specs.Mapping.{mapping_of}
use Rattle.vkg_cli.specs.declared.load.TheConstants.{LIMIT}
use Rattle.vkg_tables.specs.declared.fault.TableFault.{TableFault}
use Rattle.vkg_tables.specs.declared.load.TheConstants.{MOST_BYTES}
use Rattle.vkg_cli.specs.declared.stops.Fault.{Fault}
use Rattle.vkg_cli.specs.declared.stops.Fault.TheVariants as limits
use Rattle.vkg_cli.specs.declared.stops.Stop.{Stop}
use Rattle.vkg_schema.specs.Reading.{IsSchemaOf}
use Rattle.vkg_tables.specs.Checks.{key_fault, reference_fault}
use Rattle.vkg_tables.specs.Seen.{Seen, columns_at, columns_of, with_read, with_rows, without_rows}
use Rattle.vkg_tables.specs.TableFile.{table_of_bytes}
use Rattle.vkg_cli.specs.Stages.{Answers, Loads, Ran, Settles, Then, Where, found, goes_on, stops}
use Rattle.vkg_cli.specs.Words.{dump, query, sql}
use Rattle.vkg_cli.specs.Work.{Checks, GivesAnswer, GivesText, LoadsDatabase, LoadsFaultless, LoadsMapping, LoadsQuery, LoadsSchema, LoadsTable, LoadsTables, LoadsText, MapsDirectly, MapsTriples, Reads, ReadsQuery, ReadsSchema, ReadsTriples, SaysQuery, SaysTriples, UnlessLong, checks, loaded_or, table_file, unless_data, data_stop, direct_stop, mapping_stop, table_stop}
use Rattle.vkg_cli.specs.Work.{unless_fault as unless_table}
use Rattle.vkg_cli.specs.Headline.{HoldDatabase, HoldDataset, HoldsMapping, HoldsQuery, HoldsSchema, HoldsTable, HoldsText, IsTextOf}
use Rattle.vkg_cli.proofs.LoadLemmas.{faultless_of}

-- a file within a limit is not cut
uncut : (limit m : ℕ) (file : List ℕ) → limit ≡ m + 1 → nat_lt m (length (take limit file)) ≡ false → take limit file ≡ file
uncut limit m file is short =
    let fits : length (take limit file) ≤ m = ltb-false m (length (take limit file)) short in
    take_all limit file (omega (arith, length-take limit file))

-- a load gives the file, cut at the limit
given : (limit : ℕ) (file : Option (List ℕ)) (bytes : List ℕ) → (let one : Result (List ℕ) Stop = Ok bytes in one ≡ found limit file) → (whole : List ℕ) × (file ≡ Some whole) × (bytes ≡ take limit whole)
given limit None bytes e = cc e
given limit (Some whole) bytes e = (whole, refl, cc e)

-- what is read of a file is within the limit
short_read : {A : Type 0} (limit : Fault) (reads : Result A Stop → Type 0) (long : Bool) (v : A) → UnlessLong limit reads long (Ok v) → (long ≡ false) × reads (Ok v)
short_read limit reads true v is = absurd (ok_err v _ is)
short_read limit reads false v is = (refl, is)

-- the table's file of a loaded table
rows_read : (db next : Seen) (k : ℕ) (read : Result (List Row) _) → (let one : Result Seen Stop = Ok next in one ≡ loaded_or (with_read db k read))
    → (rows : List Row) × (read ≡ Ok rows) × (next ≡ with_rows db k rows)
rows_read db next k (Ok rows) e = (rows, refl, ok_same next (with_rows db k rows) e)
rows_read db next k (Err f) e = cc e

not_long : {F : Type 0} (long : Bool) (f : F) (faults : List F) (rows others : List Row) → (let one : Result (List Row) F = Ok others in one ≡ unless (slice_get (if long then f ∷ [] else faults) 0) (Ok rows)) → long ≡ false
not_long true f faults rows others e = cc e
not_long false f faults rows others e = refl

short_file : (columns : List Column) (bytes : List ℕ) (rows : List Row) → table_of_bytes columns bytes ≡ Ok rows → nat_lt MOST_BYTES (length bytes) ≡ false
short_file columns bytes rows e = not_long (nat_lt MOST_BYTES (length bytes)) _ _ _ rows (sym e)

abbrev with_tables : List Table → List (List Row) → Seen
with_tables schema tables = record { schema = schema; tables = tables }

module _ (files : Files) (folder : List ℕ) where
  -- the rows of one table
  one_table : (db next : Seen) (k : ℕ) (table : Table) (names : List (List ℕ)) → LoadsTable files folder db k table names (Ok next) → columns_of db.schema k ≡ table.columns
      → (rows : List Row) × HoldsTable files folder table rows × (next ≡ with_rows db k rows)
  unfolding Loads Settles
  one_table db next k table names (goes_on bytes before after load settled is) columns =
      let file = given LIMIT (held files (table_file folder table)) bytes (load.1) in
      let read = rows_read db next k (table_of_bytes (columns_of db.schema k) bytes) (settled.1) in
      let rows : table_of_bytes table.columns bytes ≡ Ok read.0 = ap (λ c. table_of_bytes c bytes) (sym columns) ∙ read.1 in
      let short = short_file table.columns bytes read.0 rows in
      let whole = uncut LIMIT MOST_BYTES file.0 refl (ap (λ b. nat_lt MOST_BYTES (length b)) (sym file.2) ∙ short) in (
        read.0,
        record { bytes = file.0; file = file.1; reads = ap (table_of_bytes table.columns) (sym whole ∙ sym file.2) ∙ rows },
        read.2,
      )
  one_table db next k table names (stops stop load is) columns = absurd (ok_err next stop is)

  -- the rows of the tables from one on
  all_tables : (tables : List Table) (db final : Seen) (k : ℕ) (names : List (List ℕ)) (before : List Table) (done rest : List (List Row))
      → LoadsTables files folder db k tables names (Ok final)
      → db.schema ≡ before ++ tables → k ≡ length before → db.tables ≡ done ++ rest → k ≡ length done → length rest ≡ length tables
      → (loaded_rows : List (List Row)) × (final ≡ with_tables db.schema (done ++ loaded_rows)) × AllZip (HoldsTable files folder) tables loaded_rows
  unfolding Settles
  all_tables [] db final k names before done [] is schema place tables behind same =
      ([], ok_same final db (is.1) ∙ ap (λ (l : List (List Row)). with_tables db.schema l) tables, tt)
  all_tables [] db final k names before done (r ∷ rest) is schema place tables behind same = absurd (omega arith)
  all_tables (t ∷ ts) db final k names before done [] is schema place tables behind same = absurd (omega arith)
  all_tables (t ∷ ts) db final k names before done (r ∷ rest) (goes_on next head tail first later is) schema place tables behind same =
      let columns = ap columns_at (ap₂ slice_get schema place ∙ at_seam before t ts) in
      let one = one_table db next k t head first columns in
      let next_schema : next.schema ≡ (before ++ t ∷ []) ++ ts = ap (λ (d : Seen). d.schema) one.2 ∙ schema ∙ sym (append_assoc before (t ∷ []) ts) in
      let next_tables : next.tables ≡ (done ++ one.0 ∷ []) ++ rest =
      ap (λ (d : Seen). d.tables) one.2 ∙ ap₂ (λ l n. slice_set l n one.0) tables behind ∙ set-append_seam done r rest one.0 ∙ sym (append_assoc done (one.0 ∷ []) rest) in
      let longer : k + 1 ≡ length (before ++ t ∷ []) = omega (arith, place, length-append before (t ∷ [])) in
      let later_rows : k + 1 ≡ length (done ++ one.0 ∷ []) = omega (arith, behind, length-append done (one.0 ∷ [])) in
      let others = all_tables ts next final (k + 1) tail (before ++ t ∷ []) (done ++ one.0 ∷ []) rest later next_schema longer next_tables later_rows (omega (arith, same)) in (
        one.0 ∷ others.0,
        others.1 ∙ ap₂ with_tables (ap (λ (d : Seen). d.schema) one.2) (append_assoc done (one.0 ∷ []) others.0),
        (one.1, others.2),
      )
  all_tables (t ∷ ts) db final k names before done rest (stops stop first is) schema place tables behind same = absurd (ok_err final stop is)

given_made : {F : Type 0} (stop_of : F → Stop) (made : Result Mapping F) (mapping : Mapping) → (let one : Result Mapping Stop = Ok mapping in one ≡ result_map_both (λ (m : Mapping). m) stop_of made) → made ≡ Ok mapping
given_made stop_of (Ok other) mapping e = ap Ok (ok_same other mapping (sym e))
given_made stop_of (Err fault) mapping e = absurd (ok_err mapping (stop_of fault) e)

no_data : (found : Option DataFault) (mapping other : Mapping) → (let one : Result Mapping Stop = Ok mapping in one ≡ unless_data found (Ok other)) → (found ≡ None) × (mapping ≡ other)
no_data found mapping other e =
    let r = unless_given (option_map data_stop found) (Ok other) mapping (sym e) in
    (map_lacking data_stop found r.0, sym (ok_same other mapping r.1))

unless_key : {A : Type 0} (found : Option TableFault) (v : A) (later : Result A Stop) → (let one : Result A Stop = Ok v in one ≡ unless_table found later) → Ok v ≡ later
unless_key found v later e = sym (unless_given (option_map table_stop found) later v (sym e)).1

module _ (files : Files) (schema : List Table) (base : List ℕ) (mapping : Mapping) where
  -- what a document's triples say
  read_text : (bytes : List ℕ) (names : List (List ℕ)) → Then (Settles (ReadsTriples bytes base)) (λ triples. Settles (MapsTriples triples schema base)) names (Ok mapping)
      → (nat_lt MOST_BYTES (length bytes) ≡ false) × ((triples : List Triple) × IsDocumentOf bytes base triples × (mapping_of triples schema base ≡ Ok mapping))
  unfolding ReadsTriples Settles
  read_text bytes names (goes_on triples head tail settled maps is) =
      let says = short_read (limits.Mapping 22 MOST_BYTES) (SaysTriples bytes base) (nat_lt MOST_BYTES (length bytes)) triples (settled.1) in
      (says.0, (triples, says.1, given_made mapping_stop (mapping_of triples schema base) mapping (maps.1)))
  read_text bytes names (stops stop settled is) = absurd (ok_err mapping stop is)

  text_holds : (name : List ℕ) (names : List (List ℕ)) → LoadsText files name schema base names (Ok mapping) → HoldsText files name schema base mapping
  unfolding Loads
  text_holds name names (goes_on bytes head tail load later is) =
      let file = given LIMIT (held files name) bytes (load.1) in
      let read = read_text bytes tail later in
      let whole = uncut LIMIT MOST_BYTES file.0 refl (ap (λ b. nat_lt MOST_BYTES (length b)) (sym file.2) ∙ read.0) in
      record { bytes = file.0; file = file.1; triples = read.1.0; says = subst (λ b. IsDocumentOf b base read.1.0) (file.2 ∙ whole) read.1.1; reads = read.1.2 }
  text_holds name names (stops stop load is) = absurd (ok_err mapping stop is)

  mapping_holds : (file : Option (List ℕ)) (names : List (List ℕ)) → (file ≡ None → GivesDirectGraph schema base mapping) → LoadsMapping files file schema base names (Ok mapping)
      → HoldsMapping files file schema base mapping
  unfolding MapsDirectly Settles
  mapping_holds None names graph is = (given_made direct_stop (direct_result schema base) mapping (is.1), graph refl)
  mapping_holds (Some name) names graph is = text_holds name names is

module _ (files : Files) where
  schema_holds : (name : List ℕ) (schema : List Table) (names : List (List ℕ)) → LoadsSchema files name names (Ok schema) → HoldsSchema files name schema
  unfolding Loads ReadsSchema Settles
  schema_holds name schema names (goes_on bytes head tail load settled is) =
      let file = given LIMIT (held files name) bytes (load.1) in
      let says = short_read (limits.Schema 14 MOST_BYTES) (Reads bytes) (nat_lt MOST_BYTES (length bytes)) schema (settled.1) in
      let whole = uncut LIMIT MOST_BYTES file.0 refl (ap (λ b. nat_lt MOST_BYTES (length b)) (sym file.2) ∙ says.0) in
      record { text = file.0; file = file.1; says = subst (λ b. IsSchemaOf b schema) (file.2 ∙ whole) says.1 }
  schema_holds name schema names (stops stop load is) = absurd (ok_err schema stop is)

  query_holds : (name base : List ℕ) (asked : Query) (names : List (List ℕ)) → LoadsQuery files name base names (Ok asked) → HoldsQuery files name base asked
  unfolding Loads ReadsQuery Settles
  query_holds name base asked names (goes_on bytes head tail load settled is) =
      let file = given LIMIT (held files name) bytes (load.1) in
      let says = short_read (limits.Query 9 MOST_BYTES) (SaysQuery bytes base) (nat_lt MOST_BYTES (length bytes)) asked (settled.1) in
      let whole = uncut LIMIT MOST_BYTES file.0 refl (ap (λ b. nat_lt MOST_BYTES (length b)) (sym file.2) ∙ says.0) in
      record { bytes = file.0; file = file.1; says = subst (λ b. IsQuery b base asked) (file.2 ∙ whole) says.1 }
  query_holds name base asked names (stops stop load is) = absurd (ok_err asked stop is)

  -- a loaded database that was checked is the one that was loaded
  checked_is : (db met : Seen) → (let one : Result Seen Stop = Ok met in one ≡ checks db) → met ≡ db
  checked_is db met e = ok_same met db (unless_key (reference_fault db.schema db.tables) met (Ok db) (unless_key (key_fault db.schema db.tables) met _ e))

  tables_hold : (name folder : List ℕ) (schema : List Table) (met : Seen) (names : List (List ℕ)) → HoldsSchema files name schema → MeetsSchema met.schema met.tables
      → Then (LoadsTables files folder (without_rows schema) 0 schema) (λ db. Settles (Checks db)) names (Ok met) → HoldDatabase files name folder met.schema met.tables
  unfolding Checks Settles
  tables_hold name folder schema met names says meets (goes_on db head tail tables checked is) =
      let all = all_tables files folder schema (without_rows schema) db 0 head [] [] (map (λ t. []) schema) tables refl refl refl refl (length-map schema _) in
      let same : met ≡ with_tables schema all.0 = checked_is db met (checked.1) ∙ all.1 in
      let one : schema ≡ met.schema = sym (ap (λ (d : Seen). d.schema) same) in
      let hold : AllZip (HoldsTable files folder) schema met.tables = subst (λ (t : List (List Row)). AllZip (HoldsTable files folder) schema t) (sym (ap (λ (d : Seen). d.tables) same)) all.2 in
      record {
        says = subst (λ (l : List Table). HoldsSchema files name l) one says;
        tables = subst (λ (l : List Table). AllZip (HoldsTable files folder) l met.tables) one hold;
        meets = meets;
      }
  tables_hold name folder schema met names says meets (stops stop tables is) = absurd (ok_err met stop is)

  database_holds : (name folder : List ℕ) (db : Seen) (names : List (List ℕ)) → MeetsSchema db.schema db.tables → LoadsDatabase files name folder names (Ok db) → HoldDatabase files name folder db.schema db.tables
  database_holds name folder db names meets (goes_on schema head tail load later is) = tables_hold name folder schema db tail (schema_holds name schema head load) meets later
  database_holds name folder db names meets (stops stop load is) = absurd (ok_err db stop is)

  -- a mapping without a data error over a database that meets its schema
  dataset_holds : (name folder base : List ℕ) (file : Option (List ℕ)) (db : Seen) (mapping : Mapping) (names : List (List ℕ))
      → HoldDatabase files name folder db.schema db.tables → (file ≡ None → GivesDirectGraph db.schema base mapping) → LoadsFaultless files file db base names (Ok mapping)
      → HoldDataset files name folder base file db.schema db.tables mapping
  unfolding Settles
  dataset_holds name folder base file db mapping names hold graph (goes_on first head tail load scanned is) =
      let none = no_data (least_data_fault first db.tables) mapping first (scanned.1) in
      let mapped = mapping_holds files db.schema base mapping file head graph (subst (λ (m : Mapping). LoadsMapping files file db.schema base head (Ok m)) (sym none.1) load) in
      let faultless = subst (λ m. data_faults m db.tables ≡ []) (sym none.1) (faultless_of db.tables first none.0) in
      record { hold = hold; mapped = mapped; faultless = faultless }
  dataset_holds name folder base file db mapping names hold graph (stops stop load is) = absurd (ok_err mapping stop is)

-- The lines of each command are those that its files define.

module _ (schema_file folder base : List ℕ) (file : Option (List ℕ)) (db : Seen) (mapping : Mapping) (old mid late : StoreState)
    (first : Ran (λ files. LoadsDatabase files schema_file folder) old mid (Ok db)) (meets : MeetsSchema db.schema db.tables)
    (second : Ran (λ files. LoadsFaultless files file db base) mid late (Ok mapping)) (graph : file ≡ None → GivesDirectGraph db.schema base mapping) where
  -- the dataset of what was loaded
  dataset_of : (files : Files) → old.files ≡ Some files → HoldDataset files schema_file folder base file db.schema db.tables mapping
  dataset_of files told =
      let loaded_db = first.over files told in
      let loaded_mapping = second.over files (first.files ∙ told) in
      dataset_holds files schema_file folder base file db mapping loaded_mapping.0 (database_holds files schema_file folder db loaded_db.0 meets loaded_db.1) graph loaded_mapping.1

  pub dump_text : (result : Result (List (List ℕ)) Stop) → IfOk result (λ lines. IsLinesOf lines (dataset mapping db.tables))
      → IfOk result (λ lines. Where old.files (λ files. IsTextOf (dump (record { schema = schema_file; folder = folder; base = base; mapping = file })) files lines))
  dump_text (Ok lines) are = λ files told. record { schema = db.schema; db = db.tables; mapping = mapping; hold = dataset_of files told; lines_are = are }
  dump_text (Err why) are = tt

  pub query_text : (query_file : List ℕ) (asked : Query) (new : StoreState) (result : Result (List (List ℕ)) Stop) → Ran (λ files. LoadsQuery files query_file base) late new (Ok asked)
      → Answers (GivesAnswer db mapping asked) result
      → IfOk result (λ lines. lines ≡ result_lines (query_seen asked) (rows_of db.schema (rewritten db.schema mapping (query_seen asked)) db.tables))
      → IfOk result (λ lines. Where old.files (λ files. IsTextOf (query (record { schema = schema_file; folder = folder; base = base; query = query_file; mapping = file })) files lines))
  unfolding GivesAnswer
  query_text query_file asked new (Ok lines) third answers rows = λ files told.
      let loaded_query = third.over files (second.files ∙ first.files ∙ told) in record {
        schema = db.schema;
        db = db.tables;
        mapping = mapping;
        hold = dataset_of files told;
        asked = asked;
        says = query_holds files query_file base asked loaded_query.0 loaded_query.1;
        lines_are = ok_same lines _ answers;
        rows_are = rows;
      }
  query_text query_file asked new (Err why) third answers rows = tt

module _ (schema_file base : List ℕ) (file : Option (List ℕ)) (query_file : List ℕ) (schema : List Table) (mapping : Mapping) (asked : Query) (old mid late new : StoreState)
    (first : Ran (λ files. LoadsSchema files schema_file) old mid (Ok schema))
    (second : Ran (λ files. LoadsMapping files file schema base) mid late (Ok mapping)) (graph : file ≡ None → GivesDirectGraph schema base mapping)
    (third : Ran (λ files. LoadsQuery files query_file base) late new (Ok asked)) where
  pub sql_text_is : (result : Result (List (List ℕ)) Stop) → Answers (GivesText schema mapping asked) result
      → IfOk result (λ lines. Where old.files (λ files. IsTextOf (sql (record { schema = schema_file; base = base; query = query_file; mapping = file })) files lines))
  sql_text_is (Ok lines) is = λ files told.
      let loaded_schema = first.over files told in
      let loaded_mapping = second.over files (first.files ∙ told) in
      let loaded_query = third.over files (second.files ∙ first.files ∙ told) in record {
        schema = schema;
        says_schema = schema_holds files schema_file schema loaded_schema.0 loaded_schema.1;
        mapping = mapping;
        mapped = mapping_holds files schema base mapping file loaded_mapping.0 graph loaded_mapping.1;
        asked = asked;
        says = query_holds files query_file base asked loaded_query.0 loaded_query.1;
        lines_are = ok_same lines _ is;
      }
  sql_text_is (Err why) is = tt
