-- What each command writes, in the standards' words.
use Rattle.std.specs.Prelude.{◌≡◌, ℕ, List, [], ◌∷◌, Option, Some, None, Ok}
use Rattle.std.specs.List.{AllZip}
use Rattle.vkg_base.specs.Outside.{Files, held}
use Rattle.vkg_schema.specs.declared.table.Table.{Table}
use Rattle.vkg_schema.specs.Rows.{Database, Row}
use Rattle.vkg_schema.specs.Meets.{MeetsSchema}
use Rattle.vkg_schema.specs.Reading.{IsSchemaOf}
use Rattle.vkg_maps.specs.declared.mapping.Mapping.{Mapping}
use Rattle.vkg_maps.specs.DataFaults.{data_faults}
use Rattle.vkg_maps.specs.Dataset.{dataset}
use Rattle.vkg_direct.specs.DirectMapping.{direct_result}
use Rattle.vkg_direct.specs.Laws.{GivesDirectGraph}
use Rattle.vkg_quads.specs.Dump.{IsDump as IsLinesOf}
use Rattle.vkg_turtle.specs.declared.triple.Triple.{Triple}
use Rattle.vkg_turtle.specs.Reading.{IsDocumentOf}
use Rattle.vkg_r2rml.specs.Mapping.{mapping_of}
use Rattle.vkg_tables.specs.TableFile.{table_of_bytes}
use Rattle.vkg_sparql.specs.declared.query.Query.{Query}
use Rattle.vkg_sparql.specs.Reading.{IsQuery}
use Rattle.vkg_sparql.specs.Seen.{query_seen}
use Rattle.vkg_algebra.specs.Answer.{answer}
use Rattle.vkg_plan.specs.Rows.{rows_of}
use Rattle.vkg_cli.specs.QueryText.{query_text}
use Rattle.vkg_rewrite.specs.Lines.{result_lines}
use Rattle.vkg_rewrite.specs.Rewritten.{rewritten}
use Rattle.vkg_cli.specs.Words.{Command, DumpWords, QueryWords, SqlWords, dump, query, sql}
use Rattle.vkg_cli.specs.Work.{table_file}

-- the schema's file says these tables
pub record HoldsSchema (files : Files) (name : List ℕ) (schema : List Table) : Type 0 where
  pub text : List ℕ
  pub file : held files name ≡ Some text
  pub says : IsSchemaOf text schema

-- a table's file, in CSV, has these rows
pub record HoldsTable (files : Files) (folder : List ℕ) (table : Table) (rows : List Row) : Type 0 where
  pub bytes : List ℕ
  pub file : held files (table_file folder table) ≡ Some bytes
  pub reads : table_of_bytes table.columns bytes ≡ Ok rows

-- the schema's file says these tables, each table's file has its rows, and these meet the schema
pub record HoldDatabase (files : Files) (name folder : List ℕ) (schema : List Table) (db : Database) : Type 0 where
  pub says : HoldsSchema files name schema
  pub tables : AllZip (HoldsTable files folder) schema db
  pub meets : MeetsSchema schema db

-- the mapping's file says triples, and these are this mapping
pub record HoldsText (files : Files) (name : List ℕ) (schema : List Table) (base : List ℕ) (mapping : Mapping) : Type 0 where
  pub bytes : List ℕ
  pub file : held files name ≡ Some bytes
  pub triples : List Triple
  pub says : IsDocumentOf bytes base triples
  pub reads : mapping_of triples schema base ≡ Ok mapping

-- What a mapping is without a file: the direct mapping, whose dataset is the direct graph over every database that meets the
-- schema. With one: the file's bytes are a document of triples, and these are this mapping of the schema.
abbrev pub HoldsMapping : Files → Option (List ℕ) → List Table → List ℕ → Mapping → Type 0
HoldsMapping files None schema base mapping = (direct_result schema base ≡ Ok mapping) × GivesDirectGraph schema base mapping
HoldsMapping files (Some name) schema base mapping = HoldsText files name schema base mapping

-- the file says this query
pub record HoldsQuery (files : Files) (name base : List ℕ) (query : Query) : Type 0 where
  pub bytes : List ℕ
  pub file : held files name ≡ Some bytes
  pub says : IsQuery bytes base query

-- The files hold a database that meets its schema and a mapping without a data error over it.
pub record HoldDataset (files : Files) (name folder base : List ℕ) (mapping_file : Option (List ℕ)) (schema : List Table) (db : Database) (mapping : Mapping) : Type 0 where
  pub hold : HoldDatabase files name folder schema db
  pub mapped : HoldsMapping files mapping_file schema base mapping
  pub faultless : data_faults mapping db ≡ []

-- The lines are those of the dataset of the mapping over the database, once each and ascending.
pub record IsDump (words : DumpWords) (files : Files) (lines : List (List ℕ)) : Type 0 where
  pub schema : List Table
  pub db : Database
  pub mapping : Mapping
  pub hold : HoldDataset files words.schema words.folder words.base words.mapping schema db mapping
  pub lines_are : IsLinesOf lines (dataset mapping db)

-- The lines are the answer to the query over the very dataset that `dump` writes. Of SELECT they are the header, then the solutions that the
-- algebra of SPARQL gives, in the asked order and then byte order, as often as it gives them or, under DISTINCT, once, and of them the
-- asked slice; of ASK whether there is a solution; of CONSTRUCT the set of its template's triples over the ordered solutions. They are also
-- what is so written of the rows of the plan that `sql` prints.
pub record IsAnswered (words : QueryWords) (files : Files) (lines : List (List ℕ)) : Type 0 where
  pub schema : List Table
  pub db : Database
  pub mapping : Mapping
  pub hold : HoldDataset files words.schema words.folder words.base words.mapping schema db mapping
  pub asked : Query
  pub says : HoldsQuery files words.query words.base asked
  pub lines_are : lines ≡ answer (query_seen asked) (dataset mapping db)
  pub rows_are : lines ≡ result_lines (query_seen asked) (rows_of schema (rewritten schema mapping (query_seen asked)) db)

-- The one line is the text of the query's plan over the schema and the mapping, and behind it the asked order and slice.
pub record IsSql (words : SqlWords) (files : Files) (lines : List (List ℕ)) : Type 0 where
  pub schema : List Table
  pub says_schema : HoldsSchema files words.schema schema
  pub mapping : Mapping
  pub mapped : HoldsMapping files words.mapping schema words.base mapping
  pub asked : Query
  pub says : HoldsQuery files words.query words.base asked
  pub lines_are : lines ≡ query_text schema mapping (query_seen asked) ∷ []

-- what a command writes
abbrev pub IsTextOf : Command → Files → List (List ℕ) → Type 0
IsTextOf (dump words) files lines = IsDump words files lines
IsTextOf (query words) files lines = IsAnswered words files lines
IsTextOf (sql words) files lines = IsSql words files lines
