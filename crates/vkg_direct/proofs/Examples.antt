-- Worked examples: the direct graph and the direct mapping of two tables, of a table with all kinds and of one with a key of
-- two columns.
use Rattle.std.proofs.Common.{◌≡◌, refl, ℕ, true, false, List, [], ◌∷◌, ◌++◌, codes, map, Err, arith}
use Rattle.std.specs.Str.{chars}
use Rattle.std.specs.Char.{encode_utf8}
use Rattle.std.specs.Fmt.{digits}
use Rattle.vkg_schema.proofs.Fitting.{int_fits, null_fits, text_fits}
use Rattle.vkg_lists.specs.Ascending.{ascending_once}
use Rattle.vkg_terms.specs.NQuads.{Quad, line}
use Rattle.vkg_cells.specs.declared.cell.SqlType.TheVariants as kind
use Rattle.vkg_cells.specs.declared.cell.Cell.TheVariants as cell
use Rattle.vkg_cells.specs.Moment.{day_of_text, clock_of_text}
use Rattle.vkg_schema.specs.declared.table.Table.{Table}
use Rattle.vkg_schema.specs.Company.{base, company, dept}
use Rattle.vkg_schema.specs.Rows.{Database, equal_at, is_known}
use Rattle.vkg_schema.specs.Meets.{MeetsSchema, IsWellFormed}
use Rattle.vkg_maps.specs.DataFaults.{data_faults}
use Rattle.vkg_maps.specs.Dataset.{quads}
use Rattle.vkg_direct.specs.declared.direct_error.DirectError.TheVariants.{NoPrimaryKey}
use Rattle.vkg_direct.specs.DirectGraph.{direct_graph}
use Rattle.vkg_direct.specs.DirectMapping.{direct, direct_result}
use Rattle.vkg_maps.proofs.Company.{text, db, i_text, a_text}

-- what the examples compute with
unfoldable opened : Unit {0}
unfolding chars encode_utf8 digits equal_at is_known day_of_text clock_of_text
opened = tt

abbrev lines_of : List Quad → List (List ℕ)
lines_of qs = ascending_once (map line qs)

-- the lines of the two tables
abbrev lines_7 : List (List ℕ)
lines_7 =
    (codes "<http://e/emp/id=7> <http://e/emp#dept> \"1\"^^" ++ i_text ++ codes " .")
    ∷ (codes "<http://e/emp/id=7> <http://e/emp#id> \"7\"^^" ++ i_text ++ codes " .")
    ∷ codes "<http://e/emp/id=7> <http://e/emp#name> \"Ann\" ."
    ∷ codes "<http://e/emp/id=7> <http://e/emp#ref-dept> <http://e/dept/id=1> ."
    ∷ (codes "<http://e/emp/id=7> " ++ a_text ++ codes " <http://e/emp> .") ∷ []

abbrev lines_9 : List (List ℕ)
lines_9 =
    (codes "<http://e/emp/id=9> <http://e/emp#dept> \"1\"^^" ++ i_text ++ codes " .")
    ∷ (codes "<http://e/emp/id=9> <http://e/emp#id> \"9\"^^" ++ i_text ++ codes " .")
    ∷ codes "<http://e/emp/id=9> <http://e/emp#name> \"Ann\" ."
    ∷ codes "<http://e/emp/id=9> <http://e/emp#ref-dept> <http://e/dept/id=1> ."
    ∷ (codes "<http://e/emp/id=9> " ++ a_text ++ codes " <http://e/emp> .") ∷ []

abbrev two_tables : List (List ℕ)
two_tables =
    (codes "<http://e/dept/id=1> <http://e/dept#id> \"1\"^^" ++ i_text ++ codes " .")
    ∷ codes "<http://e/dept/id=1> <http://e/dept#title> \"Ore\" ."
    ∷ (codes "<http://e/dept/id=1> " ++ a_text ++ codes " <http://e/dept> .")
    ∷ (codes "<http://e/dept/id=2> <http://e/dept#id> \"2\"^^" ++ i_text ++ codes " .")
    ∷ (codes "<http://e/dept/id=2> " ++ a_text ++ codes " <http://e/dept> .")
    ∷ lines_7
    ++ (codes "<http://e/emp/id=8> <http://e/emp#id> \"8\"^^" ++ i_text ++ codes " .")
    ∷ codes "<http://e/emp/id=8> <http://e/emp#name> \"Bo\" ."
    ∷ (codes "<http://e/emp/id=8> " ++ a_text ++ codes " <http://e/emp> .")
    ∷ lines_9

graph_of_two_tables : lines_of (direct_graph company base db) ≡ two_tables
unfolding opened
graph_of_two_tables = refl

mapping_of_two_tables : lines_of (quads (direct company base) db) ≡ two_tables
unfolding opened
mapping_of_two_tables = refl

no_data_fault : data_faults (direct company base) db ≡ []
unfolding opened
no_data_fault = refl

-- ---- the two tables and their rows are a schema and a database that meets it

meets_schema : MeetsSchema company db
unfolding opened
meets_schema = (
  record {
    cells = ((int_fits _ _ _ (codes "1", (refl, refl)) refl, (text_fits _ _ (codes "Ore", (refl, refl)), tt)), ((int_fits _ _ _ (codes "2", (refl, refl)) refl, (null_fits _ _, tt)), tt));
    keys = (((refl, tt), (tt, tt)), tt);
    references = tt;
  },
  (
    record {
      cells = (
        (int_fits _ _ _ (codes "7", (refl, refl)) refl, (text_fits _ _ (codes "Ann", (refl, refl)), (int_fits _ _ _ (codes "1", (refl, refl)) refl, tt))),
        (
          (int_fits _ _ _ (codes "8", (refl, refl)) refl, (text_fits _ _ (codes "Bo", (refl, refl)), (null_fits _ _, tt))),
          ((int_fits _ _ _ (codes "9", (refl, refl)) refl, (text_fits _ _ (codes "Ann", (refl, refl)), (int_fits _ _ _ (codes "1", (refl, refl)) refl, tt))), tt),
        ),
      );
      keys = (((refl, (refl, tt)), ((refl, tt), (tt, tt))), tt);
      references = ((λ _. refl, ((λ h. cc), (λ _. refl, tt))), tt);
    },
    tt,
  ),
)

well_formed : IsWellFormed company
unfolding opened
well_formed = (
  record {
    name = (codes "dept", (refl, refl));
    columns = (record { name = (codes "id", (refl, refl)); kind = λ e. cc }, (record { name = (codes "title", (refl, refl)); kind = λ e. cc }, tt));
    keys = (record { some = λ e. cc; columns = (omega arith, tt); primary = λ _. (refl, tt) }, tt);
    references = tt;
  },
  (
    record {
      name = (codes "emp", (refl, refl));
      columns = (record { name = (codes "id", (refl, refl)); kind = λ e. cc }, (record { name = (codes "name", (refl, refl)); kind = λ e. cc }, (record { name = (codes "dept", (refl, refl)); kind = λ e. cc }, tt)));
      keys = (record { some = λ e. cc; columns = (omega arith, tt); primary = λ _. (refl, tt) }, tt);
      references = (record { children = (omega arith, tt); inside = omega arith; target = (record { some = λ e. cc; parents = (omega arith, tt); key = refl }, (refl, tt)) }, tt);
    },
    tt,
  ),
)

-- ---- more tables

-- all kinds, by the direct mapping
abbrev kinds : Table
kinds = record {
  name = codes "k";
  columns = record { name = codes "b"; kind = kind.Bool; not_null = true } ∷ record { name = codes "ts"; kind = kind.Stamp; not_null = false } ∷ record { name = codes "x"; kind = kind.Bin; not_null = false } ∷ [];
  keys = record { primary = true; columns = 0 ∷ [] } ∷ [];
  references = [];
}

abbrev kinds_db : Database
kinds_db = ((cell.Bool true ∷ cell.Stamp (codes "2024-02-29T12:00:00.5") ∷ cell.Bin (codes "0AFF") ∷ []) ∷ []) ∷ []

abbrev kinds_lines : List (List ℕ)
kinds_lines =
    codes "<http://e/k/b=true> <http://e/k#b> \"true\"^^<http://www.w3.org/2001/XMLSchema#boolean> ."
    ∷ codes "<http://e/k/b=true> <http://e/k#ts> \"2024-02-29T12:00:00.5\"^^<http://www.w3.org/2001/XMLSchema#dateTime> ."
    ∷ codes "<http://e/k/b=true> <http://e/k#x> \"0AFF\"^^<http://www.w3.org/2001/XMLSchema#hexBinary> ."
    ∷ (codes "<http://e/k/b=true> " ++ a_text ++ codes " <http://e/k> .") ∷ []

kinds_by_mapping : lines_of (quads (direct (kinds ∷ []) base) kinds_db) ≡ kinds_lines
unfolding opened
kinds_by_mapping = refl

kinds_graph : lines_of (direct_graph (kinds ∷ []) base kinds_db) ≡ kinds_lines
unfolding opened
kinds_graph = refl

-- a key of two columns
abbrev pair_table : Table
pair_table = record {
  name = codes "p";
  columns = record { name = codes "a"; kind = kind.Text; not_null = true } ∷ record { name = codes "b"; kind = kind.Text; not_null = true } ∷ [];
  keys = record { primary = true; columns = 0 ∷ 1 ∷ [] } ∷ [];
  references = [];
}

abbrev pair_db : Database
pair_db = ((text (codes "x-y") ∷ text (codes "z") ∷ []) ∷ []) ∷ []

abbrev pair_lines : List (List ℕ)
pair_lines = codes "<http://e/p/a=x-y;b=z> <http://e/p#a> \"x-y\" ." ∷ codes "<http://e/p/a=x-y;b=z> <http://e/p#b> \"z\" ." ∷ (codes "<http://e/p/a=x-y;b=z> " ++ a_text ++ codes " <http://e/p> .") ∷ []

pair_by_mapping : lines_of (quads (direct (pair_table ∷ []) base) pair_db) ≡ pair_lines
unfolding opened
pair_by_mapping = refl

pair_graph : lines_of (direct_graph (pair_table ∷ []) base pair_db) ≡ pair_lines
unfolding opened
pair_graph = refl

-- ---- a table without a primary key

abbrev keyless : Table
keyless = record { name = codes "l"; columns = record { name = codes "v"; kind = kind.Text; not_null = false } ∷ []; keys = []; references = [] }

first_keyless : direct_result (dept ∷ keyless ∷ keyless ∷ []) base ≡ Err (NoPrimaryKey 2)
first_keyless = refl
