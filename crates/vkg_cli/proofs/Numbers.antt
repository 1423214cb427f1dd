-- The number of a fault's check is one of its table.
use Rattle.std.proofs.Common.{◌≡◌, ℕ, Bool, true, false, List, [], ◌∷◌, Option, Some, None, Result, Ok, Err, map, refl, sym, subst, arith}
use Rattle.std.specs.Prelude.{◌==◌, ◌&&◌, ◌++◌, IfSome, count_by, if◌then◌else◌, length, nat_lt, slice_get}
use Rattle.std.specs.List.{AllByRecursion, enumerate_from, flat_map, list_any, zip}
use Rattle.std.specs.Option.{option_or}
use Rattle.std.specs.Str.{bytes_eq, is_utf8}
use Rattle.vkg_lists.specs.Results.{unless}
use Rattle.vkg_lists.proofs.Each.{recursion_get}
use Rattle.vkg_lists.proofs.Members.{recursion_append}
use Rattle.vkg_lists.proofs.Results.{err_same, ok_err}
use Rattle.vkg_cells.specs.declared.cell.Cell.{Cell}
use Rattle.vkg_cells.specs.declared.cell.FieldFault.{FieldFault}
use Rattle.vkg_cells.specs.declared.cell.FieldFault.TheVariants.{BadValue, TooWide, Memory}
use Rattle.vkg_ddl.specs.FirstFault.{failed, first_fault}
use Rattle.vkg_ddl.specs.NameChecks.{table_twice, column_twice, key_column_unknown, key_column_twice, primary_twice, table_unknown, limit_passed}
use Rattle.vkg_ddl.specs.TypeChecks.{type_unknown, precision_wrong}
use Rattle.vkg_ddl.specs.ReferenceChecks.{columns_wrong, no_key, families_differ}
use Rattle.vkg_ddl.specs.declared.written.WrittenTable.{WrittenTable}
use Rattle.vkg_schema.specs.Reading.{IsFaultOf as IsSchemaFault, no_utf8 as schema_no_utf8, no_token as schema_no_token, no_text as schema_no_text, no_schema}
use Rattle.vkg_schema.specs.Rows.{Row, is_null}
use Rattle.vkg_schema.specs.declared.reading.SchemaFault.{SchemaFault}
use Rattle.vkg_schema.specs.declared.table.Column.{Column}
use Rattle.vkg_schema.specs.declared.table.Table.{Table}
use Rattle.vkg_tables.specs.Checks.{broken_references, faults_over, key_fault, reference_fault, repeated_keys, table_fault}
use Rattle.vkg_tables.specs.Field.{cell_of_csv}
use Rattle.vkg_tables.specs.Seen.{Seen, columns_of, loaded, placed, with_read}
use Rattle.vkg_tables.specs.TableFile.{fault, faults_of_read, field_faults, field_under, file_faults, file_rows, not_once_faults, record_faults, row_faults, table_of_bytes, unknown_faults}
use Rattle.vkg_tables.specs.declared.fault.FileFault.{FileFault}
use Rattle.vkg_tables.specs.declared.fault.TableFault.{TableFault}
use Rattle.vkg_tables.specs.declared.load.TheConstants.{MOST_BYTES}
use Rattle.vkg_turtle.specs.Reading.{IsFaultOf as IsTurtleFault, fault_if as turtle_if, fault_of as turtle_fault, lexical as turtle_lexical, too_deep as turtle_too_deep, no_text as turtle_no_text, no_document}
use Rattle.vkg_turtle.specs.declared.document.Document.{Document}
use Rattle.vkg_turtle.specs.declared.reading.TurtleFault.{TurtleFault}
use Rattle.vkg_sparql.specs.Reading.{IsFaultOf as IsQueryFault, Read, fault_if as query_if, fault_of as query_fault, is_outside, limit_over, lexical as query_lexical, too_deep as query_too_deep, dead, cut_off, checked, kind_at, meanings}
use Rattle.vkg_sparql.specs.declared.checks.Check.TheVariants.{Unknown, Relative, Float, Wide}
use Rattle.vkg_sparql.specs.Checks.{first_place, label_again, slice_over}
use Rattle.vkg_sparql.specs.declared.fault.QueryFault.{QueryFault}
use Rattle.vkg_sparql.specs.declared.scopes.Scope.{Scope}
use Rattle.vkg_sparql.specs.Scopes.{query_scope}
use Rattle.vkg_maps.specs.declared.data_fault.TermFault.{TermFault}
use Rattle.vkg_maps.specs.declared.data_fault.TermFault.TheVariants as term_fault
use Rattle.vkg_maps.specs.DataFaults.{check_of}
use Rattle.vkg_cli.specs.Work.{IsCheck, IsQueryCheck}

-- what holds of all that a function gives holds of the whole walk

pub each_given : {A B : Type 0} (Q : B → Type 0) (f : A → B) → ((x : A) → Q (f x)) → (xs : List A) → AllByRecursion Q (map f xs)
each_given Q f g [] = tt
each_given Q f g (x ∷ xs) = (g x, each_given Q f g xs)

each_walked : {A B : Type 0} (Q : B → Type 0) (f : A → List B) → ((x : A) → AllByRecursion Q (f x)) → (xs : List A) → AllByRecursion Q (flat_map f xs)
each_walked Q f g [] = tt
each_walked Q f g (x ∷ xs) = recursion_append Q (f x) (flat_map f xs) (g x) (each_walked Q f g xs)

-- S01 to S15

failed_in : (check : ℕ) (o : Option ℕ) (later : Option (ℕ × ℕ)) → IsCheck 1 15 check → IfSome later (λ p. IsCheck 1 15 p.0) → IfSome (failed check o later) (λ p. IsCheck 1 15 p.0)
failed_in check None later is rest = rest
failed_in check (Some at) later is rest = is

-- the first of some checks that fails
abbrev among : List (ℕ × Option ℕ) → Option (ℕ × ℕ)
among [] = None
among (c ∷ cs) = failed c.0 c.1 (among cs)

among_in : (cs : List (ℕ × Option ℕ)) → AllByRecursion (λ c. IsCheck 1 15 c.0) cs → IfSome (among cs) (λ p. IsCheck 1 15 p.0)
among_in [] h = tt
among_in (c ∷ cs) h = failed_in c.0 c.1 (among cs) h.0 (among_in cs h.1)

first_in : (w : List WrittenTable) → IfSome (first_fault w) (λ p. IsCheck 1 15 p.0)
first_in w =
    let names : List (ℕ × Option ℕ) = (3, table_twice w) ∷ (4, column_twice w) ∷ (5, type_unknown w) ∷ (6, precision_wrong w) ∷ (7, key_column_unknown w) ∷ (8, key_column_twice w)
    ∷ (9, primary_twice w) ∷ (10, table_unknown w) ∷ (11, columns_wrong w) ∷ (12, no_key w) ∷ (13, families_differ w) ∷ (14, limit_passed w) ∷ [] in
    among_in names (
      (omega arith, omega arith),
      (
        (omega arith, omega arith),
        (
          (omega arith, omega arith),
          (
            (omega arith, omega arith),
            (
              (omega arith, omega arith),
              (
                (omega arith, omega arith),
                ((omega arith, omega arith), ((omega arith, omega arith), ((omega arith, omega arith), ((omega arith, omega arith), ((omega arith, omega arith), ((omega arith, omega arith), tt)))))),
              ),
            ),
          ),
        ),
      ),
    )

pub schema_number : (text : List ℕ) (f : SchemaFault) → IsSchemaFault text f → IsCheck 1 15 f.check
schema_number text f (schema_no_utf8 n e) = (omega arith, omega arith)
schema_number text f (schema_no_token u e) = (omega arith, omega arith)
schema_number text f (schema_no_text u n) = (omega arith, omega arith)
schema_number text f (no_schema written u d e) = subst (λ o. IfSome o (λ p. IsCheck 1 15 p.0)) e (first_in written)

-- M01 to M05

turtle_in : (d : Document) → IfSome (turtle_fault d) (λ f. IsCheck 1 22 f.check)
turtle_in d = first d.unknown d.relative
  where
    second : (relative : Option ℕ) → IfSome (turtle_if 5 relative None) (λ f. IsCheck 1 22 f.check)
    second None = tt
    second (Some at) = (omega arith, omega arith)

    first : (unknown relative : Option ℕ) → IfSome (turtle_if 4 unknown (turtle_if 5 relative None)) (λ f. IsCheck 1 22 f.check)
    first None relative = second relative
    first (Some at) relative = (omega arith, omega arith)

pub turtle_number : (text base : List ℕ) (f : TurtleFault) → IsTurtleFault text base f → IsCheck 1 22 f.check
turtle_number text base f (turtle_lexical b) = (omega arith, omega arith)
turtle_number text base f (turtle_too_deep u e) = (omega arith, omega arith)
turtle_number text base f (turtle_no_text u e) = (omega arith, omega arith)
turtle_number text base f (no_document document u d e) = subst (λ o. IfSome o (λ f. IsCheck 1 22 f.check)) e (turtle_in document)

-- Q01 to Q12

pub is_limit : IsQueryCheck 9
is_limit = (omega arith, omega arith)

query_in : (r : Read) → IfSome (query_fault r) (λ f. IsQueryCheck f.check)
query_in r =
    let s : Scope = query_scope (meanings r) r.lexemes r.tree in
    by (first_place Unknown r.environment r.body) (option_or r.environment.relative (first_place Relative r.environment r.body)) (label_again r.body) (first_place Float r.environment r.body) (first_place Wide r.environment r.body) (limit_over r)
    s.uneven s.again (slice_over r.body)
  where
    of_parts : (table bound slice : Option ℕ) → IfSome (query_if 10 table (query_if 11 bound (query_if 12 slice None))) (λ f. IsQueryCheck f.check)
    of_parts (Some at) bound slice = (omega arith, omega arith)
    of_parts None (Some at) slice = (omega arith, omega arith)
    of_parts None None (Some at) = (omega arith, omega arith)
    of_parts None None None = tt

    by : (prefix iri label datatype number limit table bound slice : Option ℕ)
        → IfSome (option_or (query_if 4 prefix (query_if 5 iri (query_if 6 label (query_if 7 datatype (query_if 8 number (query_if 9 limit None)))))) (query_if 10 table (query_if 11 bound (query_if 12 slice None)))) (λ f. IsQueryCheck f.check)
    by (Some at) iri label datatype number limit table bound slice = (omega arith, omega arith)
    by None (Some at) label datatype number limit table bound slice = (omega arith, omega arith)
    by None None (Some at) datatype number limit table bound slice = (omega arith, omega arith)
    by None None None (Some at) number limit table bound slice = (omega arith, omega arith)
    by None None None None (Some at) limit table bound slice = (omega arith, omega arith)
    by None None None None None (Some at) table bound slice = is_limit
    by None None None None None None table bound slice = of_parts table bound slice

dead_in : (b : Bool) → IsQueryCheck (if b then 7 else 2)
dead_in true = (omega arith, omega arith)
dead_in false = (omega arith, omega arith)

pub query_number : (text base : List ℕ) (f : QueryFault) → IsQueryFault text base f → IsQueryCheck f.check
query_number text base f (query_lexical b) = (omega arith, omega arith)
query_number text base f (query_too_deep u e) = (omega arith, omega arith)
query_number text base f (dead u d) = subst (λ (g : QueryFault). IsQueryCheck g.check) (sym d.named) (dead_in (is_outside (kind_at d.tokens d.token)))
query_number text base f (cut_off u e is) = (omega arith, omega arith)
query_number text base f (checked r u d e) = subst (λ o. IfSome o (λ f. IsQueryCheck f.check)) e (query_in r)

-- T01 to T11

abbrev OfFile : FileFault → Type 0
OfFile f = IsCheck 1 11 f.check

all_if : (b : Bool) (xs ys : List FileFault) → AllByRecursion OfFile xs → AllByRecursion OfFile ys → AllByRecursion OfFile (if b then xs else ys)
all_if true xs ys h k = h
all_if false xs ys h k = k

-- one fault, or none
one_if : (b : Bool) (check row column : ℕ) → IsCheck 1 11 check → AllByRecursion OfFile (if b then fault check row column ∷ [] else [])
one_if true check row column is = (is, tt)
one_if false check row column is = tt

one_unless : (b : Bool) (check row column : ℕ) → IsCheck 1 11 check → AllByRecursion OfFile (if b then [] else fault check row column ∷ [])
one_unless true check row column is = tt
one_unless false check row column is = (is, tt)

read_all : (column : Column) (row place : ℕ) (r : Result Cell FieldFault) → AllByRecursion OfFile (faults_of_read column row place r)
read_all column row place (Ok c) = one_if (is_null c && column.not_null) 7 row place (omega arith, omega arith)
read_all column row place (Err BadValue) = ((omega arith, omega arith), tt)
read_all column row place (Err TooWide) = ((omega arith, omega arith), tt)
read_all column row place (Err Memory) = ((omega arith, omega arith), tt)

row_all : (header : List (List ℕ)) (columns : List Column) (row : ℕ) (fields : List (List ℕ)) → AllByRecursion OfFile (row_faults header columns row fields)
row_all header columns row fields =
    all_if (length fields == length header) (flat_map (λ c. field_faults c.1 row c.0 (field_under header fields c.1)) (enumerate_from 1 columns)) (fault 4 row 0 ∷ [])
    (each_walked OfFile (λ c. field_faults c.1 row c.0 (field_under header fields c.1)) (λ c. read_all c.1 row c.0 (cell_of_csv c.1.kind (field_under header fields c.1))) (enumerate_from 1 columns))
    ((omega arith, omega arith), tt)

unknown_all : (columns : List Column) (header : List (List ℕ)) → AllByRecursion OfFile (unknown_faults columns header)
unknown_all columns header =
    each_walked OfFile (λ f. if list_any (λ c. bytes_eq c.name f.1) columns then [] else fault 2 0 f.0 ∷ [])
    (λ f. one_unless (list_any (λ c. bytes_eq c.name f.1) columns) 2 0 f.0 (omega arith, omega arith)) (enumerate_from 1 header)

not_once_all : (columns : List Column) (header : List (List ℕ)) → AllByRecursion OfFile (not_once_faults columns header)
not_once_all columns header =
    each_walked OfFile (λ c. if count_by (λ f. bytes_eq f c.1.name) header == 1 then [] else fault 3 0 c.0 ∷ [])
    (λ c. one_unless (count_by (λ f. bytes_eq f c.1.name) header == 1) 3 0 c.0 (omega arith, omega arith)) (enumerate_from 1 columns)

record_all : (columns : List Column) (rs : List (List (List ℕ))) → AllByRecursion OfFile (record_faults columns rs)
record_all columns [] = ((omega arith, omega arith), tt)
record_all columns (header ∷ rows) =
    let read = flat_map (λ r. row_faults header columns r.0 r.1) (enumerate_from 1 rows) in
    recursion_append OfFile (unknown_faults columns header) (not_once_faults columns header ++ read) (unknown_all columns header)
    (recursion_append OfFile (not_once_faults columns header) read (not_once_all columns header)
    (each_walked OfFile (λ r. row_faults header columns r.0 r.1) (λ r. row_all header columns r.0 r.1) (enumerate_from 1 rows)))

file_all : (columns : List Column) (bytes : List ℕ) → AllByRecursion OfFile (file_faults columns bytes)
file_all columns bytes = all_if (nat_lt MOST_BYTES (length bytes)) (fault 11 0 0 ∷ []) _ ((omega arith, omega arith), tt) (all_if (is_utf8 bytes) _ (fault 5 0 0 ∷ []) (record_all columns _) ((omega arith, omega arith), tt))

first_found : {A F : Type 0} (o : Option F) (v : A) (f : F) → ◌≡◌ {A = Result A F} (unless o (Ok v)) (Err f) → o ≡ Some f
first_found (Some x) v f e = cc e
first_found None v f e = absurd (ok_err v f e)

read_number : (columns : List Column) (bytes : List ℕ) (f : FileFault) → table_of_bytes columns bytes ≡ Err f → OfFile f
read_number columns bytes f e =
    recursion_get OfFile (file_faults columns bytes) 0 f (file_all columns bytes) (first_found (slice_get (file_faults columns bytes) 0) (file_rows columns bytes) f e)

pub loaded_number : (db : Seen) (k : ℕ) (bytes : List ℕ) (f : TableFault) → loaded db k bytes ≡ Err f → IsCheck 1 11 f.check
loaded_number db k bytes f e = by (table_of_bytes (columns_of db.schema k) bytes) (read_number (columns_of db.schema k) bytes) e
  where
    by : (r : Result (List Row) FileFault) → ((g : FileFault) → r ≡ Err g → OfFile g) → with_read db k r ≡ Err f → IsCheck 1 11 f.check
    by (Ok rows) of is = absurd (ok_err _ f is)
    by (Err g) of is = subst (λ (t : TableFault). IsCheck 1 11 t.check) (err_same {A = Seen} (placed k g) f is) (of g refl)

over_all : (check : ℕ) (places : Table → List Row → List (ℕ × ℕ)) (tables : List Table) (db : List (List Row)) → IsCheck 1 11 check
    → AllByRecursion (λ (f : TableFault). IsCheck 1 11 f.check) (faults_over check places tables db)
over_all check places tables db is =
    each_walked (λ (f : TableFault). IsCheck 1 11 f.check) (λ t. map (table_fault check t.0) (places t.1.0 t.1.1))
    (λ t. each_given (λ (f : TableFault). IsCheck 1 11 f.check) (table_fault check t.0) (λ p. is) (places t.1.0 t.1.1)) (enumerate_from 1 (zip tables db))

pub key_number : (tables : List Table) (db : List (List Row)) (f : TableFault) → key_fault tables db ≡ Some f → IsCheck 1 11 f.check
key_number tables db f e =
    recursion_get (λ (g : TableFault). IsCheck 1 11 g.check) (faults_over 9 repeated_keys tables db) 0 f (over_all 9 repeated_keys tables db (omega arith, omega arith)) e

pub reference_number : (tables : List Table) (db : List (List Row)) (f : TableFault) → reference_fault tables db ≡ Some f → IsCheck 1 11 f.check
reference_number tables db f e =
    recursion_get (λ (g : TableFault). IsCheck 1 11 g.check) (faults_over 10 (broken_references db) tables db) 0 f (over_all 10 (broken_references db) tables db (omega arith, omega arith)) e

-- X01 to X03

pub data_number : (f : TermFault) → IsCheck 1 3 (check_of f)
data_number term_fault.NotIri = (omega arith, omega arith)
data_number term_fault.IllTyped = (omega arith, omega arith)
data_number term_fault.TooWide = (omega arith, omega arith)
