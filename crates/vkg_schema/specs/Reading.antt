-- Which bytes are a schema, and the first fault of others.
use Rattle.std.specs.Prelude.{◌≡◌, ℕ, List, IsUtf8, Some, None, Err}
use Rattle.std.specs.Str.Lossy.{utf8_valid_len}
use Rattle.vkg_tokens.specs.declared.lang.Lang.TheVariants.{Ddl}
use Rattle.vkg_tokens.specs.Cut.{tokens_of}
use Rattle.vkg_tokens.specs.Mark.{without_mark}
use Rattle.vkg_ddl.specs.declared.written.WrittenTable.{WrittenTable}
use Rattle.vkg_ddl.specs.declared.reading.TextFault.{TextFault}
use Rattle.vkg_ddl.specs.declared.reading.TextFault.TheVariants as text
use Rattle.vkg_ddl.specs.FirstFault.{first_fault}
use Rattle.vkg_ddl.specs.Reading.{Says, IsNoText}
use Rattle.vkg_schema.specs.declared.reading.SchemaError.{SchemaError}
use Rattle.vkg_schema.specs.declared.reading.SchemaError.TheVariants.{Fault, Memory}
use Rattle.vkg_schema.specs.declared.reading.SchemaFault.{SchemaFault}
use Rattle.vkg_schema.specs.declared.table.Table.{Table}
use Rattle.vkg_schema.specs.Resolve.{schema_of}

-- The text says these tables, no check fails of it, and the schema is those tables with each name resolved.
pub record IsSchemaText (text : List ℕ) (tables : List Table) : Type 0 where
  pub written : List WrittenTable
  pub utf8 : IsUtf8 text
  pub says : Says text written
  pub fine : first_fault written ≡ None
  pub resolved : tables ≡ schema_of written

abbrev pub fault : ℕ → ℕ → SchemaFault
fault check at = record { check = check; at = at }

-- The first fault of a text: what is no UTF-8, then no token, then no text of the grammar, then the checks.
pub data IsFaultOf (text : List ℕ) : SchemaFault → Type 0 where
  no_utf8 : {at : ℕ} → (IsUtf8 text → ⊥) → at ≡ utf8_valid_len text → IsFaultOf text (fault 15 at)
  no_token : {at : ℕ} → IsUtf8 text → tokens_of Ddl text ≡ Err at → IsFaultOf text (fault 1 at)
  no_text : {at : ℕ} → IsUtf8 text → IsNoText text at → IsFaultOf text (fault 2 at)
  no_schema : {check at : ℕ} (written : List WrittenTable) → IsUtf8 text → Says text written → first_fault written ≡ Some (check, at) → IsFaultOf text (fault check at)

-- these bytes are this schema
abbrev pub IsSchemaOf : List ℕ → List Table → Type 0
IsSchemaOf bytes tables = IsSchemaText (without_mark bytes) tables

-- this is the first fault of these bytes; its place is counted behind the byte order mark
abbrev pub IsFirstFault : List ℕ → SchemaFault → Type 0
IsFirstFault bytes f = IsFaultOf (without_mark bytes) f

-- what is said of a text that is none of the grammar
abbrev pub of_text : TextFault → SchemaError
of_text text.Memory = Memory
of_text (text.Lexical at) = Fault (fault 1 at)
of_text (text.Grammar at) = Fault (fault 2 at)

abbrev pub TextFails : List ℕ → SchemaError → Type 0
TextFails text Memory = Unit {0}
TextFails text (Fault f) = IsFaultOf text f

abbrev pub Fails : List ℕ → SchemaError → Type 0
Fails bytes e = TextFails (without_mark bytes) e

-- Bytes are one schema at most, and have one first fault at most, and never both.
pub record IsDetermined : Type 0 where
  pub one_value : (bytes : List ℕ) (tables others : List Table) → IsSchemaOf bytes tables → IsSchemaOf bytes others → tables ≡ others
  pub one_fault : (bytes : List ℕ) (f g : SchemaFault) → IsFirstFault bytes f → IsFirstFault bytes g → f ≡ g
  pub not_both : (bytes : List ℕ) (tables : List Table) (f : SchemaFault) → IsSchemaOf bytes tables → IsFirstFault bytes f → ⊥
