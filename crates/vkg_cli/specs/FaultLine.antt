-- The lines of the standard error: `vkg: `, the code of the check, its words, ` at ` and the places.
use Rattle.std.specs.Prelude.{ℕ, List, [], ◌++◌, ◌∷◌, codes, decimal, slice_get, unwrap_or}
use Rattle.vkg_base.specs.declared.status.Status.{Status}
use Rattle.vkg_base.specs.declared.status.Status.TheVariants.{BadSchema, BadTable, BadMapping, BadData, BadQuery}
use Rattle.vkg_cli.specs.declared.stops.Fault.{Fault}
use Rattle.vkg_cli.specs.declared.stops.Fault.TheVariants.{Schema, Table, Keyless, Mapping, Data, Query}
use Rattle.vkg_cli.specs.declared.stops.Usage.{Usage}
use Rattle.vkg_cli.specs.declared.stops.Usage.TheVariants.{Words, Base}

-- the codes and the words of the checks of a schema, by their number
abbrev pub schema_checks : List (List ℕ)
schema_checks =
    [] ∷ codes "S01 lexical" ∷ codes "S02 grammar" ∷ codes "S03 table named twice" ∷ codes "S04 column named twice" ∷
    codes "S05 type unknown" ∷ codes "S06 precision" ∷ codes "S07 key column unknown" ∷ codes "S08 key column twice" ∷
    codes "S09 second primary key" ∷ codes "S10 reference table unknown" ∷ codes "S11 reference columns" ∷ codes "S12 target is no key" ∷
    codes "S13 types incomparable" ∷ codes "S14 limit" ∷ codes "S15 not UTF-8" ∷ []

-- of tables
abbrev pub table_checks : List (List ℕ)
table_checks =
    [] ∷ codes "T01 no header" ∷ codes "T02 column unknown" ∷ codes "T03 column twice or missing" ∷ codes "T04 row length" ∷
    codes "T05 not UTF-8" ∷ codes "T06 bad value" ∷ codes "T07 NULL not allowed" ∷ codes "T08 number too wide" ∷ codes "T09 key repeated" ∷
    codes "T10 reference without target" ∷ codes "T11 limit" ∷ []

-- of a mapping
abbrev pub mapping_checks : List (List ℕ)
mapping_checks =
    [] ∷ codes "M01 lexical" ∷ codes "M02 grammar" ∷ codes "M03 too deep" ∷ codes "M04 prefix unknown" ∷ codes "M05 bad IRI" ∷
    codes "M06 logical table" ∷ codes "M07 table name" ∷ codes "M08 view" ∷ codes "M09 table unknown" ∷ codes "M10 subject map" ∷
    codes "M11 term map kind" ∷ codes "M12 column unknown" ∷ codes "M13 bad template" ∷ codes "M14 doubtful template" ∷
    codes "M15 term type" ∷ codes "M16 language or datatype" ∷ codes "M17 predicate or object missing" ∷ codes "M18 parent unknown" ∷
    codes "M19 condition missing" ∷ codes "M20 incomparable columns" ∷ codes "M21 no triples map" ∷ codes "M22 limit" ∷ []

-- of the terms that a mapping makes of rows
abbrev pub data_checks : List (List ℕ)
data_checks =
    [] ∷ codes "X01 not an IRI" ∷ codes "X02 ill-typed" ∷ codes "X03 number too wide" ∷ []

-- of a query
abbrev pub query_checks : List (List ℕ)
query_checks =
    [] ∷ codes "Q01 lexical" ∷ codes "Q02 grammar" ∷ codes "Q03 too deep" ∷ codes "Q04 prefix unknown" ∷ codes "Q05 bad IRI" ∷
    codes "Q06 blank label in two patterns" ∷ codes "Q07 outside the profile" ∷ codes "Q08 number too wide" ∷ codes "Q09 limit" ∷
    codes "Q10 values width" ∷ codes "Q11 variable in use" ∷ codes "Q12 slice number" ∷ []

-- the code and the words of a check, by its number
abbrev pub words_at : List (List ℕ) → ℕ → List ℕ
words_at checks check = unwrap_or (slice_get checks check) []

abbrev pub schema_words : ℕ → List ℕ
schema_words check = words_at schema_checks check

abbrev pub table_words : ℕ → List ℕ
table_words check = words_at table_checks check

abbrev pub mapping_words : ℕ → List ℕ
mapping_words check = words_at mapping_checks check

abbrev pub data_words : ℕ → List ℕ
data_words check = words_at data_checks check

abbrev pub query_words : ℕ → List ℕ
query_words check = words_at query_checks check

-- the line of a fault with one place
abbrev pub place_line : List ℕ → ℕ → List ℕ
place_line words at = codes "vkg: " ++ words ++ codes " at " ++ decimal at ++ codes "\n"

-- the line of a fault with three places
abbrev pub places_line : List ℕ → ℕ → ℕ → ℕ → List ℕ
places_line words first second third = codes "vkg: " ++ words ++ codes " at " ++ decimal first ++ codes ":" ++ decimal second ++ codes ":" ++ decimal third ++ codes "\n"

abbrev pub fault_line : Fault → List ℕ
fault_line (Schema check at) = place_line (schema_words check) at
fault_line (Table check table row column) = places_line (table_words check) table row column
fault_line (Keyless table) = place_line (codes "D01 no primary key") table
fault_line (Mapping check at) = place_line (mapping_words check) at
fault_line (Data check map row term) = places_line (data_words check) map row term
fault_line (Query check at) = place_line (query_words check) at

abbrev pub status_of : Fault → Status
status_of (Schema check at) = BadSchema
status_of (Table check table row column) = BadTable
status_of (Keyless table) = BadMapping
status_of (Mapping check at) = BadMapping
status_of (Data check map row term) = BadData
status_of (Query check at) = BadQuery

-- the line of words that are not taken
abbrev pub usage_line : Usage → List ℕ
usage_line Words = codes "vkg: words not taken\n"
usage_line Base = codes "vkg: base is not an absolute IRI\n"
