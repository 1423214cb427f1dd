-- The direct mapping as an R2RML mapping, one triples map for each table.
use Rattle.std.specs.Prelude.{ℕ, ◌+◌, length, nat_lt, if◌then◌else◌, List, [], ◌∷◌, ◌++◌, codes, flat_map, map, Bool, not, Option, Some, None, Result, Ok, Err, position}
use Rattle.std.specs.List.{enumerate_from, list_any}
use Rattle.vkg_terms.specs.declared.term.Term.TheVariants.{Iri}
use Rattle.vkg_terms.specs.Safe.{safe}
use Rattle.vkg_cells.specs.Form.{natural}
use Rattle.vkg_schema.specs.declared.table.Table.{Table}
use Rattle.vkg_schema.specs.declared.table.Column.{Column}
use Rattle.vkg_schema.specs.declared.table.Reference.{Reference}
use Rattle.vkg_maps.specs.declared.mapping.Mapping.{Mapping}
use Rattle.vkg_maps.specs.declared.mapping.TriplesMap.{TriplesMap}
use Rattle.vkg_maps.specs.declared.mapping.PredicateObjectMap.{PredicateObjectMap}
use Rattle.vkg_maps.specs.declared.mapping.ObjectMap.{ObjectMap}
use Rattle.vkg_maps.specs.declared.mapping.ObjectMap.TheVariants as object
use Rattle.vkg_maps.specs.declared.term_map.TermMap.TheVariants as from
use Rattle.vkg_maps.specs.declared.term_map.Piece.{Piece}
use Rattle.vkg_maps.specs.declared.term_map.Piece.TheVariants.{Fixed, Column as Hole}
use Rattle.vkg_maps.specs.declared.term_map.TermType.TheVariants as sort
use Rattle.vkg_maps.specs.QuadRules.{quad_rules, rule_limit}
use Rattle.vkg_direct.specs.declared.direct_error.DirectError.{DirectError}
use Rattle.vkg_direct.specs.declared.direct_error.DirectError.TheVariants.{NoPrimaryKey, TooManyRules}
use Rattle.vkg_direct.specs.DirectGraph.{primary_key, column_name, table_iri, column_iri, reference_iri}

-- `name=` and the column's value
abbrev pub node_pieces : Table → List ℕ → ℕ → List Piece
node_pieces table sign column = Fixed (sign ++ safe (column_name table column) ++ codes "=") ∷ Hole column ∷ []

-- the pieces of the row node's template: `/` before the first column of the key, `;` before each later one
abbrev pub key_pieces : Table → List ℕ → List Piece
key_pieces table [] = []
key_pieces table (c ∷ cs) = node_pieces table (codes "/") c ++ flat_map (node_pieces table (codes ";")) cs

abbrev pub property : List ℕ → ObjectMap → PredicateObjectMap
property iri o = record { predicates = from.Constant (Iri iri) ∷ []; objects = o ∷ []; graphs = [] }

abbrev pub column_property : List ℕ → Table → (ℕ × Column) → PredicateObjectMap
column_property base table c = property (column_iri base table c.1) (object.Term (from.Column c.0 (sort.Literal (natural c.1.kind))))

abbrev pub reference_property : List ℕ → Table → Reference → PredicateObjectMap
reference_property base table reference = property (reference_iri base table reference) (object.Parent reference.table reference.pairs)

abbrev pub properties_of : List ℕ → Table → List PredicateObjectMap
properties_of base table = map (column_property base table) (enumerate_from 0 table.columns) ++ map (reference_property base table) table.references

abbrev pub direct_map : List ℕ → (ℕ × Table) → TriplesMap
direct_map base t = record {
  table = t.0;
  subject = from.Template (Fixed (table_iri base t.1) ∷ key_pieces t.1 (primary_key t.1)) sort.Iri;
  classes = table_iri base t.1 ∷ [];
  graphs = [];
  predicate_objects = properties_of base t.1;
}

abbrev pub maps_of : List ℕ → List Table → List TriplesMap
maps_of base tables = map (direct_map base) (enumerate_from 0 tables)

abbrev pub direct : List Table → List ℕ → Mapping
direct tables base = record { base = base; maps = maps_of base tables }

abbrev pub has_primary_key : Table → Bool
has_primary_key table = list_any (λ key. key.primary) table.keys

-- one for its class, one for each column and one for each foreign key
abbrev pub rules_of_table : Table → ℕ
rules_of_table table = 1 + length table.columns + length table.references

abbrev pub within_limit : Mapping → Result Mapping DirectError
within_limit mapping = if nat_lt rule_limit (length (quad_rules mapping)) then Err TooManyRules else Ok mapping

abbrev pub unless_keyless : Option ℕ → Result Mapping DirectError → Result Mapping DirectError
unless_keyless None mapping = mapping
unless_keyless (Some place) mapping = Err (NoPrimaryKey (place + 1))

-- own: the first table without a primary key, counted from 1, then the limit
abbrev pub direct_result : List Table → List ℕ → Result Mapping DirectError
direct_result tables base = unless_keyless (position (λ t. not (has_primary_key t)) tables) (within_limit (direct tables base))
