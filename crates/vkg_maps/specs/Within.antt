-- A mapping whose tables, columns and parents are those of a schema.
use Rattle.std.specs.Prelude.{◌≡◌, ℕ, ◌<◌, Bool, false, IsFalse, List, [], ◌∷◌, flat_map, length, IfSome, slice_get, unwrap_or}
use Rattle.std.specs.List.{AllByRecursion}
use Rattle.vkg_lists.specs.Lists.{AllBelow}
use Rattle.vkg_cells.specs.declared.cell.SqlType.{SqlType}
use Rattle.vkg_cells.specs.Order.{family}
use Rattle.vkg_cells.specs.WellTyped.{is_wide_number}
use Rattle.vkg_schema.specs.Kinds.{table_kinds}
use Rattle.vkg_schema.specs.declared.table.Table.{Table}
use Rattle.vkg_maps.specs.declared.term_map.TermMap.{TermMap}
use Rattle.vkg_maps.specs.declared.term_map.TermMap.TheVariants as from
use Rattle.vkg_maps.specs.declared.term_map.Piece.{Piece}
use Rattle.vkg_maps.specs.declared.term_map.Piece.TheVariants as piece
use Rattle.vkg_maps.specs.declared.mapping.Mapping.{Mapping}
use Rattle.vkg_maps.specs.declared.mapping.TriplesMap.{TriplesMap}
use Rattle.vkg_maps.specs.declared.mapping.PredicateObjectMap.{PredicateObjectMap}
use Rattle.vkg_maps.specs.declared.mapping.ObjectMap.{ObjectMap}
use Rattle.vkg_maps.specs.declared.mapping.ObjectMap.TheVariants as object
use Rattle.vkg_maps.specs.QuadRules.{parent_of}

-- the kinds of a table's columns, and none where there is no such table
abbrev pub kinds_at : List Table → ℕ → List SqlType
kinds_at schema table = unwrap_or (table_kinds schema table) []

-- R2RML, 7.3: the column of a piece
abbrev pub piece_columns : Piece → List ℕ
piece_columns (piece.Fixed text) = []
piece_columns (piece.Column column) = column ∷ []

-- R2RML, 7, referenced columns
abbrev pub term_columns : TermMap → List ℕ
term_columns (from.Constant term) = []
term_columns (from.Column column type) = column ∷ []
term_columns (from.Template pieces type) = flat_map piece_columns pieces

-- own: a constant that is a number of more digits than this project computes with
abbrev pub is_wide_constant : TermMap → Bool
is_wide_constant (from.Constant c) = is_wide_number c
is_wide_constant t = false

-- a term map over rows of these kinds: its columns are there, and its constant is no such number
pub record IsOver (ks : List SqlType) (t : TermMap) : Type 0 where
  pub columns : AllBelow (length ks) (term_columns t)
  pub narrow : IsFalse (is_wide_constant t)

-- R2RML, 8, join condition: a column of the child and one of the parent, which are comparable
pub record IsCondition (child parent : List SqlType) (c : ℕ × ℕ) : Type 0 where
  pub of_child : c.0 < length child
  pub of_parent : c.1 < length parent
  pub comparable : IfSome (slice_get child c.0) (λ k. IfSome (slice_get parent c.1) (λ l. family k ≡ family l))

-- R2RML, 8: without a condition the parent's subject map is applied to the child's row, which needs one table
abbrev pub AreConditions : List Table → ℕ → ℕ → List (ℕ × ℕ) → Type 0
AreConditions schema child parent [] = parent ≡ child
AreConditions schema child parent (c ∷ cs) = AllByRecursion (IsCondition (kinds_at schema child) (kinds_at schema parent)) (c ∷ cs)

abbrev pub IsObjectWithin : List Table → List TriplesMap → TriplesMap → ObjectMap → Type 0
IsObjectWithin schema maps m (object.Term t) = IsOver (kinds_at schema m.table) t
IsObjectWithin schema maps m (object.Parent k conditions) = (k < length maps) × AreConditions schema m.table (parent_of maps m k).table conditions

pub record IsPairWithin (schema : List Table) (maps : List TriplesMap) (m : TriplesMap) (po : PredicateObjectMap) : Type 0 where
  pub predicates : AllByRecursion (IsOver (kinds_at schema m.table)) po.predicates
  pub objects : AllByRecursion (IsObjectWithin schema maps m) po.objects
  pub graphs : AllByRecursion (IsOver (kinds_at schema m.table)) po.graphs

pub record IsMapWithin (schema : List Table) (maps : List TriplesMap) (m : TriplesMap) : Type 0 where
  pub table : m.table < length schema
  pub subject : IsOver (kinds_at schema m.table) m.subject
  pub graphs : AllByRecursion (IsOver (kinds_at schema m.table)) m.graphs
  pub predicate_objects : AllByRecursion (IsPairWithin schema maps m) m.predicate_objects

-- R2RML, 5.1, 7.2, 7.3 and 8: each table and column that is named is there, and each parent
abbrev pub IsWithin : List Table → Mapping → Type 0
IsWithin schema mapping = AllByRecursion (IsMapWithin schema mapping.maps) mapping.maps
