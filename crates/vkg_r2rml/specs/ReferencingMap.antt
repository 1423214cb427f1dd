-- Referencing object maps (R2RML, 8).
use Rattle.std.specs.Prelude.{ℕ, List, [], ◌∷◌, ◌++◌, codes, map, slice_get, Option, Some, None, Ok, Err, ok_or, if◌then◌else◌, ◌==◌}
use Rattle.std.specs.Option.{option_and_then, option_map_or}
use Rattle.std.specs.Result.{result_ok}
use Rattle.vkg_terms.specs.declared.term.Term.{Term}
use Rattle.vkg_cells.specs.Order.{family}
use Rattle.vkg_turtle.specs.declared.triple.Triple.{Triple}
use Rattle.vkg_schema.specs.declared.table.Table.{Table}
use Rattle.vkg_schema.specs.declared.table.Column.{Column}
pub use Rattle.vkg_schema.specs.Kinds.{columns_of}
use Rattle.vkg_maps.specs.declared.mapping.ObjectMap.{ObjectMap}
use Rattle.vkg_maps.specs.declared.mapping.ObjectMap.TheVariants.{Parent}
use Rattle.vkg_term_maps.specs.Vocabulary.{rr}
use Rattle.vkg_term_maps.specs.Graph.{objects}
use Rattle.vkg_term_maps.specs.Columns.{column_of}
use Rattle.vkg_term_maps.specs.TermMaps.{text_of}
use Rattle.vkg_r2rml.specs.declared.map_node.MapNode.{MapNode}
use Rattle.vkg_r2rml.specs.Checked.{Checked, both, all_of, and_then, exactly_one, none_of}
use Rattle.vkg_r2rml.specs.TriplesMaps.{place_of, table_at}

-- R2RML, 8: a referencing object map is no term map
abbrev pub no_term_map : List Triple → Term → Checked (List Term)
no_term_map triples node =
    none_of 11 (objects triples node (rr (codes "constant")) ++ objects triples node (rr (codes "column")) ++ objects triples node (rr (codes "template")))

-- R2RML, 8: exactly one parent, which is a triples map, by its place
abbrev pub parent_of : List MapNode → List Term → Checked ℕ
parent_of maps parents = and_then (exactly_one 18 parents) (λ p. ok_or (place_of maps p) 18)

-- the parent's table, where both are known
abbrev pub table_of_parent : List MapNode → Checked ℕ → Option ℕ
table_of_parent maps parent = option_and_then (table_at maps) (result_ok parent)

-- R2RML, 8: the value of rr:child or rr:parent is a column's name
abbrev pub column_named : List Column → Term → Option ℕ
column_named columns t = option_and_then (column_of columns) (text_of t)

-- own: where the table is not known the column is not asked, and 0 stands for it
abbrev pub column_if_known : List Table → Option ℕ → Term → Checked ℕ
column_if_known schema None t = Ok 0
column_if_known schema (Some table) t = ok_or (column_named (columns_of schema table) t) 12

-- R2RML, 8: each value names a column, and there is exactly one
abbrev pub side : List Table → Option ℕ → List Term → Checked ℕ
side schema table values = and_then (all_of (map (column_if_known schema table) values)) (exactly_one 19)

-- the family of a column's kind, and 0 where there is no column
abbrev pub family_at : List Table → ℕ → ℕ → ℕ
family_at schema table column = option_map_or (λ c. family c.kind) (slice_get (columns_of schema table) column) 0

-- own: the two columns are of one family
abbrev pub comparable : List Table → ℕ → Option ℕ → (ℕ × ℕ) → Checked (ℕ × ℕ)
comparable schema table None p = Ok p
comparable schema table (Some parent) p = if family_at schema table p.0 == family_at schema parent p.1 then Ok p else Err 20

-- R2RML, 8, join condition: a column of the child and one of the parent
abbrev pub condition : List Triple → List Table → ℕ → Option ℕ → Term → Checked (ℕ × ℕ)
condition triples schema table parent node =
    and_then
    (both (side schema (Some table) (objects triples node (rr (codes "child")))) (side schema parent (objects triples node (rr (codes "parent")))))
    (comparable schema table parent)

-- R2RML, 8: without a condition the parent's subject map is applied to the child's row, which needs one table
abbrev pub same_table : ℕ → Option ℕ → Checked (List (ℕ × ℕ))
same_table table None = Ok []
same_table table (Some parent) = if table == parent then Ok [] else Err 19

abbrev pub conditions : List Triple → List Table → ℕ → Option ℕ → List Term → Checked (List (ℕ × ℕ))
conditions triples schema table parent [] = same_table table parent
conditions triples schema table parent (node ∷ nodes) = all_of (map (condition triples schema table parent) (node ∷ nodes))

-- the parent, and the conditions over its table
abbrev pub reference : List Triple → List Table → List MapNode → ℕ → Checked ℕ → List Term → Checked (ℕ × List (ℕ × ℕ))
reference triples schema maps table parent nodes = both parent (conditions triples schema table (table_of_parent maps parent) nodes)

-- R2RML, 8: a referencing object map
abbrev pub referencing_map : List Triple → List Table → List MapNode → ℕ → Term → List Term → Checked ObjectMap
referencing_map triples schema maps table node parents =
    and_then
    (both (no_term_map triples node) (reference triples schema maps table (parent_of maps parents) (objects triples node (rr (codes "joinCondition")))))
    (λ made. Ok (Parent made.1.0 made.1.1))
