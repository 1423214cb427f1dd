-- The logical table of a triples map (R2RML, 5).
use Rattle.std.specs.Prelude.{ℕ, List, [], ◌∷◌, codes, position, Option, Ok, Err, ok_or, if◌then◌else◌}
use Rattle.vkg_terms.specs.declared.term.Term.{Term}
use Rattle.vkg_terms.specs.declared.term.Term.TheVariants.{Lit}
use Rattle.vkg_terms.specs.declared.term.Annotation.TheVariants.{Plain}
use Rattle.vkg_terms.specs.Name.{is_name}
use Rattle.vkg_turtle.specs.declared.triple.Triple.{Triple}
use Rattle.vkg_schema.specs.declared.table.Table.{Table}
use Rattle.vkg_term_maps.specs.Vocabulary.{rr}
use Rattle.vkg_term_maps.specs.Graph.{objects}
use Rattle.vkg_term_maps.specs.Columns.{means}
use Rattle.vkg_r2rml.specs.Checked.{Checked, and_then, exactly_one, resource}

-- R2RML, 5.1 and 5.2: the name of one table, or one query; own: a query is refused
abbrev pub source : List Term → List Term → Checked Term
source (name ∷ []) [] = Ok name
source [] (query ∷ []) = Err 8
source names queries = Err 7

-- the place of the table that a text names
abbrev pub table_of_text : List Table → List ℕ → Option ℕ
table_of_text schema text = position (λ t. means text t.name) schema

-- R2RML, 5.1: a plain literal that is a name, and one of a table
abbrev pub table_named : List Table → Term → Checked ℕ
table_named schema (Lit text Plain) = if is_name text then ok_or (table_of_text schema text) 9 else Err 7
table_named schema t = Err 7

-- the table of the node of a logical table
abbrev pub table_of_node : List Triple → List Table → Term → Checked ℕ
table_of_node triples schema node =
    and_then (source (objects triples node (rr (codes "tableName"))) (objects triples node (rr (codes "sqlQuery")))) (table_named schema)

-- R2RML, 6: a triples map has exactly one logical table
abbrev pub table_of : List Triple → List Table → Term → Checked ℕ
table_of triples schema m =
    and_then (exactly_one 6 (objects triples m (rr (codes "logicalTable")))) (λ t. and_then (resource 6 t) (table_of_node triples schema))
