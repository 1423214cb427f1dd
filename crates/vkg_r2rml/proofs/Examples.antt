-- Worked examples: mappings with referencing object maps, by hand.
use Rattle.std.specs.Prelude.{◌≡◌, refl, ℕ, List, [], ◌∷◌, ◌++◌, codes, Ok, Err, false}
use Rattle.vkg_terms.specs.declared.term.Term.{Term}
use Rattle.vkg_terms.specs.declared.term.Term.TheVariants.{Iri, Blank, Lit}
use Rattle.vkg_terms.specs.declared.term.Annotation.TheVariants.{Plain}
use Rattle.vkg_cells.specs.declared.cell.SqlType.{SqlType}
use Rattle.vkg_cells.specs.declared.cell.SqlType.TheVariants as kind
use Rattle.vkg_turtle.specs.declared.triple.Triple.{Triple}
use Rattle.vkg_schema.specs.declared.table.Table.{Table}
use Rattle.vkg_schema.specs.declared.table.Column.{Column}
use Rattle.vkg_schema.specs.Company.{base}
use Rattle.vkg_maps.specs.declared.mapping.TriplesMap.{TriplesMap}
use Rattle.vkg_maps.specs.declared.mapping.ObjectMap.TheVariants as object
use Rattle.vkg_maps.specs.declared.term_map.TermMap.{TermMap}
use Rattle.vkg_maps.specs.declared.term_map.TermMap.TheVariants as from
use Rattle.vkg_maps.specs.declared.term_map.Piece.TheVariants.{Fixed, Column as Hole}
use Rattle.vkg_maps.specs.declared.term_map.TermType.TheVariants as sort
use Rattle.vkg_term_maps.specs.Vocabulary.{rr}
use Rattle.vkg_r2rml.specs.Mapping.{fault, mapping_of}

abbrev column : List ℕ → SqlType → Column
column name k = record { name = name; kind = k; not_null = false }

abbrev table : List ℕ → List Column → Table
table name columns = record { name = name; columns = columns; keys = []; references = [] }

abbrev schema : List Table
schema =
    table (codes "dept") (column (codes "id") kind.Int ∷ column (codes "title") kind.Text ∷ [])
    ∷ table (codes "emp") (column (codes "id") kind.Int ∷ column (codes "name") kind.Text ∷ column (codes "dept") kind.Int ∷ []) ∷ []

abbrev node : List ℕ → Term
node label = Blank label

abbrev is : Term → List ℕ → Term → Triple
is s p o = record { subject = s; predicate = Iri (rr p); object = o; at = 0 }

-- a triples map over a table, with this template for its subjects
abbrev map_over : List ℕ → List ℕ → List ℕ → List Triple
map_over m name template =
    is (node m) (codes "logicalTable") (node (m ++ codes "t"))
    ∷ is (node (m ++ codes "t")) (codes "tableName") (Lit name Plain)
    ∷ is (node m) (codes "subjectMap") (node (m ++ codes "s"))
    ∷ is (node (m ++ codes "s")) (codes "template") (Lit template Plain) ∷ []

-- map 1 over emp, whose objects are the subjects of map 2 over dept
abbrev graph : List Triple → List Triple
graph conditions =
    map_over (codes "m") (codes "emp") (codes "http://e/emp/{id}") ++ map_over (codes "d") (codes "dept") (codes "http://e/d/{id}")
    ++ is (node (codes "m")) (codes "predicateObjectMap") (node (codes "p"))
    ∷ is (node (codes "p")) (codes "predicate") (Iri (codes "http://e/in"))
    ∷ is (node (codes "p")) (codes "objectMap") (node (codes "o"))
    ∷ is (node (codes "o")) (codes "parentTriplesMap") (node (codes "d")) ∷ conditions

abbrev condition : List ℕ → List ℕ → List Triple
condition child parent =
    is (node (codes "o")) (codes "joinCondition") (node (codes "j"))
    ∷ is (node (codes "j")) (codes "child") (Lit child Plain)
    ∷ is (node (codes "j")) (codes "parent") (Lit parent Plain) ∷ []

abbrev subject : List ℕ → TermMap
subject text = from.Template (Fixed text ∷ Hole 0 ∷ []) sort.Iri

abbrev emp_map : TriplesMap
emp_map = record {
  table = 1;
  subject = subject (codes "http://e/emp/");
  classes = [];
  graphs = [];
  predicate_objects =
      record { predicates = from.Constant (Iri (codes "http://e/in")) ∷ []; objects = object.Parent 1 ((2, 0) ∷ []) ∷ []; graphs = [] } ∷ [];
}

abbrev dept_map : TriplesMap
dept_map = record { table = 0; subject = subject (codes "http://e/d/"); classes = []; graphs = []; predicate_objects = [] }

-- a condition of the child's dept and the parent's id
joined : mapping_of (graph (condition (codes "dept") (codes "id"))) schema base ≡ Ok (record { base = base; maps = emp_map ∷ dept_map ∷ [] })
joined = refl

-- no condition, and another table
no_condition : mapping_of (graph []) schema base ≡ Err (fault 19 1)
no_condition = refl

-- a text and a number
incomparable : mapping_of (graph (condition (codes "name") (codes "id"))) schema base ≡ Err (fault 20 1)
incomparable = refl

-- nothing is said of a triples map
empty : mapping_of [] schema base ≡ Err (fault 21 0)
empty = refl
