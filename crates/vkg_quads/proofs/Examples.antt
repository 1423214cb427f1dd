-- Worked examples: dumps and data errors of mappings, by hand.
use Rattle.std.specs.Prelude.{◌≡◌, refl, ℕ, List, [], ◌∷◌, ◌++◌, codes, Some}
use Rattle.std.specs.Str.{chars}
use Rattle.std.specs.Char.{encode_utf8}
use Rattle.std.specs.Fmt.{digits}
use Rattle.vkg_terms.specs.declared.term.Term.TheVariants.{Iri}
use Rattle.vkg_terms.specs.declared.term.Annotation.TheVariants.{Plain, Typed}
use Rattle.vkg_terms.specs.Vocabulary.{xsd}
use Rattle.vkg_schema.specs.Company.{base}
use Rattle.vkg_schema.specs.Rows.{equal_at, is_known}
use Rattle.vkg_maps.specs.declared.mapping.Mapping.{Mapping}
use Rattle.vkg_maps.specs.declared.mapping.PredicateObjectMap.{PredicateObjectMap}
use Rattle.vkg_maps.specs.declared.mapping.ObjectMap.{ObjectMap}
use Rattle.vkg_maps.specs.declared.mapping.ObjectMap.TheVariants as object
use Rattle.vkg_maps.specs.declared.term_map.TermMap.{TermMap}
use Rattle.vkg_maps.specs.declared.term_map.TermMap.TheVariants as from
use Rattle.vkg_maps.specs.declared.term_map.Piece.TheVariants.{Fixed, Column as Hole}
use Rattle.vkg_maps.specs.declared.term_map.TermType.TheVariants as sort
use Rattle.vkg_maps.specs.declared.data_fault.TermFault.TheVariants.{NotIri, IllTyped, TooWide}
use Rattle.vkg_maps.specs.DataFaults.{least_data_fault}
use Rattle.vkg_maps.specs.Dataset.{dataset}
use Rattle.vkg_quads.specs.Dump.{dump}
use Rattle.vkg_maps.proofs.Company.{int, text, db, i_text, a_text}

-- what the examples compute with
unfoldable opened : Unit {0}
unfolding chars encode_utf8 digits equal_at is_known
opened = tt

abbrev iri : List ℕ → TermMap
iri name = from.Constant (Iri (codes "http://e/" ++ name))

abbrev po : List ℕ → ObjectMap → PredicateObjectMap
po name o = record { predicates = iri name ∷ []; objects = o ∷ []; graphs = [] }

abbrev plain : ℕ → ObjectMap
plain column = object.Term (from.Column column (sort.Literal Plain))

-- two rows that compose one IRI make one quad
abbrev composed : Mapping
composed = record {
  base = base;
  maps = record {
    table = 0;
    subject = from.Template (Fixed (codes "http://e/") ∷ Hole 0 ∷ Fixed (codes "-") ∷ Hole 1 ∷ []) sort.Iri;
    classes = codes "http://e/C" ∷ [];
    graphs = [];
    predicate_objects = [];
  } ∷ [];
}

one_iri_of_two_rows : dump (dataset composed (((text (codes "x-y") ∷ text (codes "z") ∷ []) ∷ (text (codes "x") ∷ text (codes "y-z") ∷ []) ∷ []) ∷ []))
    ≡ (codes "<http://e/x-y-z> " ++ a_text ++ codes " <http://e/C> .") ∷ []
unfolding opened
one_iri_of_two_rows = refl

-- a column's IRI, relative and absolute
abbrev by_column : Mapping
by_column = record {
  base = base;
  maps = record {
    table = 0;
    subject = from.Column 1 sort.Iri;
    classes = [];
    graphs = [];
    predicate_objects = po (codes "k") (object.Term (from.Column 0 (sort.Literal (Typed (xsd (codes "integer")))))) ∷ [];
  } ∷ [];
}

iris_of_a_column : dump (dataset by_column (((int (codes "1") ∷ text (codes "q") ∷ []) ∷ (int (codes "2") ∷ text (codes "http://e/q") ∷ []) ∷ []) ∷ []))
    ≡ (codes "<http://e/q> <http://e/k> \"1\"^^" ++ i_text ++ codes " .") ∷ (codes "<http://e/q> <http://e/k> \"2\"^^" ++ i_text ++ codes " .") ∷ []
unfolding opened
iris_of_a_column = refl

not_an_iri : least_data_fault by_column (((int (codes "1") ∷ text (codes "q") ∷ []) ∷ (int (codes "2") ∷ text (codes "a b") ∷ []) ∷ []) ∷ [])
    ≡ Some (record { fault = NotIri; map = 1; row = 2; term = 0 })
unfolding opened
not_an_iri = refl

-- graphs by a template; NULL adds no graph
abbrev in_graphs : Mapping
in_graphs = record {
  base = base;
  maps = record {
    table = 1;
    subject = from.Template (Fixed (codes "http://e/emp/") ∷ Hole 0 ∷ []) sort.Iri;
    classes = [];
    graphs = from.Template (Fixed (codes "http://e/g/") ∷ Hole 2 ∷ []) sort.Iri ∷ [];
    predicate_objects = po (codes "name") (plain 1) ∷ [];
  } ∷ [];
}

graphs_by_template : dump (dataset in_graphs db)
    ≡ codes "<http://e/emp/7> <http://e/name> \"Ann\" <http://e/g/1> ." ∷ codes "<http://e/emp/9> <http://e/name> \"Ann\" <http://e/g/1> ." ∷ []
unfolding opened
graphs_by_template = refl

-- equal rows make one quad
abbrev constant_subject : Mapping
constant_subject = record {
  base = base;
  maps = record {
    table = 0;
    subject = iri (codes "s");
    classes = [];
    graphs = [];
    predicate_objects = po (codes "p") (plain 0) ∷ [];
  } ∷ [];
}

equal_rows : dump (dataset constant_subject (((text (codes "a") ∷ []) ∷ (text (codes "a") ∷ []) ∷ []) ∷ [])) ≡ codes "<http://e/s> <http://e/p> \"a\" ." ∷ []
unfolding opened
equal_rows = refl

-- a referencing object map
abbrev referencing : Mapping
referencing = record {
  base = base;
  maps = record {
    table = 1;
    subject = from.Template (Fixed (codes "http://e/emp/") ∷ Hole 0 ∷ []) sort.Iri;
    classes = [];
    graphs = [];
    predicate_objects = po (codes "in") (object.Parent 1 ((2, 0) ∷ [])) ∷ [];
  } ∷ record {
    table = 0;
    subject = from.Template (Fixed (codes "http://e/d/") ∷ Hole 0 ∷ []) sort.Iri;
    classes = [];
    graphs = [];
    predicate_objects = [];
  } ∷ [];
}

parents : dump (dataset referencing db) ≡ codes "<http://e/emp/7> <http://e/in> <http://e/d/1> ." ∷ codes "<http://e/emp/9> <http://e/in> <http://e/d/1> ." ∷ []
unfolding opened
parents = refl

-- a form outside its datatype's lexical space, and a number of 39 digits
abbrev typed_by : List ℕ → Mapping
typed_by datatype = record {
  base = base;
  maps = record {
    table = 0;
    subject = iri (codes "s");
    classes = [];
    graphs = [];
    predicate_objects = po (codes "p") (object.Term (from.Column 0 (sort.Literal (Typed (xsd datatype))))) ∷ [];
  } ∷ [];
}

ill_typed : least_data_fault (typed_by (codes "integer")) (((text (codes "1") ∷ []) ∷ (text (codes "x") ∷ []) ∷ []) ∷ []) ≡ Some (record { fault = IllTyped; map = 1; row = 2; term = 2 })
unfolding opened
ill_typed = refl

too_wide : least_data_fault (typed_by (codes "decimal")) (((text (codes "999999999999999999999999999999999999999") ∷ []) ∷ []) ∷ []) ≡ Some (record { fault = TooWide; map = 1; row = 1; term = 2 })
unfolding opened
too_wide = refl
