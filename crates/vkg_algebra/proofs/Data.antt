-- The dataset and the queries that the definitions are tried on.
use Rattle.std.specs.Prelude.{ℕ, false, List, [], ◌∷◌, ◌++◌, Some, None, codes}
use Rattle.vkg_terms.specs.declared.term.Annotation.TheVariants.{Plain, Typed}
use Rattle.vkg_terms.specs.declared.term.Term.{Term}
use Rattle.vkg_terms.specs.declared.term.Term.TheVariants.{Iri, Lit}
use Rattle.vkg_terms.specs.NQuads.{Quad}
use Rattle.vkg_terms.specs.Vocabulary.{xsd, rdf_type}
use Rattle.vkg_sparql.specs.declared.pattern.Node.{Node}
use Rattle.vkg_sparql.specs.declared.pattern.Node.TheVariants.{Variable, Fixed}
use Rattle.vkg_sparql.specs.declared.pattern.TriplePattern.{TriplePattern}
use Rattle.vkg_sparql.specs.declared.query.Form.TheVariants.{Select}
use Rattle.vkg_sparql.specs.declared.query.Selected.TheVariants.{Listed}
use Rattle.vkg_sparql.specs.Orders.{no_slice}
use Rattle.vkg_sparql.specs.Query.{Part, Query}
use Rattle.vkg_sparql.specs.Seen.{group_of}
use Rattle.vkg_algebra.specs.Evaluation.{Dataset}

abbrev pub e : List ℕ → Term
e name = Iri (codes "http://e/" ++ name)

abbrev pub int : List ℕ → Term
int digits = Lit digits (Typed (xsd (codes "integer")))

abbrev pub plain : List ℕ → Term
plain text = Lit text Plain

abbrev pub triple : Term → Term → Term → Quad
triple s p o = record { subject = s; predicate = p; object = o; graph = None }

abbrev pub quad : Term → Term → Term → Term → Quad
quad g s p o = record { subject = s; predicate = p; object = o; graph = Some g }

abbrev pub staff : List ℕ → List ℕ → List Quad → List Quad
staff id name more =
    let s = e (codes "emp/id=" ++ id) in
    triple s (e (codes "emp#id")) (int id)
    ∷ triple s (e (codes "emp#name")) (plain name)
    ∷ triple s (Iri rdf_type) (e (codes "emp"))
    ∷ more

abbrev pub in_dept : List ℕ → List Quad
in_dept id =
    let s = e (codes "emp/id=" ++ id) in
    triple s (e (codes "emp#dept")) (int (codes "1"))
    ∷ triple s (e (codes "emp#ref-dept")) (e (codes "dept/id=1"))
    ∷ []

-- the eighteen triples of two departments and three employees
abbrev pub dataset : Dataset
dataset =
    triple (e (codes "dept/id=1")) (e (codes "dept#id")) (int (codes "1"))
    ∷ triple (e (codes "dept/id=1")) (e (codes "dept#title")) (plain (codes "Ore"))
    ∷ triple (e (codes "dept/id=1")) (Iri rdf_type) (e (codes "dept"))
    ∷ triple (e (codes "dept/id=2")) (e (codes "dept#id")) (int (codes "2"))
    ∷ triple (e (codes "dept/id=2")) (Iri rdf_type) (e (codes "dept"))
    ∷ (staff (codes "7") (codes "Ann") (in_dept (codes "7"))
    ++ staff (codes "8") (codes "Bo") []
    ++ staff (codes "9") (codes "Ann") (in_dept (codes "9")))

abbrev pub pattern : Node → Node → Node → TriplePattern
pattern s p o = record { subject = s; predicate = p; object = o }

-- ?e is 0, ?n is 1, ?d is 2, ?t is 3
abbrev pub names : List (List ℕ)
names = codes "e" ∷ codes "n" ∷ codes "d" ∷ codes "t" ∷ []

abbrev pub has_name : TriplePattern
has_name = pattern (Variable 0) (Fixed (e (codes "emp#name"))) (Variable 1)

abbrev pub has_dept : TriplePattern
has_dept = pattern (Variable 0) (Fixed (e (codes "emp#ref-dept"))) (Variable 2)

abbrev pub has_title : TriplePattern
has_title = pattern (Variable 2) (Fixed (e (codes "dept#title"))) (Variable 3)

abbrev pub select : List ℕ → List Part → Query
select vs parts = record { names = names; form = Select; distinct = false; selected = Listed vs; group = group_of parts; keys = []; slice = no_slice }
