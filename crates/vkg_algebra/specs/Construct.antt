-- SPARQL 1.1, 16.2: the graph that the template of a CONSTRUCT makes of solutions.
use Rattle.std.specs.Prelude.{ℕ, ◌+◌, Bool, true, false, ◌&&◌, List, [], ◌∷◌, ◌++◌, codes, decimal, flat_map, map, nat_eq, Option, Some, None, if◌then◌else◌}
use Rattle.std.specs.List.{enumerate_from, position_or_len}
use Rattle.vkg_lists.specs.Ascending.{ascending_once}
use Rattle.vkg_terms.specs.declared.term.Term.{Term}
use Rattle.vkg_terms.specs.declared.term.Term.TheVariants.{Iri, Blank, Lit}
use Rattle.vkg_terms.specs.NQuads.{Quad, line}
use Rattle.vkg_order.specs.Ranked.{Found}
use Rattle.vkg_sparql.specs.declared.pattern.Node.{Node}
use Rattle.vkg_sparql.specs.declared.pattern.Node.TheVariants as node
use Rattle.vkg_sparql.specs.declared.pattern.TriplePattern.{TriplePattern}
use Rattle.vkg_algebra.specs.Solutions.{Solution, lookup}
use Rattle.vkg_algebra.specs.Visible.{each_once, has}

abbrev pub node_labels : Node → List ℕ
node_labels (node.Label l) = l ∷ []
node_labels x = []

abbrev pub pattern_labels : TriplePattern → List ℕ
pattern_labels t = node_labels t.subject ++ node_labels t.predicate ++ node_labels t.object

-- the blank nodes of a template, each once, in the order in which they first appear
abbrev pub template_labels : List TriplePattern → List ℕ
template_labels ts = each_once (flat_map pattern_labels ts)

-- own: the label of the k-th of them in the n-th solution, both counted from 1: `c`, n, `_`, k. Those of a dataset begin with `b`
abbrev pub made_label : ℕ → ℕ → List ℕ
made_label n k = codes "c" ++ decimal n ++ codes "_" ++ decimal k

-- the term of a variable in a solution whose places are those of these variables; another variable has none
abbrev pub term_of : List ℕ → Solution → ℕ → Option Term
term_of vs s v = if has vs v then lookup s (position_or_len (nat_eq v) vs) else None

-- 16.2, 16.2.1: a place of the template in the n-th solution, where a blank node is another one in each solution
abbrev pub filled : List ℕ → List ℕ → ℕ → Solution → Node → Option Term
filled vs ls n s (node.Variable v) = term_of vs s v
filled vs ls n s (node.Label l) = Some (Blank (made_label n (position_or_len (nat_eq l) ls + 1)))
filled vs ls n s (node.Fixed t) = Some t

-- RDF 1.1 Concepts, 3.1: the subject of a triple is an IRI or a blank node
abbrev pub is_subject : Term → Bool
is_subject (Iri iri) = true
is_subject (Blank label) = true
is_subject (Lit text annotation) = false

-- and its predicate an IRI
abbrev pub is_predicate : Term → Bool
is_predicate (Iri iri) = true
is_predicate (Blank label) = false
is_predicate (Lit text annotation) = false

abbrev pub triple : Term → Term → Term → Quad
triple s p o = record { subject = s; predicate = p; object = o; graph = None }

-- 16.2: what has an unbound variable, or is no triple, is left out
abbrev pub triple_if : Option Term → Option Term → Option Term → List Quad
triple_if (Some s) (Some p) (Some o) = if is_subject s && is_predicate p then triple s p o ∷ [] else []
triple_if s p o = []

-- the triple of one of the template, if it makes one
abbrev pub made : List ℕ → List ℕ → ℕ → Solution → TriplePattern → List Quad
made vs ls n s t = triple_if (filled vs ls n s t.subject) (filled vs ls n s t.predicate) (filled vs ls n s t.object)

-- those of the n-th solution
abbrev pub solution_triples : List TriplePattern → List ℕ → List ℕ → ℕ × Solution → List Quad
solution_triples ts vs ls s = flat_map (made vs ls s.0 s.1) ts

-- those of solutions of these variables, which are numbered from 1
abbrev pub graph_triples : List TriplePattern → List ℕ → List Solution → List Quad
graph_triples ts vs ss = flat_map (solution_triples ts vs (template_labels ts)) (enumerate_from 1 ss)

-- RDF 1.1 N-Triples, 2: the lines of the set of these triples, ascending by bytes
abbrev pub graph_lines : List TriplePattern → List ℕ → List Solution → List (List ℕ)
graph_lines ts vs ss = ascending_once (map line (graph_triples ts vs ss))

-- the triples of a solution among others
abbrev pub found_triples : List TriplePattern → List ℕ → List ℕ → ℕ × Found → List Quad
found_triples ts vs ls f = solution_triples ts vs ls (f.0, f.1.terms)
