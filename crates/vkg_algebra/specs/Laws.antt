-- What the definitions say, in the words of the standard.
use Rattle.std.specs.Prelude.{◌≡◌, ◌↔◌, ◌⊎◌, ℕ, ◌<◌, ◌+◌, Bool, ◌&&◌, IsTrue, IsSome, List, [], ◌∷◌, ◌++◌, flat_map, length, map, Contains, Option, Some, None, if◌then◌else◌}
use Rattle.std.specs.List.{IsDistinct, count_by, sum_by}
use Rattle.std.specs.List.Sorted.{IsStrictlySortedBy}
use Rattle.std.specs.Option.{option_or}
use Rattle.vkg_lists.specs.Sets.{HasSameMembers}
use Rattle.vkg_lists.specs.Texts.{bytes_cmp}
use Rattle.vkg_terms.specs.declared.term.Term.{Term}
use Rattle.vkg_terms.specs.declared.term.Term.TheVariants.{Iri, Lit}
use Rattle.vkg_terms.specs.declared.term.Annotation.{Annotation}
use Rattle.vkg_terms.specs.NQuads.{Quad, line}
use Rattle.vkg_terms.specs.Writable.{IsWritable}
use Rattle.vkg_maps.specs.Dataset.{quad_eq}
use Rattle.vkg_sparql.specs.declared.pattern.Node.{Node}
use Rattle.vkg_sparql.specs.declared.pattern.Node.TheVariants as node
use Rattle.vkg_sparql.specs.declared.pattern.TriplePattern.{TriplePattern}
use Rattle.vkg_algebra.specs.Answer.{solution_eq}
use Rattle.vkg_algebra.specs.Evaluation.{Dataset, graph_of}
use Rattle.vkg_algebra.specs.Patterns.{instances}
use Rattle.vkg_algebra.specs.Solutions.{Solution, compatible, left_join, lookup, merge, minus}

-- SPARQL 1.1, 18.3: every variable that is bound in both is bound to one term
abbrev pub AreCompatible : Solution → Solution → Type 0
AreCompatible l r = (v : ℕ) (t u : Term) → lookup l v ≡ Some t → lookup r v ≡ Some u → t ≡ u

-- what the test `compatible` answers, and what `merge` binds
pub record KeepsMaps (l r : Solution) : Type 0 where
  pub tested : IsTrue (compatible l r) ↔ AreCompatible l r
  pub merged : (v : ℕ) → lookup (merge l r) v ≡ option_or (lookup l v) (lookup r v)

-- SPARQL 1.1, 18.5, Filter(expr, Join(Ω1, Ω2)): merged from compatible maps of both, and it passes
pub record IsJoined (holds : Solution → Bool) (ls rs : List Solution) (m : Solution) : Type 0 where
  pub first : Solution
  pub second : Solution
  pub of_first : Contains ls first
  pub of_second : Contains rs second
  pub agree : AreCompatible first second
  pub is : m ≡ merge first second
  pub passes : IsTrue (holds m)

-- SPARQL 1.1, 18.5, Diff(Ω1, Ω2, expr): of the first, and with each of the second it is incompatible or merges to what fails
pub record IsAlone (holds : Solution → Bool) (ls rs : List Solution) (m : Solution) : Type 0 where
  pub of_first : Contains ls m
  pub fails : (r : Solution) → Contains rs r → AreCompatible m r → IsTrue (holds (merge m r)) → ⊥

-- SPARQL 1.1, 18.5, LeftJoin
abbrev pub IsLeftJoin : (Solution → Bool) → List Solution → List Solution → Type 0
IsLeftJoin holds ls rs = (m : Solution) → Contains (left_join holds ls rs) m ↔ (IsJoined holds ls rs m ⊎ IsAlone holds ls rs m)

-- SPARQL 1.1, 18.3: the two have no variable in common
abbrev pub AreDisjoint : Solution → Solution → Type 0
AreDisjoint l r = (v : ℕ) → IsSome (lookup l v) → IsSome (lookup r v) → ⊥

-- SPARQL 1.1, 18.5, Minus(Ω1, Ω2): of the first, and with each of the second it is incompatible or has no variable in common
pub record IsLeft (ls rs : List Solution) (m : Solution) : Type 0 where
  pub of_first : Contains ls m
  pub stays : (r : Solution) → Contains rs r → AreCompatible m r → AreDisjoint m r

abbrev pub IsMinus : List Solution → List Solution → Type 0
IsMinus ls rs = (m : Solution) → Contains (minus ls rs) m ↔ IsLeft ls rs m

-- SPARQL 1.1, 18.5, card[Ω](μ): how often a map is there
abbrev pub card : List Solution → Solution → ℕ
card ms m = count_by (solution_eq m) ms

-- SPARQL 1.1, 18.5, card[Join(Ω1, Ω2)](μ): how many pairs of a map of each are compatible and merge to this one
abbrev pub join_card : List Solution → List Solution → Solution → ℕ
join_card ls rs m = sum_by (λ l. count_by (λ r. compatible l r && solution_eq m (merge l r)) rs) ls

-- SPARQL 1.1, 18.5, card[LeftJoin(Ω1, Ω2, expr)](μ) = card[Filter(expr, Join(Ω1, Ω2))](μ) + card[Diff(Ω1, Ω2, expr)](μ):
-- the first is card[Join(Ω1, Ω2)](μ) if the map passes, the second card[Ω1](μ) if it is of the Diff, and each is 0 if not
pub record HasCardinality (holds : Solution → Bool) (ls rs : List Solution) (m : Solution) : Type 0 where
  pub alone : ℕ
  pub total : card (left_join holds ls rs) m ≡ (if holds m then join_card ls rs m else 0) + alone
  pub stays : IsAlone holds ls rs m → alone ≡ card ls m
  pub goes : (IsAlone holds ls rs m → ⊥) → alone ≡ 0

-- what a place of a pattern is under a map
abbrev pub node_term : Solution → Node → Option Term
node_term s (node.Variable v) = lookup s v
node_term s (node.Label v) = lookup s v
node_term s (node.Fixed t) = Some t

-- SPARQL 1.1, 18.3.1: the map makes this triple of the pattern
pub record IsInstance (s : Solution) (p : TriplePattern) (q : Quad) : Type 0 where
  pub subject : node_term s p.subject ≡ Some q.subject
  pub predicate : node_term s p.predicate ≡ Some q.predicate
  pub object : node_term s p.object ≡ Some q.object

-- the numbers of the variables and labels of a pattern
abbrev pub node_numbers : Node → List ℕ
node_numbers (node.Variable v) = v ∷ []
node_numbers (node.Label v) = v ∷ []
node_numbers (node.Fixed t) = []

abbrev pub pattern_numbers : TriplePattern → List ℕ
pattern_numbers p = node_numbers p.subject ++ (node_numbers p.predicate ++ node_numbers p.object)

-- SPARQL 1.1, 18.3.1: a map of just the variables and labels of the patterns, under which each pattern is a triple of the graph
pub record IsInstanceOf (n : ℕ) (ps : List TriplePattern) (triples : List Quad) (s : Solution) : Type 0 where
  pub size : length s ≡ n
  pub bound : (v : ℕ) → IsSome (lookup s v) → Contains (flat_map pattern_numbers ps) v
  pub each : (p : TriplePattern) → Contains ps p → (q : Quad) × Contains triples q × IsInstance s p q

-- the instances are these maps; over a set of quads none of them is there twice
pub record HasInstances (n : ℕ) (ps : List TriplePattern) (d : Dataset) (g : Option Term) : Type 0 where
  pub members : (s : Solution) → Contains (instances n ps (graph_of d g)) s ↔ IsInstanceOf n ps (graph_of d g) s
  pub once : IsDistinct quad_eq d → IsDistinct solution_eq (instances n ps (graph_of d g))

-- the numbers of the patterns are below n
abbrev pub AreBelow : ℕ → List TriplePattern → Type 0
AreBelow n ps = (v : ℕ) → Contains (flat_map pattern_numbers ps) v → v < n

-- RDF 1.1 N-Quads, 4: every term that is bound holds only what may stand in it
abbrev pub BindsWritable : Solution → Type 0
BindsWritable s = (v : ℕ) (t : Term) → lookup s v ≡ Some t → IsWritable t

-- RDF 1.1 Concepts, 3.1: the subject of a triple is no literal, and its predicate an IRI; a triple of no graph that has a name
pub record IsTriple (q : Quad) : Type 0 where
  pub subject : (text : List ℕ) (a : Annotation) → q.subject ≡ Lit text a → ⊥
  pub predicate : (iri : List ℕ) × (q.predicate ≡ Iri iri)
  pub graph : q.graph ≡ None

-- RDF 1.1 N-Triples, 2: the line of each triple once, ascending by bytes, and no other line
pub record IsGraph (triples : List Quad) (lines : List (List ℕ)) : Type 0 where
  pub ascending : IsStrictlySortedBy bytes_cmp lines
  pub each : HasSameMembers (map line triples) lines
  pub are_triples : (q : Quad) → Contains triples q → IsTriple q
