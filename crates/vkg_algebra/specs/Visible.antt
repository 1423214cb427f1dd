-- The variables that an algebra may bind, in the order in which they first appear (SPARQL 1.1, 18.2.1).
use Rattle.std.specs.Prelude.{◌≡◌, ℕ, Bool, List, [], ◌∷◌, ◌++◌, flat_map, nat_eq}
use Rattle.std.specs.List.{list_any}
use Rattle.vkg_lists.specs.Sets.{distinct}
use Rattle.vkg_sparql.specs.declared.pattern.Node.{Node}
use Rattle.vkg_sparql.specs.declared.pattern.Node.TheVariants as node
use Rattle.vkg_sparql.specs.declared.pattern.GraphName.{GraphName}
use Rattle.vkg_sparql.specs.declared.pattern.GraphName.TheVariants.{Each, Named}
use Rattle.vkg_sparql.specs.declared.pattern.TriplePattern.{TriplePattern}
use Rattle.vkg_algebra.specs.Algebra.{Algebra, Bgp, Join, LeftJoin, Union, Filter, Graph, Minus, Table, Extend}

abbrev pub node_variables : Node → List ℕ
node_variables (node.Variable v) = v ∷ []
node_variables x = []

abbrev pub pattern_variables : TriplePattern → List ℕ
pattern_variables p = node_variables p.subject ++ node_variables p.predicate ++ node_variables p.object

abbrev pub name_variables : GraphName → List ℕ
name_variables (Each v) = v ∷ []
name_variables (Named iri) = []

abbrev pub has : List ℕ → ℕ → Bool
has vs v = list_any (nat_eq v) vs

-- each number once, at its first place
abbrev pub each_once : List ℕ → List ℕ
each_once vs = distinct nat_eq vs

-- SPARQL 1.1, 18.2.1: the variables of triple patterns, of GRAPH, of VALUES and of BIND; of MINUS none
abbrev pub visible : Algebra → List ℕ
visible (Bgp ps) = each_once (flat_map pattern_variables ps)
visible (Join a b) = each_once (visible a ++ visible b)
visible (LeftJoin a b c) = each_once (visible a ++ visible b)
visible (Union a b) = each_once (visible a ++ visible b)
visible (Filter c a) = visible a
visible (Graph name a) = each_once (name_variables name ++ visible a)
visible (Minus a b) = visible a
visible (Table vs rows) = each_once vs
visible (Extend a v c) = each_once (visible a ++ v ∷ [])

-- the same variables as often as they stand there, in the order of the text
abbrev pub appearing : Algebra → List ℕ
appearing (Bgp ps) = flat_map pattern_variables ps
appearing (Join a b) = appearing a ++ appearing b
appearing (LeftJoin a b c) = appearing a ++ appearing b
appearing (Union a b) = appearing a ++ appearing b
appearing (Filter c a) = appearing a
appearing (Graph name a) = name_variables name ++ appearing a
appearing (Minus a b) = appearing a
appearing (Table vs rows) = vs
appearing (Extend a v c) = appearing a ++ v ∷ []

-- where the list has the numbers of another, each once, it has those and these, each once
abbrev pub AddsEach : List ℕ → List ℕ → List ℕ → Type 0
AddsEach vs old new = (before : List ℕ) → old ≡ each_once before → new ≡ each_once (before ++ vs)
