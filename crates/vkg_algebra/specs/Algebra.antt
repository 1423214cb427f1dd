-- The algebra of SPARQL (SPARQL 1.1, 18.2) as its definitions see it.
use Rattle.std.specs.Prelude.{ℕ, List, Option}
use Rattle.vkg_terms.specs.declared.term.Term.{Term}
use Rattle.vkg_sparql.specs.declared.pattern.GraphName.{GraphName}
use Rattle.vkg_sparql.specs.declared.pattern.TriplePattern.{TriplePattern}
use Rattle.vkg_sparql.specs.Query.{Condition}

-- a LeftJoin without a condition is one whose condition is the constant true
pub data Algebra : Type 0 where
  Bgp : (ps : List TriplePattern) → Algebra
  Join : (a b : Algebra) → Algebra
  LeftJoin : (a b : Algebra) (c : Option Condition) → Algebra
  Union : (a b : Algebra) → Algebra
  Filter : (c : Condition) (a : Algebra) → Algebra
  Graph : (name : GraphName) (a : Algebra) → Algebra
  Minus : (a b : Algebra) → Algebra
  Table : (vs : List ℕ) (rows : List (List (Option Term))) → Algebra
  Extend : (a : Algebra) (v : ℕ) (c : Condition) → Algebra
