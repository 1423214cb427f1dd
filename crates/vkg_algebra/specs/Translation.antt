-- The algebra of a query (SPARQL 1.1, 18.2.2).
use Rattle.std.specs.Prelude.{ℕ, List, [], ◌∷◌, ◌++◌, fold, Option, Some, None}
use Rattle.vkg_sparql.specs.declared.pattern.TriplePattern.{TriplePattern}
use Rattle.vkg_sparql.specs.Query.{Condition, And, Part, Triples, Filter, Optional, Graph, Groups, Minus, Values, Bind, Group, End, Then, Unions, Last, Union, Query}
use Rattle.vkg_algebra.specs.Algebra.{Algebra, Bgp, Join, LeftJoin, Table, Extend}
use Rattle.vkg_algebra.specs.Algebra as algebra

-- an element of a group, with the groups inside it translated
pub data Element : Type 0 where
  Block : (ps : List TriplePattern) → Element
  Test : (c : Condition) → Element
  Optionally : (a : Algebra) → Element
  Inner : (a : Algebra) → Element
  Without : (a : Algebra) → Element
  Bound : (c : Condition) (v : ℕ) → Element

-- SPARQL 1.1, 18.2.2.2, collect filter elements
abbrev pub tests_of : List Element → List Condition
tests_of [] = []
tests_of (Test c ∷ es) = c ∷ tests_of es
tests_of (e ∷ es) = tests_of es

-- triples that stand before these elements: one block with the triples there
abbrev pub before : List TriplePattern → List Element → List Element
before ps (Block qs ∷ es) = Block (ps ++ qs) ∷ es
before ps es = Block ps ∷ es

-- SPARQL 1.1, 18.2.2.5: adjacent triples are one basic graph pattern; a filter between them ends none (5.1)
abbrev pub patterns_of : List Element → List Element
patterns_of [] = []
patterns_of (Test c ∷ es) = patterns_of es
patterns_of (Block ps ∷ es) = before ps (patterns_of es)
patterns_of (e ∷ es) = e ∷ patterns_of es

-- SPARQL 1.1, 18.2.2.6, OPTIONAL: where the group is a Filter, its filter is the condition
abbrev pub optional : Algebra → Algebra → Algebra
optional g (algebra.Filter f a) = LeftJoin g a (Some f)
optional g a = LeftJoin g a None

-- SPARQL 1.1, 18.2.2.6: one more element of the group
abbrev pub grown : Algebra → Element → Algebra
grown g (Block ps) = Join g (Bgp ps)
grown g (Optionally a) = optional g a
grown g (Inner a) = Join g a
grown g (Without a) = algebra.Minus g a
grown g (Bound c v) = Extend g v c
grown g (Test c) = g

-- the conditions, in order, as one by `&&`
abbrev pub condition_of : List Condition → Option Condition
condition_of [] = None
condition_of (c ∷ cs) = Some (fold And c cs)

-- SPARQL 1.1, 18.2.2.7, filters of a group
abbrev pub filtered : Option Condition → Algebra → Algebra
filtered None a = a
filtered (Some c) a = algebra.Filter c a

-- SPARQL 1.1, 18.2.2.6: a group grows from Z, the empty basic graph pattern
abbrev pub pattern_of : List Element → Algebra
pattern_of es = fold grown (Bgp []) (patterns_of es)

abbrev pub group_algebra : List Element → Algebra
group_algebra es = filtered (condition_of (tests_of es)) (pattern_of es)

-- SPARQL 1.1, 18.2.2.6: the groups inside a group; UNION joins them from the left
abbrev mutual
  pub element : Part → Element
  element (Triples ps) = Block ps
  element (Filter c) = Test c
  element (Optional g) = Optionally (group_algebra (elements g))
  element (Graph name g) = Inner (algebra.Graph name (group_algebra (elements g)))
  element (Groups g more) = Inner (united (group_algebra (elements g)) more)
  element (Minus g) = Without (group_algebra (elements g))
  element (Values vs rows) = Inner (Table vs rows)
  element (Bind c v) = Bound c v

  pub elements : Group → List Element
  elements End = []
  elements (Then p g) = element p ∷ elements g

  pub united : Algebra → Unions → Algebra
  united a Last = a
  united a (Union g more) = united (algebra.Union a (group_algebra (elements g))) more

-- SPARQL 1.1, 18.2.2.8, simplification step: Join(Z, A) and Join(A, Z) become A
abbrev pub joined : Algebra → Algebra → Algebra
joined (Bgp []) b = b
joined a (Bgp []) = a
joined a b = Join a b

abbrev pub simplified : Algebra → Algebra
simplified (Bgp ps) = Bgp ps
simplified (Join a b) = joined (simplified a) (simplified b)
simplified (LeftJoin a b c) = LeftJoin (simplified a) (simplified b) c
simplified (algebra.Union a b) = algebra.Union (simplified a) (simplified b)
simplified (algebra.Filter c a) = algebra.Filter c (simplified a)
simplified (algebra.Graph name a) = algebra.Graph name (simplified a)
simplified (algebra.Minus a b) = algebra.Minus (simplified a) (simplified b)
simplified (Table vs rows) = Table vs rows
simplified (Extend a v c) = Extend (simplified a) v c

abbrev pub algebra_of : Query → Algebra
algebra_of query = simplified (group_algebra (elements query.group))
