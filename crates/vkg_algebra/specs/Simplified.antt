-- The translation with its simplification step (SPARQL 1.1, 18.2.2.8) taken at once: how a group grows where all that it has is
-- simplified. Its contracts are private; `translate` answers `algebra_of` of Translation.
use Rattle.std.specs.Prelude.{List, [], fold, Option, Some, None}
use Rattle.vkg_sparql.specs.declared.pattern.TriplePattern.{TriplePattern}
use Rattle.vkg_sparql.specs.Query.{Condition, Unions, Last, Union}
use Rattle.vkg_algebra.specs.Algebra.{Algebra, Bgp, LeftJoin, Minus, Extend}
use Rattle.vkg_algebra.specs.Algebra as algebra
use Rattle.vkg_algebra.specs.Translation.{Element, Block, Test, Optionally, Inner, Without, Bound, before, elements, group_algebra, joined, patterns_of, simplified}

-- a Filter's condition, and what it filters; all else has no condition
abbrev pub condition_in : Algebra → Option Condition
condition_in (algebra.Filter c a) = Some c
condition_in a = None

abbrev pub filtered_in : Algebra → Algebra
filtered_in (algebra.Filter c a) = a
filtered_in a = a

-- one more element of a simplified group
abbrev pub grown_simply : Algebra → Element → Algebra
grown_simply g (Block ps) = joined g (Bgp ps)
grown_simply g (Optionally a) = LeftJoin g (simplified (filtered_in a)) (condition_in a)
grown_simply g (Inner a) = joined g (simplified a)
grown_simply g (Without a) = Minus g (simplified a)
grown_simply g (Bound c v) = Extend g v c
grown_simply g (Test c) = g

-- what a simplified group becomes with a block of triples and then these elements
abbrev pub grown_by : Algebra → List TriplePattern → List Element → Algebra
grown_by g ps es = fold grown_simply g (before ps (patterns_of es))

-- the algebra inside an element; Z where there is none
abbrev pub inner_of : Element → Algebra
inner_of (Inner a) = a
inner_of e = Bgp []

-- the groups that UNION joins to a simplified one
abbrev pub united_simply : Algebra → Unions → Algebra
united_simply a Last = a
united_simply a (Union g more) = united_simply (algebra.Union a (simplified (group_algebra (elements g)))) more
