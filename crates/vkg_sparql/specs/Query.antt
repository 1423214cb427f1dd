-- Queries as the definitions above see them. Variables and blank node labels are numbers, with their names beside.
use Rattle.std.specs.Prelude.{ℕ, Bool, List, Option}
use Rattle.vkg_terms.specs.declared.term.Term.{Term}
use Rattle.vkg_values.specs.declared.operator.Test.{Test as TestOp}
use Rattle.vkg_values.specs.declared.operator.Take.{Take as TakeOp}
use Rattle.vkg_values.specs.declared.operator.Compare.{Compare as CompareOp}
use Rattle.vkg_sparql.specs.declared.pattern.GraphName.{GraphName}
use Rattle.vkg_sparql.specs.declared.pattern.TriplePattern.{TriplePattern}
use Rattle.vkg_sparql.specs.declared.query.Form.{Form}
use Rattle.vkg_sparql.specs.declared.query.Selected.{Selected}
use Rattle.vkg_sparql.specs.declared.query.Slice.{Slice}

-- SPARQL 1.1, 17: an expression of a filter
pub data Condition : Type 0 where
  Variable : (v : ℕ) → Condition
  Constant : (t : Term) → Condition
  Bound : (v : ℕ) → Condition
  Test : (op : TestOp) (a : Condition) → Condition
  Take : (op : TakeOp) (a : Condition) → Condition
  Compare : (op : CompareOp) (a b : Condition) → Condition
  SameTerm : (a b : Condition) → Condition
  Not : (a : Condition) → Condition
  And : (a b : Condition) → Condition
  Or : (a b : Condition) → Condition

-- SPARQL 1.1, 5.2: what stands between a group's braces; a group, and those that UNION joins to it (7); the variables and the rows of a table
-- (10.2), where UNDEF is no term; an expression, and the variable that has its value (10.1)
mutual
  pub data Part : Type 0 where
    Triples : (ps : List TriplePattern) → Part
    Filter : (c : Condition) → Part
    Optional : (g : Group) → Part
    Graph : (name : GraphName) (g : Group) → Part
    Groups : (g : Group) (more : Unions) → Part
    Minus : (g : Group) → Part
    Values : (vs : List ℕ) (rows : List (List (Option Term))) → Part
    Bind : (c : Condition) (v : ℕ) → Part

  pub data Group : Type 0 where
    End : Group
    Then : (p : Part) (g : Group) → Group

  pub data Unions : Type 0 where
    Last : Unions
    Union : (g : Group) (more : Unions) → Unions

-- SPARQL 1.1, 15.1: a key of ORDER BY, and whether it is one of DESC
pub record Key : Type 0 where
  pub condition : Condition
  pub descends : Bool

pub record Query : Type 0 where
  pub names : List (List ℕ)
  pub form : Form
  pub distinct : Bool
  pub selected : Selected
  pub group : Group
  pub keys : List Key
  pub slice : Slice
