-- What a query names, and when that keeps within the numbers and digits that this project knows.
use Rattle.std.specs.Prelude.{ℕ, ◌<◌, IsTrue, not, List, [], ◌∷◌, ◌++◌, map, flat_map, length, Contains, Option, Some, None}
use Rattle.vkg_terms.specs.declared.term.Term.{Term}
use Rattle.vkg_terms.specs.declared.term.Term.TheVariants.{Iri}
use Rattle.vkg_cells.specs.WellTyped.{is_wide_number}
use Rattle.vkg_sparql.specs.declared.pattern.Node.{Node}
use Rattle.vkg_sparql.specs.declared.pattern.Node.TheVariants as node
use Rattle.vkg_sparql.specs.declared.pattern.GraphName.{GraphName}
use Rattle.vkg_sparql.specs.declared.pattern.GraphName.TheVariants.{Each, Named}
use Rattle.vkg_sparql.specs.declared.pattern.TriplePattern.{TriplePattern}
use Rattle.vkg_sparql.specs.declared.query.Form.{Form}
use Rattle.vkg_sparql.specs.declared.query.Form.TheVariants.{Construct}
use Rattle.vkg_sparql.specs.declared.query.Selected.{Selected}
use Rattle.vkg_sparql.specs.declared.query.Selected.TheVariants.{All, Listed}
use Rattle.vkg_sparql.specs.Query.{Condition, Variable, Constant, Bound, Test, Take, Compare, SameTerm, Not, And, Or, Part, Triples, Filter, Optional, Graph, Groups, Minus, Values, Bind, Group, End, Then, Unions, Last, Union, Key, Query}

-- the variables and terms of an expression
abbrev pub condition_nodes : Condition → List Node
condition_nodes (Variable v) = node.Variable v ∷ []
condition_nodes (Constant t) = node.Fixed t ∷ []
condition_nodes (Bound v) = node.Variable v ∷ []
condition_nodes (Test op a) = condition_nodes a
condition_nodes (Take op a) = condition_nodes a
condition_nodes (Compare op a b) = condition_nodes a ++ condition_nodes b
condition_nodes (SameTerm a b) = condition_nodes a ++ condition_nodes b
condition_nodes (Not a) = condition_nodes a
condition_nodes (And a b) = condition_nodes a ++ condition_nodes b
condition_nodes (Or a b) = condition_nodes a ++ condition_nodes b

abbrev pub pattern_nodes : TriplePattern → List Node
pattern_nodes p = p.subject ∷ p.predicate ∷ p.object ∷ []

abbrev pub patterns_nodes : List TriplePattern → List Node
patterns_nodes ps = flat_map pattern_nodes ps

abbrev pub name_node : GraphName → Node
name_node (Each v) = node.Variable v
name_node (Named iri) = node.Fixed (Iri iri)

-- the terms of a table
abbrev pub value_nodes : Option Term → List Node
value_nodes None = []
value_nodes (Some t) = node.Fixed t ∷ []

abbrev pub rows_nodes : List (List (Option Term)) → List Node
rows_nodes rows = flat_map (flat_map value_nodes) rows

-- the variables, labels and terms of a group
abbrev mutual
  pub part_nodes : Part → List Node
  part_nodes (Triples ps) = patterns_nodes ps
  part_nodes (Filter c) = condition_nodes c
  part_nodes (Optional g) = group_nodes g
  part_nodes (Graph name g) = name_node name ∷ group_nodes g
  part_nodes (Groups g more) = group_nodes g ++ unions_nodes more
  part_nodes (Minus g) = group_nodes g
  part_nodes (Values vs rows) = map node.Variable vs ++ rows_nodes rows
  part_nodes (Bind c v) = node.Variable v ∷ condition_nodes c

  pub group_nodes : Group → List Node
  group_nodes End = []
  group_nodes (Then p g) = part_nodes p ++ group_nodes g

  pub unions_nodes : Unions → List Node
  unions_nodes Last = []
  unions_nodes (Union g more) = group_nodes g ++ unions_nodes more

-- those of a template
abbrev pub form_nodes : Form → List Node
form_nodes (Construct ts) = patterns_nodes ts
form_nodes form = []

abbrev pub selected_nodes : Selected → List Node
selected_nodes All = []
selected_nodes (Listed vs) = map node.Variable vs

abbrev pub keys_nodes : List Key → List Node
keys_nodes [] = []
keys_nodes (k ∷ ks) = condition_nodes k.condition ++ keys_nodes ks

abbrev pub query_nodes : Query → List Node
query_nodes q = form_nodes q.form ++ (selected_nodes q.selected ++ (group_nodes q.group ++ keys_nodes q.keys))

-- a number among n, or a term that is no such literal
abbrev pub IsWithin : ℕ → Node → Type 0
IsWithin n (node.Variable v) = v < n
IsWithin n (node.Label v) = v < n
IsWithin n (node.Fixed t) = IsTrue (not (is_wide_number t))

-- own: n numbers, none of them a variable's and a label's, and no literal of too many digits
pub record IsLawful (n : ℕ) (nodes : List Node) : Type 0 where
  pub within : (x : Node) → Contains nodes x → IsWithin n x
  pub apart : (v : ℕ) → Contains nodes (node.Variable v) → Contains nodes (node.Label v) → ⊥

abbrev pub IsLawfulQuery : Query → Type 0
IsLawfulQuery q = IsLawful (length q.names) (query_nodes q)
