-- What an algebra names, and when it is lawful.
use Rattle.std.specs.Prelude.{ℕ, List, [], ◌∷◌, ◌++◌, map, Option, Some, None}
use Rattle.vkg_sparql.specs.declared.pattern.Node.{Node}
use Rattle.vkg_sparql.specs.declared.pattern.Node.TheVariants.{Variable}
use Rattle.vkg_sparql.specs.Query.{Condition}
use Rattle.vkg_sparql.specs.Lawful.{IsLawful, condition_nodes, name_node, patterns_nodes, rows_nodes}
use Rattle.vkg_algebra.specs.Algebra.{Algebra, Bgp, Join, LeftJoin, Union, Filter, Graph, Minus, Table, Extend}

abbrev pub condition_nodes_if_any : Option Condition → List Node
condition_nodes_if_any None = []
condition_nodes_if_any (Some c) = condition_nodes c

-- the variables, labels and terms of an algebra
abbrev pub algebra_nodes : Algebra → List Node
algebra_nodes (Bgp ps) = patterns_nodes ps
algebra_nodes (Join a b) = algebra_nodes a ++ algebra_nodes b
algebra_nodes (LeftJoin a b c) = algebra_nodes a ++ algebra_nodes b ++ condition_nodes_if_any c
algebra_nodes (Union a b) = algebra_nodes a ++ algebra_nodes b
algebra_nodes (Filter c a) = condition_nodes c ++ algebra_nodes a
algebra_nodes (Graph name a) = name_node name ∷ algebra_nodes a
algebra_nodes (Minus a b) = algebra_nodes a ++ algebra_nodes b
algebra_nodes (Table vs rows) = map Variable vs ++ rows_nodes rows
algebra_nodes (Extend a v c) = algebra_nodes a ++ Variable v ∷ condition_nodes c

-- own: n numbers, none of them a variable's and a label's, and no literal of too many digits
abbrev pub IsLawfulAlgebra : ℕ → Algebra → Type 0
IsLawfulAlgebra n a = IsLawful n (algebra_nodes a)
