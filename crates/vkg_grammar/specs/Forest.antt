-- What contracts see of a forest: the tree of each of its nodes, by number.
use Rattle.std.specs.Prelude.{ℕ, List, length, get_or}
use Rattle.vkg_grammar.specs.declared.forest.Forest.{Forest}
use Rattle.vkg_grammar.specs.Trees.{Tree, nothing, trees_of}

-- the tree of each node
abbrev pub trees : Forest → List Tree
trees f = trees_of f.nodes.items

-- the tree of the node with this number
abbrev pub tree : Forest → ℕ → Tree
tree f at = get_or (trees f) at nothing

-- how many nodes there are
abbrev pub node_count : Forest → ℕ
node_count f = length f.nodes.items
