-- Trees, and the trees that numbered nodes stand for.
use Rattle.std.specs.Prelude.{◌≡◌, ℕ, Bool, true, false, ◌<◌, ◌≤◌, ◌+◌, List, [], ◌∷◌, ◌++◌, length, get_or}
use Rattle.vkg_grammar.specs.declared.forest.Node.{Node}
use Rattle.vkg_grammar.specs.declared.forest.Node.TheVariants.{Leaf, Nothing, Pair, First, Second}

-- the tree of a symbol: a token by its number, nothing, one after another, or one of two ways
pub data Tree : Type 0 where
  leaf : (token : ℕ) → Tree
  nothing : Tree
  pair : (a b : Tree) → Tree
  first : (a : Tree) → Tree
  second : (a : Tree) → Tree

-- an option is present
abbrev pub present : Tree → Bool
present (first a) = true
present t = false

-- the tree of a node, of the trees before it
abbrev pub grown : List Tree → Node → Tree
grown ts (Leaf i) = leaf i
grown ts Nothing = nothing
grown ts (Pair a b) = pair (get_or ts a nothing) (get_or ts b nothing)
grown ts (First a) = first (get_or ts a nothing)
grown ts (Second a) = second (get_or ts a nothing)

-- the trees of more nodes behind these
abbrev pub trees_on : List Tree → List Node → List Tree
trees_on ts [] = ts
trees_on ts (n ∷ ns) = trees_on (ts ++ grown ts n ∷ []) ns

-- the tree of each node
unfoldable pub trees_of : List Node → List Tree
trees_of ns = trees_on [] ns

abbrev pub tree_at : List Node → ℕ → Tree
tree_at ns i = get_or (trees_of ns) i nothing

-- above the numbers of a node's parts
abbrev pub above_first : Node → ℕ
above_first (Pair a b) = a + 1
above_first (First a) = a + 1
above_first (Second a) = a + 1
above_first _ = 0

abbrev pub above_last : Node → ℕ
above_last (Pair a b) = b + 1
above_last _ = 0

-- the parts of a node are numbers below this one
abbrev pub HasPartsBelow : ℕ → Node → Type 0
HasPartsBelow m n = (above_first n ≤ m) × (above_last n ≤ m)

-- each node is made of those before it
abbrev pub IsForest : List Node → Type 0
IsForest ns = (i : ℕ) → i < length ns → HasPartsBelow i (get_or ns i Nothing)

-- how many tokens the tree has
abbrev pub size : Tree → ℕ
size (leaf i) = 1
size nothing = 0
size (pair a b) = size a + size b
size (first a) = size a
size (second a) = size a

-- its tokens are numbered from here, from the left
abbrev pub IsFrom : ℕ → Tree → Type 0
IsFrom at (leaf i) = i ≡ at
IsFrom at nothing = Unit {0}
IsFrom at (pair a b) = IsFrom at a × IsFrom (at + size a) b
IsFrom at (first a) = IsFrom at a
IsFrom at (second a) = IsFrom at a
