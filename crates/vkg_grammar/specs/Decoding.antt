-- The trees of a derivation's notes, read from the right: what the private functions of `parse_tree` promise each other.
use Rattle.std.specs.Prelude.{ℕ, ◌<◌, ◌-◌, List, [], ◌∷◌, ◌++◌, length, map, reverse, get_or}
use Rattle.vkg_grammar.specs.declared.forest.Node.{Node}
use Rattle.vkg_grammar.specs.Trees.{Tree, leaf, nothing, pair, first, second, tree_at}
use Rattle.vkg_grammar.specs.declared.note.Note.{Note}
use Rattle.vkg_grammar.specs.declared.note.Act.{Act as Step}
use Rattle.vkg_grammar.specs.declared.note.Act.TheVariants.{Leaf, Nothing, Pair, First, Second}

-- the acts of the notes
abbrev pub acts_of : List Note → List Step
acts_of notes = map (λ n. n.act) notes

-- each number on the stack is below this one
abbrev pub AreNodesOf : ℕ → List ℕ → Type 0
AreNodesOf m s = (i : ℕ) → i < length s → get_or s i 0 < m

-- the trees on a stack, from its top
abbrev pub tops_of : List Node → List ℕ → List Tree
tops_of ns s = reverse (map (tree_at ns) s)

-- the trees after one more act from the right, which joins those at the top; a leaf is the token i
abbrev pub stepped : Step → ℕ → List Tree → List Tree
stepped Leaf i f = leaf i ∷ f
stepped Nothing i f = nothing ∷ f
stepped First i (a ∷ f) = first a ∷ f
stepped Second i (a ∷ f) = second a ∷ f
stepped Pair i (a ∷ b ∷ f) = pair a b ∷ f
stepped step i f = f

-- the number of the first token, where the last one known is n
abbrev pub token_before : Step → ℕ → ℕ
token_before Leaf n = n - 1
token_before step n = n

-- the number of the first token, and the trees from the left
pub record Decoded : Type 0 where
  pub token : ℕ
  pub trees : List Tree

-- the trees of these steps, and the number of their first token
abbrev pub decoded : ℕ → List Step → Decoded
decoded n [] = record { token = n; trees = [] }
decoded n (step ∷ steps) =
    let d = decoded n steps in
    record { token = token_before step d.token; trees = stepped step (token_before step d.token) d.trees }

-- the steps of a tree, from the left
abbrev pub steps_of : Tree → List Step
steps_of (leaf i) = Leaf ∷ []
steps_of nothing = Nothing ∷ []
steps_of (pair a b) = Pair ∷ (steps_of a ++ steps_of b)
steps_of (first a) = First ∷ steps_of a
steps_of (second a) = Second ∷ steps_of a
