-- The trees of a grammar, and the one tree of a text.
use Rattle.std.specs.Prelude.{◌≡◌, ℕ, List, [], ◌∷◌, length, get_or, slice_get, Option, Some, None}
use Rattle.vkg_grammar.specs.declared.rule.Rule.{Rule}
use Rattle.vkg_grammar.specs.declared.rule.Rule.TheVariants.{Token, Empty, Then, Either, Optional, Repeated}
use Rattle.vkg_grammar.specs.declared.note.Act.{Act as Step}
use Rattle.vkg_grammar.specs.declared.note.Act.TheVariants.{Nothing, Pair, First, Second}
use Rattle.vkg_grammar.specs.Trees.{Tree, leaf, nothing, pair, first, second, size, IsFrom}

-- the rule of the symbol n
abbrev pub rule : List Rule → ℕ → Rule
rule g n = get_or g n (Token 0)

-- what the symbol n with this rule becomes by a step
abbrev pub parts : Rule → ℕ → Step → Option (List ℕ)
parts Empty n Nothing = Some []
parts (Then a b) n Pair = Some (a ∷ b ∷ [])
parts (Either a b) n First = Some (a ∷ [])
parts (Either a b) n Second = Some (b ∷ [])
parts (Optional a) n First = Some (a ∷ [])
parts (Optional a) n Nothing = Some []
parts (Repeated a) n Pair = Some (a ∷ n ∷ [])
parts (Repeated a) n Nothing = Some []
parts r n step = None

-- The tree is one of the symbol, where the tokens have these kinds.
pub data IsTree (g : List Rule) (kinds : List ℕ) : ℕ → Tree → Type 0 where
  a_token : {n k i : ℕ} → rule g n ≡ Token k → slice_get kinds i ≡ Some k → IsTree g kinds n (leaf i)
  a_nothing : {n : ℕ} → parts (rule g n) n Nothing ≡ Some [] → IsTree g kinds n nothing
  a_pair : {n a b : ℕ} {x y : Tree} → parts (rule g n) n Pair ≡ Some (a ∷ b ∷ []) → IsTree g kinds a x → IsTree g kinds b y → IsTree g kinds n (pair x y)
  a_first : {n a : ℕ} {x : Tree} → parts (rule g n) n First ≡ Some (a ∷ []) → IsTree g kinds a x → IsTree g kinds n (first x)
  a_second : {n a : ℕ} {x : Tree} → parts (rule g n) n Second ≡ Some (a ∷ []) → IsTree g kinds a x → IsTree g kinds n (second x)

-- The tree of the text: its tokens are all of them, in order.
pub record IsTreeOf (g : List Rule) (kinds : List ℕ) (t : Tree) : Type 0 where
  pub is : IsTree g kinds 0 t
  pub from : IsFrom 0 t
  pub all : size t ≡ length kinds

-- The one tree of the text.
pub record IsTheTree (g : List Rule) (kinds : List ℕ) (t : Tree) : Type 0 where
  pub is : IsTreeOf g kinds t
  pub only : (u : Tree) → IsTreeOf g kinds u → u ≡ t
