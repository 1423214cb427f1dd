-- Grammars, what they derive, and when they are LL(1).
use Rattle.std.specs.Prelude.{◌≡◌, ℕ, ◌<◌, ◌⊎◌, List, [], ◌∷◌, ◌++◌, length, get_or}
use Rattle.vkg_lists.specs.Lists.{AllBelow}
use Rattle.vkg_grammar.specs.declared.note.Act.{Act}
use Rattle.vkg_grammar.specs.declared.note.Note.{Note}
use Rattle.vkg_grammar.specs.declared.note.Act.TheVariants.{Leaf, Nothing, Pair, First, Second}
use Rattle.vkg_grammar.specs.declared.rule.Rule.{Rule}
use Rattle.vkg_grammar.specs.declared.rule.Rule.TheVariants.{Token, Empty, Then, Either, Optional, Repeated}

-- How a symbol is made: a token of one kind, some symbols one after another, or one of two such ways.
pub data Shape : Type 0 where
  One : ℕ → Shape
  Parts : List ℕ → Shape
  Choice : List ℕ → List ℕ → Shape

-- The shape of the symbol n with this rule.
abbrev pub shape : ℕ → Rule → Shape
shape n (Token k) = One k
shape n Empty = Parts []
shape n (Then a b) = Parts (a ∷ b ∷ [])
shape n (Either a b) = Choice (a ∷ []) (b ∷ [])
shape n (Optional a) = Choice (a ∷ []) []
shape n (Repeated a) = Choice (a ∷ n ∷ []) []

-- the shape of the symbol n
abbrev pub shape_of : List Rule → ℕ → Shape
shape_of g n = shape n (get_or g n (Token 0))

-- The note on the symbol n, which is made so.
abbrev pub noted : ℕ → Act → Note
noted n act = record { symbol = n; act = act }

-- How a symbol is made by the only way, by the first of two ways, and by the second.
abbrev pub at_parts : List ℕ → Act
at_parts [] = Nothing
at_parts xs = Pair

abbrev pub at_first : List ℕ → Act
at_first (x ∷ []) = First
at_first xs = Pair

abbrev pub at_second : List ℕ → Act
at_second [] = Nothing
at_second xs = Second

-- A leftmost derivation: these symbols, one after another, derive tokens of these kinds, by these acts,
-- one for each symbol, from the left.
pub data Derives (g : List Rule) : List ℕ → List ℕ → List Note → Type 0 where
  done : Derives g [] [] []
  read : {n k : ℕ} {s ts : List ℕ} {ws : List Note} → shape_of g n ≡ One k → Derives g s ts ws → Derives g (n ∷ s) (k ∷ ts) (noted n Leaf ∷ ws)
  parts : {n : ℕ} {xs s ts : List ℕ} {ws : List Note} → shape_of g n ≡ Parts xs → Derives g (xs ++ s) ts ws → Derives g (n ∷ s) ts (noted n (at_parts xs) ∷ ws)
  first : {n : ℕ} {xs ys s ts : List ℕ} {ws : List Note} → shape_of g n ≡ Choice xs ys → Derives g (xs ++ s) ts ws → Derives g (n ∷ s) ts (noted n (at_first xs) ∷ ws)
  second : {n : ℕ} {xs ys s ts : List ℕ} {ws : List Note} → shape_of g n ≡ Choice xs ys → Derives g (ys ++ s) ts ws → Derives g (n ∷ s) ts (noted n (at_second ys) ∷ ws)

-- The symbols may derive nothing.
abbrev pub MayBeEmpty : List Rule → List ℕ → Type 0
MayBeEmpty g xs = (ws : List Note) × Derives g xs [] ws

-- Some list that the symbols derive begins with a token of kind k.
abbrev pub MayBegin : List Rule → List ℕ → ℕ → Type 0
MayBegin g xs k = (ts : List ℕ) × (ws : List Note) × Derives g xs (k ∷ ts) ws

-- xs is a way of n.
pub data IsWay (g : List Rule) (n : ℕ) : List ℕ → Type 0 where
  the_parts : {xs : List ℕ} → shape_of g n ≡ Parts xs → IsWay g n xs
  the_first : {xs ys : List ℕ} → shape_of g n ≡ Choice xs ys → IsWay g n xs
  the_second : {xs ys : List ℕ} → shape_of g n ≡ Choice xs ys → IsWay g n ys

-- A token of kind k may follow the symbol n.
pub data MayFollow (g : List Rule) : ℕ → ℕ → Type 0 where
  within : (m : ℕ) {n k : ℕ} (before after : List ℕ) → IsWay g m (before ++ n ∷ after) → MayBegin g after k → MayFollow g n k
  at_end : (m : ℕ) {n k : ℕ} (before after : List ℕ) → IsWay g m (before ++ n ∷ after) → MayBeEmpty g after → MayFollow g m k → MayFollow g n k

-- A token of kind k begins this way of n.
abbrev pub Starts : List Rule → ℕ → List ℕ → ℕ → Type 0
Starts g n xs k = MayBegin g xs k ⊎ (MayBeEmpty g xs × MayFollow g n k)

-- Every symbol derives some list of tokens.
abbrev pub IsProductive : List Rule → Type 0
IsProductive g = (n : ℕ) → n < length g → (ts : List ℕ) × (ws : List Note) × Derives g (n ∷ []) ts ws

-- Every symbol derives some list of tokens; of two ways at most one may be empty, and no kind of token begins both.
pub record IsLL1 (g : List Rule) : Type 0 where
  pub productive : IsProductive g
  pub one_empty : (n : ℕ) (xs ys : List ℕ) → n < length g → shape_of g n ≡ Choice xs ys → MayBeEmpty g xs → MayBeEmpty g ys → ⊥
  pub one_begins : (n : ℕ) (xs ys : List ℕ) (k : ℕ) → n < length g → shape_of g n ≡ Choice xs ys → Starts g n xs k → Starts g n ys k → ⊥

-- Some text of the symbol 0 begins with these tokens.
abbrev pub IsAlive : List Rule → List ℕ → Type 0
IsAlive g ts = (more : List ℕ) × (ws : List Note) × Derives g (0 ∷ []) (ts ++ more) ws

-- Each symbol that a rule names has a rule, and so has the symbol 0.
pub record IsGrammar (g : List Rule) : Type 0 where
  pub start : 0 < length g
  pub closed : (n : ℕ) (xs : List ℕ) → n < length g → IsWay g n xs → AllBelow (length g) xs
