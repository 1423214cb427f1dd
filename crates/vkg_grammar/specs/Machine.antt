-- What the parser keeps from step to step: what its private functions promise each other.
use Rattle.std.specs.Prelude.{◌≡◌, ℕ, ◌<◌, Bool, true, false, List, [], ◌∷◌, ◌++◌, length, Option, Some, None}
use Rattle.vkg_lists.specs.Lists.{AllBelow}
use Rattle.vkg_grammar.specs.declared.note.Note.{Note}
use Rattle.vkg_grammar.specs.declared.rule.Rule.{Rule}
use Rattle.vkg_grammar.specs.declared.machine.Step.{Step}
use Rattle.vkg_grammar.specs.declared.machine.Step.TheVariants.{Taken, Stuck, More}
use Rattle.vkg_grammar.specs.declared.note.Act.TheVariants.{Leaf}
use Rattle.vkg_grammar.specs.Grammar.{noted, at_parts, at_first, at_second, One, Parts, Choice, shape_of, Derives, MayBeEmpty, MayBegin, MayFollow}
use Rattle.vkg_grammar.specs.Rank.{height}

-- ts begins as the next token says: with a token of that kind, or with none at the end.
pub data Sees : Option ℕ → List ℕ → Type 0 where
  at_end_of : Sees None []
  at_token : {k : ℕ} {ts : List ℕ} → Sees (Some k) (k ∷ ts)

-- The symbols derive some list that begins so.
pub record Ahead (g : List Rule) (xs : List ℕ) (c : Option ℕ) : Type 0 where
  pub tokens : List ℕ
  pub ways : List Note
  pub sees : Sees c tokens
  pub derives : Derives g xs tokens ways

-- What begins what stands on the stack behind a symbol may follow the symbol.
abbrev pub Fits : List Rule → List ℕ → Type 0
Fits g [] = Unit {0}
Fits g (n ∷ s) = ((k : ℕ) → MayBegin g s k → MayFollow g n k) × Fits g s

-- Why this way is taken where the token c is seen: it begins so, or it may be empty and no way begins so.
pub data Picked (g : List Rule) (xs ys : List ℕ) : Option ℕ → Type 0 where
  begins : {c : Option ℕ} → Ahead g xs c → Picked g xs ys c
  empties : {k : ℕ} → MayBeEmpty g xs → (MayBegin g ys k → ⊥) → Picked g xs ys (Some k)

-- What the machine keeps while it looks at one token: the stack derives what is left of what the stack before derived,
-- where that begins as the next token says.
pub record Reach (g : List Rule) (c : Option ℕ) (old stack : List ℕ) (taken : List Note) : Type 0 where
  pub forward : (ts : List ℕ) (ws : List Note) → Derives g stack ts ws → Derives g old ts (taken ++ ws)
  pub backward : (ts : List ℕ) (ws : List Note) → Sees c ts → Derives g old ts ws → (left : List Note) × (ws ≡ taken ++ left) × Derives g stack ts left
  pub fits : Fits g stack
  pub below : AllBelow (length g) stack

-- A token was taken: what the stack derives now is what stood behind the token.
pub record Takes (g : List Rule) (k : ℕ) (old stack : List ℕ) (taken : List Note) : Type 0 where
  pub forward : (ts : List ℕ) (ws : List Note) → Derives g stack ts ws → Derives g old (k ∷ ts) (taken ++ ws)
  pub backward : (ts : List ℕ) (ws : List Note) → Derives g old (k ∷ ts) ws → (left : List Note) × (ws ≡ taken ++ left) × Derives g stack ts left
  pub fits : Fits g stack
  pub below : AllBelow (length g) stack

-- The symbols derive no text that begins as the next token says.
abbrev pub IsDead : List Rule → List ℕ → Option ℕ → Type 0
IsDead g s c = (ts : List ℕ) (ws : List Note) → Sees c ts → Derives g s ts ws → ⊥

-- What holds between two tokens.
pub record Parsed (g : List Rule) (read stack : List ℕ) (taken : List Note) : Type 0 where
  pub forward : (ts : List ℕ) (ws : List Note) → Derives g stack ts ws → Derives g (0 ∷ []) (read ++ ts) (taken ++ ws)
  pub backward : (ts : List ℕ) (ws : List Note) → Derives g (0 ∷ []) (read ++ ts) ws → (left : List Note) × (ws ≡ taken ++ left) × Derives g stack ts left
  pub fits : Fits g stack
  pub below : AllBelow (length g) stack

-- How the first symbol n of the stack was replaced by xs, with these ways noted.
pub data Moves (g : List Rule) (c : Option ℕ) (n : ℕ) : List ℕ → List Note → Type 0 where
  move_parts : {xs : List ℕ} → shape_of g n ≡ Parts xs → Moves g c n xs (noted n (at_parts xs) ∷ [])
  move_first : {xs : List ℕ} (ys : List ℕ) → shape_of g n ≡ Choice xs ys → Picked g xs ys c → Moves g c n xs (noted n (at_first xs) ∷ [])
  move_second : (xs : List ℕ) {ys : List ℕ} → shape_of g n ≡ Choice xs ys → Picked g ys xs c → Moves g c n ys (noted n (at_second ys) ∷ [])

-- What one step did with the symbol n, taken from the stack before.
abbrev pub HasStepped : List Rule → (ℕ → Option ℕ → ℕ) → Option ℕ → ℕ → List ℕ → List ℕ → List Note → List Note → Step → Type 0
HasStepped g rank c n before after old new Taken = (k : ℕ) × (c ≡ Some k) × (shape_of g n ≡ One k) × (after ≡ before) × (new ≡ old ++ noted n Leaf ∷ [])
HasStepped g rank c n before after old new Stuck = (Ahead g (n ∷ []) c → ⊥) × (Ahead g (n ∷ []) None → ⊥)
HasStepped g rank c n before after old new More = (xs : List ℕ) × (ws : List Note) × Moves g c n xs ws × (after ≡ xs ++ before) × (new ≡ old ++ ws) × (height rank c after < height rank c (n ∷ before))

-- What was done until the next token was taken, the end was reached, or nothing could be done.
pub data Advances (g : List Rule) (old stack : List ℕ) (before after : List Note) : Option ℕ → Bool → Type 0 where
  took : {k : ℕ} (more : List Note) → after ≡ before ++ more → Takes g k old stack more → Advances g old stack before after (Some k) true
  ended : (more : List Note) → after ≡ before ++ more → Reach g None old [] more → Advances g old stack before after None true
  died : {c : Option ℕ} → IsDead g old c → Advances g old stack before after c false

-- The parser looks at a token, and has replaced symbols of the stack before it.
abbrev pub IsReached : List Rule → Option ℕ → List ℕ → List ℕ → List Note → List Note → Type 0
IsReached g c old stack before after = (more : List Note) × (after ≡ before ++ more) × Reach g c old stack more
