-- What the parser says of a list of tokens, by their kinds.
use Rattle.std.specs.Prelude.{◌≡◌, ◌⊎◌, ℕ, ◌+◌, ◌<◌, List, [], ◌∷◌, length, take}
use Rattle.vkg_grammar.specs.declared.note.Note.{Note}
use Rattle.vkg_grammar.specs.declared.rule.Rule.{Rule}
use Rattle.vkg_grammar.specs.declared.parsing.ParseFault.{ParseFault}
use Rattle.vkg_grammar.specs.declared.parsing.ParseFault.TheVariants.{Memory, TooDeep, Dead, Ended}
use Rattle.vkg_grammar.specs.Form.{Form, IsTooDeep, IsShallow}
use Rattle.vkg_grammar.specs.Grammar.{Derives, IsAlive}
use Rattle.vkg_grammar.specs.Kinds.{kinds_of, start_at}
use Rattle.vkg_tokens.specs.declared.cutting.Token.{Token}

-- n is the least number such that no text of the grammar begins with the first n + 1 tokens.
pub record IsFirstDead (g : List Rule) (ts : List ℕ) (n : ℕ) : Type 0 where
  pub inside : n < length ts
  pub dead : IsAlive g (take (n + 1) ts) → ⊥
  pub alive : (m : ℕ) → m < n → IsAlive g (take (m + 1) ts)

-- Some text begins with these tokens, but they are none.
pub record IsCutOff (g : List Rule) (ts : List ℕ) : Type 0 where
  pub alive : IsAlive g ts
  pub no_text : (ws : List Note) → Derives g (0 ∷ []) ts ws → ⊥

-- Where the tokens of a text are no text of the grammar: at the first dead token, or at the end.
abbrev pub NoTextAt : List Rule → List ℕ → List Token → ℕ → Type 0
NoTextAt g text ts at = ((i : ℕ) × IsFirstDead g (kinds_of ts) i × (at ≡ start_at ts i)) ⊎ (IsCutOff g (kinds_of ts) × (at ≡ length text))

-- These are the notes of the one derivation.
pub record IsTheText (g : List Rule) (ts : List ℕ) (ws : List Note) : Type 0 where
  pub derives : Derives g (0 ∷ []) ts ws
  pub only : (vs : List Note) → Derives g (0 ∷ []) ts vs → vs ≡ ws

-- Why the machine stops, where it stops.
abbrev pub Stops : List Rule → List ℕ → ParseFault → Type 0
Stops g ts Memory = Unit {0}
Stops g ts (TooDeep n) = ⊥
Stops g ts (Dead n) = IsFirstDead g ts n
Stops g ts Ended = IsCutOff g ts

-- When each error comes: the depth is looked at first.
abbrev pub Fails : Form → List ℕ → ParseFault → Type 0
Fails g ts Memory = Unit {0}
Fails g ts (TooDeep n) = IsTooDeep g ts n
Fails g ts (Dead n) = IsShallow g ts × IsFirstDead g.rules ts n
Fails g ts Ended = IsShallow g ts × IsCutOff g.rules ts
