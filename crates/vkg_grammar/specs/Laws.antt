-- Laws of the definitions.
use Rattle.std.specs.Prelude.{◌≡◌, ◌↔◌, ℕ, List, [], ◌∷◌, slice_get, Some}
use Rattle.vkg_grammar.specs.declared.note.Note.{Note}
use Rattle.vkg_grammar.specs.declared.parsing.ParseFault.{ParseFault}
use Rattle.vkg_grammar.specs.declared.parsing.ParseFault.TheVariants.{Memory}
use Rattle.vkg_grammar.specs.declared.rule.Rule.{Rule}
use Rattle.vkg_grammar.specs.declared.rule.Rule.TheVariants.{Token, Empty, Then, Either, Optional, Repeated}
use Rattle.vkg_grammar.specs.Certified.{Claim, IsCertified}
use Rattle.vkg_grammar.specs.Form.{Form, HasKinds, IsShallow}
use Rattle.vkg_grammar.specs.Grammar.{Derives, IsGrammar, IsLL1}
use Rattle.vkg_grammar.specs.OneTree.{rule, IsTree, IsTreeOf}
use Rattle.vkg_grammar.specs.Parsing.{IsTheText, Fails}
use Rattle.vkg_grammar.specs.Trees.{Tree, leaf, nothing, pair, first, second}

-- Rules with a certificate are a grammar of tokens of these kinds, and are LL(1).
abbrev pub CertificatesHold : Type 0
CertificatesHold = (g : List Rule) (kinds : ℕ) (cs : List Claim) → IsCertified g kinds cs → IsGrammar g × HasKinds g kinds × IsLL1 g

-- A list of tokens has one outcome: it is a text or has a fault, and no other fault beside it.
pub record HaveOneOutcome : Type 0 where
  pub one_fault : (g : Form) (ks : List ℕ) (e f : ParseFault) → Fails g ks e → Fails g ks f → (e ≡ Memory → ⊥) → (f ≡ Memory → ⊥) → e ≡ f
  pub no_fault : (g : Form) (ks : List ℕ) (ws : List Note) (e : ParseFault) → IsShallow g ks → IsTheText g.rules ks ws → Fails g ks e → e ≡ Memory

-- How the tree of the symbol n is made, where this is its rule.
abbrev pub IsMadeBy : List Rule → List ℕ → ℕ → Rule → Tree → Type 0
IsMadeBy g ks n (Token k) (leaf i) = slice_get ks i ≡ Some k
IsMadeBy g ks n Empty nothing = Unit {0}
IsMadeBy g ks n (Then a b) (pair x y) = IsTree g ks a x × IsTree g ks b y
IsMadeBy g ks n (Either a b) (first x) = IsTree g ks a x
IsMadeBy g ks n (Either a b) (second x) = IsTree g ks b x
IsMadeBy g ks n (Optional a) (first x) = IsTree g ks a x
IsMadeBy g ks n (Optional a) nothing = Unit {0}
IsMadeBy g ks n (Repeated a) (pair x y) = IsTree g ks a x × IsTree g ks n y
IsMadeBy g ks n (Repeated a) nothing = Unit {0}
IsMadeBy g ks n r t = ⊥

-- A tree stands for a symbol exactly where it is made as the symbol's rule says.
abbrev pub TreesFollowRules : Type 0
TreesFollowRules = (g : List Rule) (ks : List ℕ) (n : ℕ) (t : Tree) → IsTree g ks n t ↔ IsMadeBy g ks n (rule g n) t

-- Tokens have a tree exactly where they are derived.
abbrev pub TextsHaveTrees : Type 0
TextsHaveTrees = (g : List Rule) (ks : List ℕ) → ((t : Tree) × IsTreeOf g ks t) ↔ ((ws : List Note) × Derives g (0 ∷ []) ks ws)
