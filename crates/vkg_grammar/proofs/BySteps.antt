-- Leftmost derivations, by the act at each symbol.
use Rattle.std.specs.Prelude.{◌≡◌, ℕ, List, [], ◌∷◌, ◌++◌, Some}
use Rattle.vkg_grammar.specs.declared.rule.Rule.{Rule}
use Rattle.vkg_grammar.specs.declared.rule.Rule.TheVariants.{Token}
use Rattle.vkg_grammar.specs.declared.note.Act.{Act as Step}
use Rattle.vkg_grammar.specs.declared.note.Act.TheVariants.{Leaf}
use Rattle.vkg_grammar.specs.OneTree.{rule, parts}

-- These symbols, one after another, derive tokens of these kinds by these steps.
pub data Derives (g : List Rule) : List ℕ → List ℕ → List Step → Type 0 where
  done : Derives g [] [] []
  read : {n k : ℕ} {s ts : List ℕ} {q : List Step} → rule g n ≡ Token k → Derives g s ts q → Derives g (n ∷ s) (k ∷ ts) (Leaf ∷ q)
  by : {n : ℕ} {step : Step} {xs s ts : List ℕ} {q : List Step} → parts (rule g n) n step ≡ Some xs → Derives g (xs ++ s) ts q → Derives g (n ∷ s) ts (step ∷ q)
