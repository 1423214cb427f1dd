-- What a lawful algebra gives to its parts.
use Rattle.std.proofs.Common.{◌≡◌, ℕ, true, List, [], ◌∷◌, ◌++◌, ⊎_elim, ap, subst}
use Rattle.std.specs.Prelude.{Option, Contains, flat_map}
use Rattle.std.proofs.lemmas.List.Elements.{Contains-append_left, Contains-append_right, Contains-append_cases}
use Rattle.std.proofs.lemmas.Map.Made.{is_member-Decides}
use Rattle.vkg_lists.proofs.Tests.{nat_test}
use Rattle.vkg_lists.proofs.Members.{Contains-none, Contains-here, Contains-there, Contains-flat_map, Contains-from_flat_map, Contains-only}
use Rattle.vkg_sparql.specs.declared.pattern.Node.{Node}
use Rattle.vkg_sparql.specs.declared.pattern.Node.TheVariants.{Variable, Label, Fixed}
use Rattle.vkg_sparql.specs.declared.pattern.TriplePattern.{TriplePattern}
use Rattle.vkg_sparql.specs.Lawful.{IsLawful, IsWithin, pattern_nodes, patterns_nodes}
use Rattle.vkg_sparql.specs.Query.{Condition}
use Rattle.vkg_algebra.specs.Lawful.{condition_nodes_if_any}
use Rattle.vkg_algebra.specs.Patterns.{labels_of, node_labels}
use Rattle.vkg_algebra.specs.Visible.{has, node_variables, pattern_variables}
use Rattle.vkg_algebra.proofs.LawfulLemmas.{lawful_part}
use Rattle.vkg_answers.proofs.Values.{IsNarrowIfAny}
use Rattle.vkg_answers.proofs.Reading.{AreBelow}
use Rattle.vkg_answers.proofs.Quads.{NodeBelow}

pub lawful_left : (n : ℕ) (xs ys : List Node) → IsLawful n (xs ++ ys) → IsLawful n xs
lawful_left n xs ys h = lawful_part n xs (xs ++ ys) (λ x c. Contains-append_left xs ys x c) h

pub lawful_right : (n : ℕ) (xs ys : List Node) → IsLawful n (xs ++ ys) → IsLawful n ys
lawful_right n xs ys h = lawful_part n ys (xs ++ ys) (λ x c. Contains-append_right xs ys x c) h

pub lawful_tail : (n : ℕ) (x : Node) (xs : List Node) → IsLawful n (x ∷ xs) → IsLawful n xs
lawful_tail n x xs h = lawful_part n xs (x ∷ xs) (λ y c. Contains-there x xs y c) h

pub narrow_if_any : (n : ℕ) (c : Option Condition) → IsLawful n (condition_nodes_if_any c) → IsNarrowIfAny c
narrow_if_any n c h t k = h.within (Fixed t) k

-- ---- the nodes of patterns

variable_is : (x : Node) (v : ℕ) → Contains (node_variables x) v → x ≡ Variable v
variable_is (Variable w) v c = ap Variable (Contains-only w v c)
variable_is (Label w) v c = absurd (Contains-none v c)
variable_is (Fixed t) v c = absurd (Contains-none v c)

label_is : (x : Node) (v : ℕ) → Contains (node_labels x) v → x ≡ Label v
label_is (Variable w) v c = absurd (Contains-none v c)
label_is (Label w) v c = ap Label (Contains-only w v c)
label_is (Fixed t) v c = absurd (Contains-none v c)

module _ (numbers : Node → List ℕ) (node : ℕ → Node) (is : (x : Node) (v : ℕ) → Contains (numbers x) v → x ≡ node v) where
  abbrev of_pattern : TriplePattern → List ℕ
  of_pattern p = numbers p.subject ++ numbers p.predicate ++ numbers p.object

  named_by_pattern : (p : TriplePattern) (v : ℕ) → Contains (of_pattern p) v → Contains (pattern_nodes p) (node v)
  named_by_pattern p v c = ⊎_elim
      (λ k. ⊎_elim
      (λ l. subst (Contains (pattern_nodes p)) (is p.subject v l) (Contains-here p.subject (p.predicate ∷ p.object ∷ [])))
      (λ l. subst (Contains (pattern_nodes p)) (is p.predicate v l) (Contains-there p.subject (p.predicate ∷ p.object ∷ []) p.predicate (Contains-here p.predicate (p.object ∷ []))))
      (Contains-append_cases (numbers p.subject) (numbers p.predicate) v k))
      (λ k. subst (Contains (pattern_nodes p)) (is p.object v k) (Contains-there p.subject (p.predicate ∷ p.object ∷ []) p.object (Contains-there p.predicate (p.object ∷ []) p.object (Contains-here p.object []))))
      (Contains-append_cases (numbers p.subject ++ numbers p.predicate) (numbers p.object) v c)

  named_by_patterns : (ps : List TriplePattern) (v : ℕ) → has (flat_map of_pattern ps) v ≡ true → Contains (patterns_nodes ps) (node v)
  named_by_patterns ps v e =
      let x = Contains-from_flat_map of_pattern ps v ((is_member-Decides nat_test.decides (flat_map of_pattern ps) v).0 e) in
      Contains-flat_map pattern_nodes ps x.0 (node v) x.1 (named_by_pattern x.0 v x.2)

pub variables_named : (ps : List TriplePattern) (v : ℕ) → has (flat_map pattern_variables ps) v ≡ true → Contains (patterns_nodes ps) (Variable v)
variables_named ps v e = named_by_patterns node_variables Variable variable_is ps v e

pub labels_named : (ps : List TriplePattern) (v : ℕ) → has (labels_of ps) v ≡ true → Contains (patterns_nodes ps) (Label v)
labels_named ps v e = named_by_patterns node_labels Label label_is ps v e

pub variables_below : (n : ℕ) (ps : List TriplePattern) → IsLawful n (patterns_nodes ps) → AreBelow n (flat_map pattern_variables ps)
variables_below n ps h v e = h.within (Variable v) (variables_named ps v e)

pub numbers_apart : (n : ℕ) (ps : List TriplePattern) → IsLawful n (patterns_nodes ps) → (v : ℕ) → has (flat_map pattern_variables ps) v ≡ true → has (labels_of ps) v ≡ true → ⊥
numbers_apart n ps h v e f = h.apart v (variables_named ps v e) (labels_named ps v f)

node_below : (n : ℕ) (x : Node) → IsWithin n x → NodeBelow n x
node_below n (Variable v) h = h
node_below n (Label v) h = h
node_below n (Fixed t) h = tt

pub nodes_below : (n : ℕ) (ps : List TriplePattern) → IsLawful n (patterns_nodes ps) → (p : TriplePattern) → Contains ps p → NodeBelow n p.subject × NodeBelow n p.predicate × NodeBelow n p.object
nodes_below n ps h p c = (
  at p.subject (Contains-here p.subject (p.predicate ∷ p.object ∷ [])),
  at p.predicate (Contains-there p.subject (p.predicate ∷ p.object ∷ []) p.predicate (Contains-here p.predicate (p.object ∷ []))),
  at p.object (Contains-there p.subject (p.predicate ∷ p.object ∷ []) p.object (Contains-there p.predicate (p.object ∷ []) p.object (Contains-here p.object []))),
)
  where
    at : (x : Node) → Contains (pattern_nodes p) x → NodeBelow n x
    at x k = node_below n x (h.within x (Contains-flat_map pattern_nodes ps p x c k))
