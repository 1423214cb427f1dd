-- A derivation of a list of tokens, found by trying the ways of each symbol in their order.
use Rattle.std.proofs.Common.{◌≡◌, ℕ, zero, suc, Bool, true, false, List, [], ◌∷◌, ◌++◌, Option, Some, None, refl, subst, nat_eq, eqb-true}
use Rattle.std.specs.Prelude.{IfSome, Result, unwrap_or}
use Rattle.std.specs.Result.{result_unwrap_or}
use Rattle.vkg_lists.specs.Options.{with_first}
use Rattle.vkg_tokens.specs.declared.cutting.Token.{Token}
use Rattle.vkg_grammar.specs.declared.note.Note.{Note}
use Rattle.vkg_grammar.specs.declared.note.Act.TheVariants.{Leaf}
use Rattle.vkg_grammar.specs.declared.rule.Rule.{Rule}
use Rattle.vkg_grammar.specs.Grammar.{Derives, done, read, parts, first, second, Shape, One, Parts, Choice, shape_of, noted, at_parts, at_first, at_second}

-- the first notes, and the second where there are none
abbrev pub or_else : Option (List Note) → (Unit {0} → Option (List Note)) → Option (List Note)
or_else (Some ws) other = Some ws
or_else None other = other tt

abbrev pub if_kind : Bool → (Unit {0} → Option (List Note)) → Option (List Note)
if_kind true more = more tt
if_kind false more = None

-- more says how symbols derive tokens
abbrev pub by_token : (List ℕ → List ℕ → Option (List Note)) → ℕ → ℕ → List ℕ → List ℕ → Option (List Note)
by_token more n k s [] = None
by_token more n k s (t ∷ ts) = if_kind (nat_eq k t) (λ _. with_first (Some (noted n Leaf)) (more s ts))

abbrev pub by_shape : (List ℕ → List ℕ → Option (List Note)) → ℕ → Shape → List ℕ → List ℕ → Option (List Note)
by_shape more n (One k) s ts = by_token more n k s ts
by_shape more n (Parts xs) s ts = with_first (Some (noted n (at_parts xs))) (more (xs ++ s) ts)
by_shape more n (Choice xs ys) s ts = or_else (with_first (Some (noted n (at_first xs))) (more (xs ++ s) ts)) (λ _. with_first (Some (noted n (at_second ys))) (more (ys ++ s) ts))

-- in so many steps at most
abbrev pub found : ℕ → List Rule → List ℕ → List ℕ → Option (List Note)
found zero g s ts = None
found (suc steps) g [] [] = Some []
found (suc steps) g [] (t ∷ ts) = None
found (suc steps) g (n ∷ s) ts = by_shape (λ r us. found steps g r us) n (shape_of g n) s ts

IsFound : List Rule → List ℕ → List ℕ → Option (List Note) → Type 0
IsFound g s ts o = IfSome o (Derives g s ts)

module _ (g : List Rule) (more : List ℕ → List ℕ → Option (List Note)) (sound : (s ts : List ℕ) → IsFound g s ts (more s ts)) where
  one : (n k : ℕ) (s ts : List ℕ) → shape_of g n ≡ One k → IsFound g (n ∷ s) ts (by_token more n k s ts)
  unfolding IsFound
  one n k s [] e = tt
  one n k s (t ∷ ts) e = by (nat_eq k t) refl (more s ts) (sound s ts)
    where
      by : (b : Bool) → nat_eq k t ≡ b → (o : Option (List Note)) → IsFound g s ts o → IsFound g (n ∷ s) (t ∷ ts) (if_kind b (λ _. with_first (Some (noted n Leaf)) o))
      by false q o d = tt
      by true q None d = tt
      by true q (Some ws) d = subst (λ j. Derives g (n ∷ s) (j ∷ ts) (noted n Leaf ∷ ws)) (eqb-true k t q) (read e d)

  all_parts : (n : ℕ) (xs s ts : List ℕ) → shape_of g n ≡ Parts xs → (o : Option (List Note)) → IsFound g (xs ++ s) ts o → IsFound g (n ∷ s) ts (with_first (Some (noted n (at_parts xs))) o)
  unfolding IsFound
  all_parts n xs s ts e None d = tt
  all_parts n xs s ts e (Some ws) d = parts e d

  one_of : (n : ℕ) (xs ys s ts : List ℕ) → shape_of g n ≡ Choice xs ys → (o p : Option (List Note)) → IsFound g (xs ++ s) ts o → IsFound g (ys ++ s) ts p
      → IsFound g (n ∷ s) ts (or_else (with_first (Some (noted n (at_first xs))) o) (λ _. with_first (Some (noted n (at_second ys))) p))
  unfolding IsFound
  one_of n xs ys s ts e (Some ws) p d f = first e d
  one_of n xs ys s ts e None (Some ws) d f = second e f
  one_of n xs ys s ts e None None d f = tt

  shaped : (n : ℕ) (sh : Shape) (s ts : List ℕ) → shape_of g n ≡ sh → IsFound g (n ∷ s) ts (by_shape more n sh s ts)
  shaped n (One k) s ts e = one n k s ts e
  shaped n (Parts xs) s ts e = all_parts n xs s ts e (more (xs ++ s) ts) (sound (xs ++ s) ts)
  shaped n (Choice xs ys) s ts e = one_of n xs ys s ts e (more (xs ++ s) ts) (more (ys ++ s) ts) (sound (xs ++ s) ts) (sound (ys ++ s) ts)

is_found : (steps : ℕ) (g : List Rule) (s ts : List ℕ) → IsFound g s ts (found steps g s ts)
unfolding IsFound
is_found zero g s ts = tt
is_found (suc steps) g [] [] = done
is_found (suc steps) g [] (t ∷ ts) = tt
is_found (suc steps) g (n ∷ s) ts = shaped g (λ r us. found steps g r us) (λ r us. is_found steps g r us) n (shape_of g n) s ts refl

-- what is found is a derivation
pub derives : (steps : ℕ) (g : List Rule) (s ts : List ℕ) (ws : List Note) → found steps g s ts ≡ Some ws → Derives g s ts ws
unfolding IsFound
derives steps g s ts ws e = subst (IsFound g s ts) e (is_found steps g s ts)

-- what a text is cut into and what is found of it, for texts of which it is known that there is some
abbrev pub tokens_or : Result (List Token) ℕ → List Token
tokens_or r = result_unwrap_or r []

abbrev pub notes_or : Option (List Note) → List Note
notes_or o = unwrap_or o []
