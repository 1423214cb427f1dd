-- A symbol that may be empty does not begin with what may follow it.
use Rattle.std.proofs.Common.{ℕ, ◌<◌, inl, inr, List, [], ◌∷◌, ◌++◌, length, sym, subst, append_assoc}
use Rattle.vkg_lists.proofs.Members.{recursion_append}
use Rattle.vkg_lists.specs.Lists.{AllBelow}
use Rattle.vkg_grammar.specs.declared.note.Note.{Note}
use Rattle.vkg_grammar.specs.declared.rule.Rule.{Rule}
use Rattle.vkg_grammar.specs.Grammar.{Derives, done, parts, first, second, MayBeEmpty, MayBegin, IsWay, the_parts, the_first, the_second, MayFollow, within, at_end, IsLL1, IsGrammar}
use Rattle.vkg_grammar.proofs.Core.{starts_seen, empty_parts}
use Rattle.vkg_grammar.proofs.Outer.{none_begins}
use Rattle.vkg_grammar.proofs.Stepping.{of_parts, OfChoice, by_first, by_second, of_choice, OfParts, by_parts}

-- What begins what stands behind a symbol may follow it, and k may follow it where nothing else need stand there.
abbrev pub FitsBefore : List Rule → ℕ → List ℕ → Type 0
FitsBefore g k [] = Unit {0}
FitsBefore g k (n ∷ s) = ((j : ℕ) → MayBegin g s j → MayFollow g n j) × (MayBeEmpty g s → MayFollow g n k) × FitsBefore g k s

before_way : {g : List Rule} {n : ℕ} (k : ℕ) (s before xs : List ℕ) → IsWay g n (before ++ xs) → ((j : ℕ) → MayBegin g s j → MayFollow g n j) → (MayBeEmpty g s → MayFollow g n k) → FitsBefore g k s → FitsBefore g k (xs ++ s)
before_way k s before [] w f e fs = fs
before_way {g = g} {n = n} k s before (x ∷ xs) w f e fs =
    (λ j b. follows j b.0 b.1 b.2, λ m. ends m.0 m.1, before_way k s (before ++ x ∷ []) xs (subst (λ y. IsWay g n y) (sym (append_assoc before (x ∷ []) xs)) w) f e fs)
  where
    follows : (j : ℕ) (ts : List ℕ) (ws : List Note) → Derives g (xs ++ s) (j ∷ ts) ws → MayFollow g x j
    follows j ts ws d = elim (starts_seen xs f d) [ inl b ↦ within n before xs w b | inr p ↦ at_end n before xs w p.0 p.1 ]

    ends : (ws : List Note) → Derives g (xs ++ s) [] ws → MayFollow g x k
    ends ws d = let both : MayBeEmpty g xs × MayBeEmpty g s = empty_parts xs s d in at_end n before xs w both.0 (e both.1)

clash : {g : List Rule} {k : ℕ} {s ts : List ℕ} {ws vs : List Note} → IsGrammar g → IsLL1 g → FitsBefore g k s → AllBelow (length g) s → Derives g s [] ws → Derives g s (k ∷ ts) vs → ⊥
clash w ll f b done e = elim e [ ]
clash {g = g} {k = k} {ts = ts} w ll f b (parts {n = n} {xs = xs} {s = s} q d) e =
    by_way (λ us d'. clash {ws = _} {vs = us} w ll (before_way k s [] xs (the_parts q) f.0 f.1 f.2) (recursion_append (λ k. k < length g) xs s (w.closed n xs b.0 (the_parts q)) b.1) d d') (of_parts q e)
  where
    by_way : {us : List Note} → ((l : List Note) → Derives g (xs ++ s) (k ∷ ts) l → ⊥) → OfParts g n xs s (k ∷ ts) us → ⊥
    by_way again (by_parts {left = l} d') = again l d'
clash {g = g} {k = k} {ts = ts} w ll f b (first {n = n} {xs = xs} {ys = ys} {s = s} q d) e =
    by_way (λ us d'. clash {ws = _} {vs = us} w ll (before_way k s [] xs (the_first q) f.0 f.1 f.2) (recursion_append (λ k. k < length g) xs s (w.closed n xs b.0 (the_first q)) b.1) d d') (of_choice q e)
  where
    by_way : {us : List Note} → ((l : List Note) → Derives g (xs ++ s) (k ∷ ts) l → ⊥) → OfChoice g n xs ys s (k ∷ ts) us → ⊥
    by_way again (by_first {left = l} d') = again l d'
    by_way again (by_second d') = let both : MayBeEmpty g xs × MayBeEmpty g s = empty_parts xs s d in ll.one_begins n xs ys k b.0 q (inr (both.0, f.1 both.1)) (starts_seen ys f.0 d')
clash {g = g} {k = k} {ts = ts} w ll f b (second {n = n} {xs = xs} {ys = ys} {s = s} q d) e =
    by_way (λ us d'. clash {ws = _} {vs = us} w ll (before_way k s [] ys (the_second q) f.0 f.1 f.2) (recursion_append (λ k. k < length g) ys s (w.closed n ys b.0 (the_second q)) b.1) d d') (of_choice q e)
  where
    by_way : {us : List Note} → ((l : List Note) → Derives g (ys ++ s) (k ∷ ts) l → ⊥) → OfChoice g n xs ys s (k ∷ ts) us → ⊥
    by_way again (by_second {left = l} d') = again l d'
    by_way again (by_first d') = let both : MayBeEmpty g ys × MayBeEmpty g s = empty_parts ys s d in ll.one_begins n xs ys k b.0 q (starts_seen xs f.0 d') (inr (both.0, f.1 both.1))

pub one_or_follows : {g : List Rule} {k n : ℕ} → IsGrammar g → IsLL1 g → n < length g → MayBeEmpty g (n ∷ []) → MayFollow g n k → MayBegin g (n ∷ []) k → ⊥
one_or_follows {g = g} {k = k} {n = n} w ll h e f b = clash w ll ((λ j m. none_begins m), λ m. f, tt) (h, tt) e.1 b.2
