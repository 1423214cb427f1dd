-- The goals of `expand`, over plain variables.
use Rattle.std.proofs.Common.{◌≡◌, ℕ, ◌+◌, ◌*◌, ◌<◌, ◌⊎◌, inl, inr, List, [], ◌∷◌, ◌++◌, length, get_or, Option, Some, None, refl, ap, sym, ◌∙◌, subst, arith, reverse}
use Rattle.std.proofs.lemmas.List.{reverse-append}
use Rattle.std.proofs.lemmas.Nat.{mul-add-lt}
use Rattle.std.proofs.lemmas.Option.{none-some}
use Rattle.vkg_lists.specs.Lists.{AllBelow}
use Rattle.vkg_lists.proofs.Members.{recursion_at}
use Rattle.vkg_grammar.specs.declared.note.Note.{Note}
use Rattle.vkg_grammar.specs.declared.note.Act.TheVariants.{Leaf}
use Rattle.vkg_grammar.specs.declared.rule.Rule.{Rule}
use Rattle.vkg_grammar.specs.declared.machine.Step.{Step}
use Rattle.vkg_grammar.specs.declared.machine.Step.TheVariants.{Taken, More}
use Rattle.std.specs.Prelude.{Result, Ok, Err, IfOk}
use Rattle.std.specs.declared.alloc.AllocError.{AllocError}
use Rattle.vkg_grammar.specs.Grammar.{noted, at_parts, at_first, at_second, One, Parts, Choice, shape_of, IsLL1, IsGrammar}
use Rattle.vkg_grammar.specs.Rank.{column, Begins, IsTable, height, HasRows, AllHaveRows, ShapeFalls}
use Rattle.vkg_grammar.specs.Machine.{Ahead, move_parts, move_first, move_second, HasStepped, Picked}
use Rattle.vkg_grammar.proofs.Heights.{complete, parts_drop, first_drop, second_drop, picked_first, picked_second}

pub has_rows : (w m size n : ℕ) (c : Option ℕ) → n < m → size ≡ w * m → column c < w → HasRows size w n c
has_rows w m size n c h e col = (col, rw e (mul-add-lt n w (column c) m h col), rw e (let first : n * w + 0 < w * m = mul-add-lt n w 0 m h (omega arith) in omega arith))

pub rows_below : (w m size : ℕ) (c : Option ℕ) (xs : List ℕ) → AllBelow m xs → size ≡ w * m → column c < w → AllHaveRows size w xs c
rows_below w m size c xs b e col = λ i h. has_rows w m size (get_or xs i 0) c (recursion_at (λ k. k < m) xs i 0 b h) e col

-- What `expand` knows when it looks at a symbol.
pub record Looking (g : List Rule) (rank : ℕ → Option ℕ → ℕ) (c : Option ℕ) (n : ℕ) : Type 0 where
  pub grammar : IsGrammar g
  pub ll1 : IsLL1 g
  pub is_table : IsTable g rank
  pub inside : n < length g
  pub live : (0 < rank n c) ⊎ (0 < rank n None)

pub did_parts : {g : List Rule} {rank : ℕ → Option ℕ → ℕ} {c : Option ℕ} {n : ℕ} (before : List ℕ) {after : List ℕ} (xs : List ℕ) (old : List Note) {new : List Note} → Looking g rank c n → shape_of g n ≡ Parts xs → after ≡ xs ++ before → new ≡ old ++ noted n (at_parts xs) ∷ [] → HasStepped g rank c n before after old new More
did_parts {g = g} {rank = rank} {c = c} {n = n} before xs old l e a m =
    (xs, noted n (at_parts xs) ∷ [], move_parts e, a, m, subst (λ y. height rank c y < height rank c (n ∷ before)) (sym a) (parts_drop g rank c before l.grammar l.ll1 l.is_table l.inside e l.live))

pub did_first : {g : List Rule} {rank : ℕ → Option ℕ → ℕ} {c : Option ℕ} {n : ℕ} (before : List ℕ) {after : List ℕ} (old : List Note) {new : List Note} (xs ys : List ℕ) → Looking g rank c n → shape_of g n ≡ Choice xs ys → Begins rank c xs ⊎ ((Begins rank c ys → ⊥) × Begins rank None xs) → after ≡ xs ++ before → new ≡ old ++ noted n (at_first xs) ∷ [] → HasStepped g rank c n before after old new More
did_first {g = g} {rank = rank} {c = c} {n = n} before old xs ys l e b a m =
    let p : Picked g xs ys c = picked_first g rank c l.grammar l.ll1 l.is_table l.inside e b in
    (xs, noted n (at_first xs) ∷ [], move_first ys e p, a, m, subst (λ y. height rank c y < height rank c (n ∷ before)) (sym a) (first_drop g rank before l.grammar l.ll1 l.is_table l.inside e p l.live))

pub did_second : {g : List Rule} {rank : ℕ → Option ℕ → ℕ} {c : Option ℕ} {n : ℕ} (before : List ℕ) {after : List ℕ} (old : List Note) {new : List Note} (xs ys : List ℕ) → Looking g rank c n → shape_of g n ≡ Choice xs ys → (Begins rank c xs → ⊥) × (Begins rank c ys ⊎ (Begins rank None xs → ⊥)) → after ≡ ys ++ before → new ≡ old ++ noted n (at_second ys) ∷ [] → HasStepped g rank c n before after old new More
did_second {g = g} {rank = rank} {c = c} {n = n} before old xs ys l e b a m =
    let p : Picked g ys xs c = picked_second g rank c l.grammar l.ll1 l.is_table l.inside e b.0 b.1 l.live in
    (ys, noted n (at_second ys) ∷ [], move_second xs e p, a, m, subst (λ y. height rank c y < height rank c (n ∷ before)) (sym a) (second_drop g rank before l.grammar l.ll1 l.is_table l.inside e p l.live))

-- A token that is not stuck is the one that is seen.
pub did_take : {g : List Rule} {rank : ℕ → Option ℕ → ℕ} {c : Option ℕ} {n k : ℕ} (before : List ℕ) (old : List Note) {new : List Note} → Looking g rank c n → shape_of g n ≡ One k → new ≡ old ++ noted n Leaf ∷ [] → HasStepped g rank c n before before old new Taken
did_take {g = g} {rank = rank} {c = c} {n = n} {k = k} before old l e m = elim l.live [ inl p ↦ (k, falls c p, e, refl, m) | inr p ↦ absurd (none-some k (falls None p)) ]
  where
    falls : (c : Option ℕ) → 0 < rank n c → c ≡ Some k
    falls c p = let f : ShapeFalls rank (rank n c) c (One k) = subst (λ y. ShapeFalls rank (rank n c) c y) e (l.is_table.falls n c l.inside p) in f

pub is_stuck_at : {g : List Rule} {rank : ℕ → Option ℕ → ℕ} {c : Option ℕ} {n : ℕ} → IsGrammar g → IsTable g rank → n < length g → (rank n c ≡ 0) × (rank n None ≡ 0) → (Ahead g (n ∷ []) c → ⊥) × (Ahead g (n ∷ []) None → ⊥)
is_stuck_at {g = g} {rank = rank} {c = c} {n = n} w t h z =
    ((λ a. let p : 0 < rank n c = complete g rank w t h a in let q : rank n c ≡ 0 = z.0 in omega arith), (λ a. let p : 0 < rank n None = complete g rank w t h a in let q : rank n None ≡ 0 = z.1 in omega arith))

pub pushed : (before : List ℕ) {after : List ℕ} {x : ℕ} → after ≡ before ++ x ∷ [] → reverse after ≡ x ∷ reverse before
pushed before {x = x} e = ap reverse e ∙ reverse-append before (x ∷ [])

-- What is so where one more note was made is so of what `noted` answers.
pub ok_more : (r : Result Step AllocError) (P : Step → Type 0) (old new : List Note) (m : Note) → (new ≡ old ++ m ∷ [] → P More) → IfOk r (λ s. (s ≡ More) × (new ≡ old ++ m ∷ [])) → IfOk r P
ok_more (Ok s) P old new m so h = subst P (sym h.0) (so h.1)
ok_more (Err e) P old new m so h = tt
