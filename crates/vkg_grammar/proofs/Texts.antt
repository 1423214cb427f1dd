-- Which symbols derive some list of tokens.
use Rattle.std.proofs.Common.{◌≡◌, ℕ, ◌<◌, Bool, false, ◌⊎◌, inl, inr, List, [], ◌∷◌, ◌++◌, length, get_or, refl, ap, sym, ◌∙◌, subst, arith, replicate}
use Rattle.std.proofs.lemmas.List.{take_all, length-replicate}
use Rattle.vkg_lists.proofs.Members.{each_from_recursion, recursion_append, recursion_left, recursion_right}
use Rattle.vkg_lists.specs.Lists.{AllBelow}
use Rattle.vkg_lists.proofs.Heads.{replicate_same}
use Rattle.vkg_grammar.specs.declared.note.Note.{Note}
use Rattle.vkg_grammar.specs.declared.note.Act.TheVariants.{Leaf}
use Rattle.vkg_grammar.specs.declared.rule.Rule.{Rule}
use Rattle.vkg_grammar.specs.Grammar.{noted, Shape, One, Parts, Choice, shape_of, Derives, done, read, parts, first, second, IsGrammar, the_parts, the_first, the_second}
use Rattle.vkg_grammar.specs.Tables.{IsRound, AllFound, ShapeFound, TextReason, HasText}
use Rattle.vkg_grammar.proofs.Core.{text_each, text_of_way}
use Rattle.vkg_grammar.proofs.Rounds.{cell_why, cell_done}

module _ (g : List Rule) (wf : IsGrammar g) where
  all_text : (t xs : List ℕ) → ((n : ℕ) → n < length g → 0 < get_or t n 0 → HasText g n) → AllBelow (length g) xs → AllFound t xs → (ts : List ℕ) × (ws : List Note) × Derives g xs ts ws
  all_text t xs so b f = text_each xs (λ n c. so n (each_from_recursion (λ k. k < length g) xs b n c) (each_from_recursion (λ x. 0 < get_or t x 0) xs f n c))

  shape_text : (t : List ℕ) (n : ℕ) (sh : Shape) → n < length g → shape_of g n ≡ sh → ((n : ℕ) → n < length g → 0 < get_or t n 0 → HasText g n) → ShapeFound t sh → HasText g n
  shape_text t n (One k) h e so f = (k ∷ [], noted n Leaf ∷ [], read e done)
  shape_text t n (Parts xs) h e so f = text_of_way (the_parts e) (all_text t xs so (wf.closed n xs h (the_parts e)) f)
  shape_text t n (Choice xs ys) h e so (inl f) = text_of_way (the_first e) (all_text t xs so (wf.closed n xs h (the_first e)) f)
  shape_text t n (Choice xs ys) h e so (inr f) = text_of_way (the_second e) (all_text t ys so (wf.closed n ys h (the_second e)) f)

  found_all : {s ts : List ℕ} {ws : List Note} (t : List ℕ) → ((n : ℕ) → n < length g → TextReason g t n → 0 < get_or t n 0) → AllBelow (length g) s → Derives g s ts ws → AllFound t s
  found_all t closed b done = tt
  found_all t closed b (read {n = n} {k = k} q d) = (closed n b.0 (subst (ShapeFound t) (sym q) tt), found_all t closed b.1 d)
  found_all t closed b (parts {n = n} {xs = xs} {s = s} q d) = let r : AllFound t (xs ++ s) = found_all t closed (recursion_append (λ k. k < length g) xs s (wf.closed n xs b.0 (the_parts q)) b.1) d in (closed n b.0 (subst (ShapeFound t) (sym q) (recursion_left (λ x. 0 < get_or t x 0) xs s r)), recursion_right (λ x. 0 < get_or t x 0) xs s r)
  found_all t closed b (first {n = n} {xs = xs} {s = s} q d) = let r : AllFound t (xs ++ s) = found_all t closed (recursion_append (λ k. k < length g) xs s (wf.closed n xs b.0 (the_first q)) b.1) d in (closed n b.0 (subst (ShapeFound t) (sym q) (inl (recursion_left (λ x. 0 < get_or t x 0) xs s r))), recursion_right (λ x. 0 < get_or t x 0) xs s r)
  found_all t closed b (second {n = n} {ys = xs} {s = s} q d) = let r : AllFound t (xs ++ s) = found_all t closed (recursion_append (λ k. k < length g) xs s (wf.closed n xs b.0 (the_second q)) b.1) d in (closed n b.0 (subst (ShapeFound t) (sym q) (inr (recursion_left (λ x. 0 < get_or t x 0) xs s r))), recursion_right (λ x. 0 < get_or t x 0) xs s r)

-- What holds before each round.
pub record AreTexts (g : List Rule) (t : List ℕ) : Type 0 where
  pub size : length t ≡ length g
  pub sound : (n : ℕ) → n < length g → 0 < get_or t n 0 → HasText g n

pub texts_begun : {g : List Rule} (t : List ℕ) → t ≡ replicate (length g) 0 → AreTexts g t
texts_begun {g = g} t e = subst (AreTexts g) (sym e) (record { size = length-replicate (length g) 0; sound = λ n h p. absurd (let z : get_or (replicate (length g) 0) n 0 ≡ 0 = replicate_same {A = ℕ} (length g) n 0 in omega arith) })

pub texts_next : {g : List Rule} {changed : Bool} (old new : List ℕ) → IsGrammar g → AreTexts g old → IsRound (TextReason g old) 1 old new (length old) changed → AreTexts g new
texts_next {g = g} old new wf a r = record { size = r.size ∙ a.size; sound = λ n h p. sound n h (cell_why (r.cells n (omega (arith, a.size))) p) }
  where
    sound : (n : ℕ) → n < length g → (0 < get_or old n 0) ⊎ ((get_or new n 0 ≡ 1) × TextReason g old n) → HasText g n
    sound n h (inl p) = a.sound n h p
    sound n h (inr q) = shape_text g wf old n (shape_of g n) h refl a.sound q.1

pub texts_done : {g : List Rule} {changed : Bool} (old new : List ℕ) → IsGrammar g → AreTexts g old → IsRound (TextReason g old) 1 old new (length old) changed → changed ≡ false → (n : ℕ) → n < length g → HasText g n → 0 < get_or old n 0
texts_done {g = g} old new wf a r e n h d = (found_all g wf old closed (h, tt) d.2).0
  where
    same : new ≡ old
    same = r.same e ∙ take_all (length old) old (omega arith)

    closed : (n : ℕ) → n < length g → TextReason g old n → 0 < get_or old n 0
    closed n h q = cell_done (r.cells n (omega (arith, a.size))) (ap (λ y. get_or y n 0) same) (omega arith) q
