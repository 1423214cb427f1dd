-- From token to token.
use Rattle.std.proofs.Common.{◌≡◌, ℕ, ◌<◌, List, [], ◌∷◌, ◌++◌, length, Some, None, refl, ap, sym, ◌∙◌, subst, append_assoc, append-nil}
use Rattle.vkg_lists.specs.Lists.{AllBelow}
use Rattle.vkg_lists.proofs.Members.{each_from_recursion}
use Rattle.vkg_grammar.specs.declared.note.Note.{Note}
use Rattle.vkg_grammar.specs.declared.rule.Rule.{Rule}
use Rattle.vkg_grammar.specs.Machine.{at_end_of, at_token, Reach, Takes, IsDead, Parsed}
use Rattle.vkg_grammar.specs.Grammar.{Derives, done, MayBegin, MayFollow, IsLL1, IsProductive, IsAlive, IsGrammar}
use Rattle.vkg_grammar.specs.Parsing.{IsCutOff, IsTheText}
use Rattle.vkg_grammar.proofs.Core.{spelled, text_each}

pub none_begins : {g : List Rule} {n k : ℕ} → MayBegin g [] k → MayFollow g n k
none_begins {g = g} b = absurd (of_none b.2) where
  of_none : {k : ℕ} {ts : List ℕ} {ws : List Note} → Derives g [] (k ∷ ts) ws → ⊥
  of_none d = elim d [ ]

pub parsed_start : {g : List Rule} → IsGrammar g → Parsed g [] (0 ∷ []) []
parsed_start w = record { forward = λ ts ws d. d; backward = λ ts ws d. (ws, refl, d); fits = (λ k b. none_begins b, tt); below = (w.start, tt) }

pub parsed_take : {g : List Rule} {red old s : List ℕ} {taken more : List Note} {k : ℕ} → Parsed g red old taken → Takes g k old s more → Parsed g (red ++ k ∷ []) s (taken ++ more)
parsed_take {g = g} {red = red} {old = old} {s = s} {taken = taken} {more = more} {k = k} p t = record {
  forward = λ ts ws d. spelled (sym (append_assoc red (k ∷ []) ts)) (subst (λ y. Derives g (0 ∷ []) (red ++ k ∷ ts) y) (sym (append_assoc taken more ws)) (p.forward (k ∷ ts) (more ++ ws) (t.forward ts ws d)));
  backward = λ ts ws d.
      let b : (left : List Note) × (ws ≡ taken ++ left) × Derives g old (k ∷ ts) left = p.backward (k ∷ ts) ws (spelled (append_assoc red (k ∷ []) ts) d) in
      let a : (left : List Note) × (b.0 ≡ more ++ left) × Derives g s ts left = t.backward ts b.0 b.2 in
      (a.0, b.1 ∙ ap (λ y. taken ++ y) a.1 ∙ sym (append_assoc taken more a.0), a.2);
  fits = t.fits;
  below = t.below;
}

pub completed : {g : List Rule} → IsProductive g → (s : List ℕ) → AllBelow (length g) s → (ts : List ℕ) × (ws : List Note) × Derives g s ts ws
completed {g = g} ll s b = text_each s (λ n c. ll n (each_from_recursion (λ k. k < length g) s b n c))

pub parsed_alive : {g : List Rule} {red s : List ℕ} {taken : List Note} → IsLL1 g → Parsed g red s taken → IsAlive g red
parsed_alive {g = g} {s = s} {taken = taken} ll p =
    let c : (ts : List ℕ) × (ws : List Note) × Derives g s ts ws = completed ll.productive s p.below in
    (c.0, taken ++ c.1, p.forward c.0 c.1 c.2)

pub parsed_dead : {g : List Rule} {red s : List ℕ} {taken : List Note} (k : ℕ) → Parsed g red s taken → IsDead g s (Some k) → IsAlive g (red ++ k ∷ []) → ⊥
parsed_dead {g = g} {red = red} {s = s} {taken = taken} k p dead a =
    let b : (left : List Note) × (a.1 ≡ taken ++ left) × Derives g s (k ∷ a.0) left = p.backward (k ∷ a.0) a.1 (spelled (append_assoc red (k ∷ []) a.0) a.2) in
    dead (k ∷ a.0) b.0 at_token b.2

pub parsed_cut : {g : List Rule} {ts s : List ℕ} {taken : List Note} → IsLL1 g → Parsed g ts s taken → IsDead g s None → IsCutOff g ts
parsed_cut {g = g} {ts = ts} {s = s} {taken = taken} ll p dead = record {
  alive = parsed_alive ll p;
  no_text = λ ws d. let b : (left : List Note) × (ws ≡ taken ++ left) × Derives g s [] left = p.backward [] ws (spelled (sym (append-nil ts)) d) in dead [] b.0 at_end_of b.2;
}

pub parsed_text : {g : List Rule} {ts s : List ℕ} {taken more : List Note} → Parsed g ts s taken → Reach g None s [] more → IsTheText g ts (taken ++ more)
parsed_text {g = g} {ts = ts} {s = s} {taken = taken} {more = more} p r = record {
  derives = spelled (append-nil ts) (p.forward [] more (subst (λ y. Derives g s [] y) (append-nil more) (r.forward [] [] done)));
  only = λ vs d.
      let b : (left : List Note) × (vs ≡ taken ++ left) × Derives g s [] left = p.backward [] vs (spelled (sym (append-nil ts)) d) in
      let a : (left : List Note) × (b.0 ≡ more ++ left) × Derives g [] [] left = r.backward [] b.0 at_end_of b.2 in
      b.1 ∙ ap (λ y. taken ++ y) (a.1 ∙ ap (λ y. more ++ y) (no_ways a.2) ∙ append-nil more);
}
  where
    no_ways : {left : List Note} → Derives g [] [] left → left ≡ []
    no_ways done = refl

pub alive_front : {g : List Rule} (us vs : List ℕ) → IsAlive g (us ++ vs) → IsAlive g us
alive_front us vs a = (vs ++ a.0, a.1, spelled (append_assoc us vs a.0) a.2)
