-- The goals of `advance`, over plain variables.
use Rattle.std.proofs.Common.{◌≡◌, ℕ, Bool, true, false, List, [], ◌∷◌, ◌++◌, Option, Some, None, ap, sym, ◌∙◌, subst, append_assoc, append-nil, reverse, is_some, not}
use Rattle.vkg_grammar.specs.declared.note.Note.{Note}
use Rattle.vkg_grammar.specs.declared.note.Act.TheVariants.{Leaf}
use Rattle.vkg_grammar.specs.declared.rule.Rule.{Rule}
use Rattle.vkg_grammar.specs.declared.machine.Step.TheVariants.{Taken, Stuck, More}
use Rattle.vkg_grammar.specs.Grammar.{noted, IsLL1, IsGrammar}
use Rattle.vkg_grammar.specs.Machine.{Moves, move_parts, move_first, move_second, HasStepped, Reach, Takes, Advances, took, ended, died, IsReached}
use Rattle.vkg_grammar.proofs.Stepping.{reach_parts, reach_first, reach_second, takes_token, stuck, stuck_out}
use Rattle.vkg_grammar.proofs.Replacing.{pushed}

-- the stack of a list whose last element is n
pub on_stack : {start : List ℕ} {g : List Rule} {c : Option ℕ} {n : ℕ} (items front : List ℕ) (before after : List Note) → items ≡ front ++ n ∷ [] → IsReached g c start (reverse items) before after → IsReached g c start (n ∷ reverse front) before after
on_stack {start = start} {g = g} {c = c} items front before after e r = subst (λ y. IsReached g c start y before after) (pushed front e) r

moved_on : {g : List Rule} {c : Option ℕ} {n : ℕ} {start s : List ℕ} {taken : List Note} (xs : List ℕ) {ws : List Note} → IsGrammar g → IsLL1 g → Moves g c n xs ws → Reach g c start (n ∷ s) taken → Reach g c start (xs ++ s) (taken ++ ws)
moved_on xs w ll (move_parts e) r = reach_parts w e r
moved_on xs w ll (move_first ys e p) r = reach_first w ll e p r
moved_on xs w ll (move_second ys e p) r = reach_second w ll e p r

pub reached_more : {g : List Rule} (rank : ℕ → Option ℕ → ℕ) {c : Option ℕ} {n : ℕ} {start : List ℕ} (front after : List ℕ) (before old new : List Note) → IsGrammar g → IsLL1 g → HasStepped g rank c n front after old new More → IsReached g c start (n ∷ front) before old → IsReached g c start after before new
reached_more {g = g} rank {c = c} {start = start} front after before old new w ll h r =
    (r.0 ++ h.1, h.4 ∙ ap (λ y. y ++ h.1) r.1 ∙ append_assoc before r.0 h.1, subst (λ y. Reach g c start y (r.0 ++ h.1)) (sym h.3) (moved_on h.0 w ll h.2 r.2))

pub advanced_taken : {g : List Rule} (rank : ℕ → Option ℕ → ℕ) {c : Option ℕ} {n : ℕ} {start : List ℕ} (front after : List ℕ) (before old new : List Note) → HasStepped g rank c n front after old new Taken → IsReached g c start (n ∷ front) before old → Advances g start after before new c true
advanced_taken {g = g} rank {c = c} {n = n} {start = start} front after before old new h r =
    subst (λ y. Advances g start after before new y true) (sym h.1)
    (took (r.0 ++ noted n Leaf ∷ []) (h.4 ∙ ap (λ y. y ++ noted n Leaf ∷ []) r.1 ∙ append_assoc before r.0 (noted n Leaf ∷ [])) (subst (λ y. Takes g h.0 start y (r.0 ++ noted n Leaf ∷ [])) (sym h.3) (takes_token h.2 (subst (λ y. Reach g y start (n ∷ front) r.0) h.1 r.2))))

pub advanced_stuck : {g : List Rule} (rank : ℕ → Option ℕ → ℕ) {c : Option ℕ} {n : ℕ} {start : List ℕ} (front after : List ℕ) (before old new : List Note) → HasStepped g rank c n front after old new Stuck → IsReached g c start (n ∷ front) before old → Advances g start after before new c false
advanced_stuck rank front after before old new h r = died (stuck h.0 h.1 r.2)

pub advanced_out : {g : List Rule} (c : Option ℕ) {start : List ℕ} (items rest : List ℕ) (before after : List Note) (r : Bool) → items ≡ rest ++ [] → rest ≡ [] → is_some c ≡ not r → IsReached g c start (reverse items) before after → Advances g start (reverse rest) before after c r
advanced_out {g = g} c {start = start} items rest before after r e z q reached =
    let same : reverse items ≡ reverse rest = ap reverse (e ∙ append-nil rest) in
    let none : reverse rest ≡ [] = ap reverse z in
    subst (λ y. Advances g start y before after c r) (sym none) (by_seen c r q (subst (λ y. IsReached g c start y before after) (same ∙ none) reached))
  where
    by_seen : (c : Option ℕ) (r : Bool) → is_some c ≡ not r → IsReached g c start [] before after → Advances g start [] before after c r
    by_seen None true q reached = ended reached.0 reached.1 reached.2
    by_seen None false q reached = absurd (cc)
    by_seen (Some k) true q reached = absurd (cc)
    by_seen (Some k) false q reached = died (stuck_out reached.2)
