-- The goals of `parse_by`, over plain variables.
use Rattle.std.proofs.Common.{◌≡◌, ℕ, ◌+◌, ◌<◌, ◌≤◌, inl, inr, true, false, List, [], ◌∷◌, ◌++◌, length, get_or, take, drop, Option, Some, None, ap, sym, ◌∙◌, subst, arith, reverse}
use Rattle.std.proofs.lemmas.Bool.{cases_lt}
use Rattle.std.proofs.lemmas.List.{take_more, take-take, take-append-drop, take_all, get_or-map, length-map}
use Rattle.vkg_tokens.specs.declared.cutting.Token.{Token}
use Rattle.vkg_grammar.specs.Kinds.{kinds_of}
use Rattle.vkg_grammar.specs.declared.note.Note.{Note}
use Rattle.vkg_grammar.specs.declared.rule.Rule.{Rule}
use Rattle.vkg_grammar.specs.Grammar.{IsLL1, IsGrammar, IsAlive}
use Rattle.vkg_grammar.specs.Machine.{IsDead, Advances, took, ended, died, Parsed}
use Rattle.vkg_grammar.specs.Parsing.{IsFirstDead, IsCutOff, IsTheText}
use Rattle.vkg_grammar.proofs.Outer.{parsed_start, parsed_take, parsed_alive, parsed_dead, parsed_cut, parsed_text, alive_front}
use Rattle.vkg_grammar.proofs.Replacing.{pushed}

dead_of : {g : List Rule} {s s' : List ℕ} {b b' : List Note} {c : Option ℕ} → Advances g s s' b b' c false → IsDead g s c
dead_of (died d) = d

pub start_parsed : {g : List Rule} (stack none : List ℕ) (ways : List Note) → IsGrammar g → none ≡ [] → stack ≡ none ++ 0 ∷ [] → ways ≡ [] → Parsed g [] (reverse stack) ways
start_parsed {g = g} stack none ways w z e q =
    let same : reverse stack ≡ 0 ∷ [] = pushed none e ∙ ap (λ y. 0 ∷ reverse y) z in
    subst (λ y. Parsed g [] y ways) (sym same) (subst (λ y. Parsed g [] (0 ∷ []) y) (sym q) (parsed_start w))

pub first_dead : {g : List Rule} {s s' : List ℕ} {taken after : List Note} (ts : List ℕ) (n : ℕ) → IsLL1 g → n < length ts → Parsed g (take n ts) s taken → Advances g s s' taken after (Some (get_or ts n 0)) false → IsFirstDead g ts n
first_dead {g = g} ts n ll h p a = record {
  inside = h;
  dead = λ alive. parsed_dead (get_or ts n 0) p (dead_of a) (subst (IsAlive g) (take_more ts n 0 h) alive);
  alive = λ m lt. let whole : take (m + 1) ts ++ drop (m + 1) (take n ts) ≡ take n ts = ap (λ y. y ++ drop (m + 1) (take n ts)) (sym (take-take (m + 1) n ts (omega arith))) ∙ take-append-drop (m + 1) (take n ts) in
      alive_front (take (m + 1) ts) (drop (m + 1) (take n ts)) (subst (IsAlive g) (sym whole) (parsed_alive ll p));
}

pub parsed_more : {g : List Rule} {s s' : List ℕ} {taken after : List Note} (ts : List ℕ) (n : ℕ) → n < length ts → Parsed g (take n ts) s taken → Advances g s s' taken after (Some (get_or ts n 0)) true → Parsed g (take (n + 1) ts) s' after
parsed_more {g = g} {s = s} {s' = s'} {taken = taken} {after = after} ts n h p a = by_kind a
  where
    by_kind : Advances g s s' taken after (Some (get_or ts n 0)) true → Parsed g (take (n + 1) ts) s' after
    by_kind (took more e t) = subst (λ y. Parsed g y s' after) (sym (take_more ts n 0 h)) (subst (λ y. Parsed g (take n ts ++ get_or ts n 0 ∷ []) s' y) (sym e) (parsed_take p t))

pub cut_off : {g : List Rule} {s s' : List ℕ} {taken after : List Note} (ts : List ℕ) (n : ℕ) → IsLL1 g → length ts ≤ n → Parsed g (take n ts) s taken → Advances g s s' taken after None false → IsCutOff g ts
cut_off {g = g} {s = s} {taken = taken} ts n ll h p a = parsed_cut ll (subst (λ y. Parsed g y s taken) (take_all n ts h) p) (dead_of a)

pub the_text : {g : List Rule} {s s' : List ℕ} {taken after : List Note} (ts : List ℕ) (n : ℕ) → length ts ≤ n → Parsed g (take n ts) s taken → Advances g s s' taken after None true → IsTheText g ts after
the_text {g = g} {s = s} {taken = taken} ts n h p (ended more e r) = subst (λ y. IsTheText g ts y) (sym e) (parsed_text (subst (λ y. Parsed g y s taken) (take_all n ts h) p) r)

-- the same of a list of tokens
pub first_dead_token : {g : List Rule} {s s' : List ℕ} {taken after : List Note} (tokens : List Token) (n : ℕ) (e : Token) → IsLL1 g → n < length tokens → Parsed g (take n (kinds_of tokens)) s taken → Advances g s s' taken after (Some (get_or tokens n e).kind) false → IsFirstDead g (kinds_of tokens) n
first_dead_token {g = g} {s = s} {s' = s'} {taken = taken} {after = after} tokens n e ll h p a =
    first_dead (kinds_of tokens) n ll (omega (arith, h, length-map tokens (λ t. t.kind))) p (subst (λ k. Advances g s s' taken after (Some k) false) (sym (get_or-map (λ t. t.kind) tokens n e 0 h)) a)

pub parsed_token : {g : List Rule} {s s' : List ℕ} {taken after : List Note} (tokens : List Token) (n : ℕ) (e : Token) → n < length tokens → Parsed g (take n (kinds_of tokens)) s taken → Advances g s s' taken after (Some (get_or tokens n e).kind) true → Parsed g (take (n + 1) (kinds_of tokens)) s' after
parsed_token {g = g} {s = s} {s' = s'} {taken = taken} {after = after} tokens n e h p a =
    parsed_more (kinds_of tokens) n (omega (arith, h, length-map tokens (λ t. t.kind))) p (subst (λ k. Advances g s s' taken after (Some k) true) (sym (get_or-map (λ t. t.kind) tokens n e 0 h)) a)

pub past_all : (tokens : List Token) (n : ℕ) → (n < length tokens → ⊥) → length (kinds_of tokens) ≤ n
past_all tokens n h = elim (cases_lt n (length tokens)) [ inl l ↦ absurd (h l) | inr g ↦ omega (arith, g, length-map tokens (λ t. t.kind)) ]
