-- A list of tokens has one outcome.
use Rattle.std.proofs.Common.{◌≡◌, ℕ, ◌+◌, ◌<◌, inl, inr, List, [], ◌∷◌, Result, Ok, Err, take, drop, refl, ap, sym, ◌∙◌, subst, arith, take-append-drop, true≢false}
use Rattle.std.proofs.lemmas.Bool.{cases_lt}
use Rattle.vkg_grammar.specs.declared.note.Note.{Note}
use Rattle.vkg_grammar.specs.declared.parsing.ParseFault.{ParseFault}
use Rattle.vkg_grammar.specs.declared.parsing.ParseFault.TheVariants.{Memory, TooDeep, Dead, Ended}
use Rattle.vkg_grammar.specs.declared.rule.Rule.{Rule}
use Rattle.vkg_grammar.specs.Form.{Form, IsTooDeep, IsShallow}
use Rattle.vkg_grammar.specs.Grammar.{Derives, IsAlive}
use Rattle.vkg_grammar.specs.Kinds.{kinds_of, start_at}
use Rattle.vkg_grammar.specs.Laws.{HaveOneOutcome}
use Rattle.std.proofs.lemmas.List.{append-nil}
use Rattle.vkg_lists.proofs.Results.{err_same, ok_err, ok_same}
use Rattle.vkg_grammar.proofs.Core.{spelled}
use Rattle.vkg_grammar.proofs.Outer.{alive_front}
use Rattle.vkg_grammar.specs.Parsing.{IsFirstDead, IsCutOff, IsTheText, Fails, NoTextAt}
use Rattle.vkg_tokens.specs.declared.cutting.Token.{Token}

-- what cuts a text gives its tokens, or one place where none begins
pub same_tokens : {r : Result (List Token) ℕ} {ts us : List Token} → r ≡ Ok ts → r ≡ Ok us → ts ≡ us
same_tokens e f = ok_same _ _ (sym e ∙ f)

pub same_place : {r : Result (List Token) ℕ} {a b : ℕ} → r ≡ Err a → r ≡ Err b → a ≡ b
same_place e f = err_same _ _ (sym e ∙ f)

pub not_tokens : {r : Result (List Token) ℕ} {ts : List Token} {a : ℕ} → r ≡ Ok ts → r ≡ Err a → ⊥
not_tokens e f = ok_err _ _ (sym e ∙ f)

-- the least of a kind is one
least : (m n : ℕ) → (m < n → ⊥) → (n < m → ⊥) → m ≡ n
least m n p q = elim (cases_lt m n) [ inl l ↦ absurd (p l) | inr g ↦ (elim (cases_lt n m) [ inl l ↦ absurd (q l) | inr h ↦ omega arith ]) ]

pub not_deep : (g : Form) (ks : List ℕ) (n : ℕ) → IsShallow g ks → IsTooDeep g ks n → ⊥
not_deep g ks n s t = true≢false (sym (s n t.inside) ∙ t.deep)

pub one_deep : (g : Form) (ks : List ℕ) (m n : ℕ) → IsTooDeep g ks m → IsTooDeep g ks n → m ≡ n
one_deep g ks m n a b = least m n (λ l. true≢false (sym (b.before m l) ∙ a.deep)) (λ l. true≢false (sym (a.before n l) ∙ b.deep))

-- what begins a text is not dead
alive_part : (g : List Rule) (ts : List ℕ) (n : ℕ) → IsAlive g ts → IsAlive g (take (n + 1) ts)
alive_part g ts n a = alive_front (take (n + 1) ts) (drop (n + 1) ts) (subst (IsAlive g) (sym (take-append-drop (n + 1) ts)) a)

pub one_dead : (g : List Rule) (ts : List ℕ) (m n : ℕ) → IsFirstDead g ts m → IsFirstDead g ts n → m ≡ n
one_dead g ts m n a b = least m n (λ l. a.dead (b.alive m l)) (λ l. b.dead (a.alive n l))

text_alive : (g : List Rule) (ts : List ℕ) (ws : List Note) → Derives g (0 ∷ []) ts ws → IsAlive g ts
text_alive g ts ws d = ([], ws, spelled (sym (append-nil ts)) d)

-- no token of a text is dead
pub alive_text : (g : List Rule) (ts : List ℕ) (ws : List Note) (n : ℕ) → Derives g (0 ∷ []) ts ws → IsFirstDead g ts n → ⊥
alive_text g ts ws n d dead = dead.dead (alive_part g ts n (text_alive g ts ws d))

-- nor of what begins one
pub not_cut : (g : List Rule) (ts : List ℕ) (n : ℕ) → IsFirstDead g ts n → IsCutOff g ts → ⊥
not_cut g ts n a b = a.dead (alive_part g ts n b.alive)

pub no_text : (g : List Rule) (text : List ℕ) (ts : List Token) (ws : List Note) (at : ℕ) → Derives g (0 ∷ []) (kinds_of ts) ws → NoTextAt g text ts at → ⊥
no_text g text ts ws at d (inl p) = alive_text g (kinds_of ts) ws p.0 d p.1
no_text g text ts ws at d (inr p) = p.0.no_text ws d

-- tokens are no text at one place
pub one_place : (g : List Rule) (text : List ℕ) (ts : List Token) (a b : ℕ) → NoTextAt g text ts a → NoTextAt g text ts b → a ≡ b
one_place g text ts a b (inl p) (inl q) = p.2 ∙ ap (start_at ts) (one_dead g (kinds_of ts) p.0 q.0 p.1 q.1) ∙ sym q.2
one_place g text ts a b (inl p) (inr q) = absurd (not_cut g (kinds_of ts) p.0 p.1 q.0)
one_place g text ts a b (inr p) (inl q) = absurd (not_cut g (kinds_of ts) q.0 q.1 p.0)
one_place g text ts a b (inr p) (inr q) = p.1 ∙ sym q.1

-- ---- the same of a text whose tokens are cut twice

pub too_deep_once : (g : Form) {r : Result (List Token) ℕ} {ts us : List Token} {m n a b : ℕ} → r ≡ Ok ts → r ≡ Ok us → IsTooDeep g (kinds_of ts) m → IsTooDeep g (kinds_of us) n → a ≡ start_at ts m → b ≡ start_at us n → a ≡ b
too_deep_once g {ts = ts} {us = us} {m = m} {n = n} c d x y p q =
    let t : us ≡ ts = same_tokens d c in
    let z : IsTooDeep g (kinds_of ts) n = subst (λ vs. IsTooDeep g (kinds_of vs) n) t y in
    p ∙ (λ i. start_at (sym t i) (one_deep g (kinds_of ts) m n x z i)) ∙ sym q

pub deep_not_shallow : (g : Form) {r : Result (List Token) ℕ} {ts us : List Token} {n : ℕ} → r ≡ Ok ts → r ≡ Ok us → IsTooDeep g (kinds_of ts) n → IsShallow g (kinds_of us) → ⊥
deep_not_shallow g {us = us} {n = n} c d x s = not_deep g (kinds_of us) n s (subst (λ vs. IsTooDeep g (kinds_of vs) n) (same_tokens c d) x)

pub derived_no_text : (g : List Rule) (text : List ℕ) {r : Result (List Token) ℕ} {ts us : List Token} {ws : List Note} {at : ℕ} → r ≡ Ok ts → r ≡ Ok us → Derives g (0 ∷ []) (kinds_of ts) ws → NoTextAt g text us at → ⊥
derived_no_text g text {us = us} {ws = ws} {at = at} c d derived n = no_text g text us ws at (subst (λ vs. Derives g (0 ∷ []) (kinds_of vs) ws) (same_tokens c d) derived) n

pub no_text_once : (g : List Rule) (text : List ℕ) {r : Result (List Token) ℕ} {ts us : List Token} {a b : ℕ} → r ≡ Ok ts → r ≡ Ok us → NoTextAt g text ts a → NoTextAt g text us b → a ≡ b
no_text_once g text {ts = ts} {a = a} {b = b} c d x y = one_place g text ts a b x (subst (λ vs. NoTextAt g text vs b) (same_tokens d c) y)

one_fault : (g : Form) (ks : List ℕ) (e f : ParseFault) → Fails g ks e → Fails g ks f → (e ≡ Memory → ⊥) → (f ≡ Memory → ⊥) → e ≡ f
one_fault g ks Memory f a b p q = absurd (p refl)
one_fault g ks e Memory a b p q = absurd (q refl)
one_fault g ks (TooDeep m) (TooDeep n) a b p q = ap TooDeep (one_deep g ks m n a b)
one_fault g ks (TooDeep m) (Dead n) a b p q = absurd (not_deep g ks m b.0 a)
one_fault g ks (TooDeep m) Ended a b p q = absurd (not_deep g ks m b.0 a)
one_fault g ks (Dead m) (TooDeep n) a b p q = absurd (not_deep g ks n a.0 b)
one_fault g ks (Dead m) (Dead n) a b p q = ap Dead (one_dead g.rules ks m n a.1 b.1)
one_fault g ks (Dead m) Ended a b p q = absurd (not_cut g.rules ks m a.1 b.1)
one_fault g ks Ended (TooDeep n) a b p q = absurd (not_deep g ks n a.0 b)
one_fault g ks Ended (Dead n) a b p q = absurd (not_cut g.rules ks n b.1 a.1)
one_fault g ks Ended Ended a b p q = refl

no_fault : (g : Form) (ks : List ℕ) (ws : List Note) (e : ParseFault) → IsShallow g ks → IsTheText g.rules ks ws → Fails g ks e → e ≡ Memory
no_fault g ks ws Memory s w f = refl
no_fault g ks ws (TooDeep n) s w f = absurd (not_deep g ks n s f)
no_fault g ks ws (Dead n) s w f = absurd (alive_text g.rules ks ws n w.derives f.1)
no_fault g ks ws Ended s w f = absurd (f.1.no_text ws w.derives)

pub one_outcome : HaveOneOutcome
one_outcome = record { one_fault = one_fault; no_fault = no_fault }
