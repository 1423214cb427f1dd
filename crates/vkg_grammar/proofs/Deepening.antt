-- The goals of `first_too_deep`, over plain variables.
use Rattle.std.proofs.Common.{◌≡◌, ℕ, ◌+◌, ◌-◌, ◌<◌, ◌≤◌, Bool, true, false, inl, inr, List, [], ◌∷◌, take, length, get_or, ap, sym, ◌∙◌, subst, arith, if◌then◌else◌, nat_eq}
use Rattle.std.specs.List.{list_any}
use Rattle.std.proofs.lemmas.Bool.{cases_lt}
use Rattle.std.proofs.lemmas.List.{get_or-map, length-map, take_more}
use Rattle.std.proofs.lemmas.List.Sums.{fold-append}
use Rattle.vkg_tokens.specs.declared.cutting.Token.{Token}
use Rattle.vkg_grammar.specs.Form.{Form, deepened, depth, allows, IsTooDeep}
use Rattle.vkg_grammar.specs.Kinds.{kinds_of}

-- What is known of the first n tokens, behind which d brackets are open.
pub record AllowedUpTo (g : Form) (ks : List ℕ) (n d : ℕ) : Type 0 where
  pub is : d ≡ depth g (take n ks)
  pub small : d ≤ n
  pub before : (m : ℕ) → m < n → allows g.limit (depth g (take (m + 1) ks)) ≡ true

by_test : (b c : Bool) (d : ℕ) → (if b then d + 1 else if c then d - 1 else d) ≤ d + 1
by_test true c d = omega arith
by_test false true d = omega arith
by_test false false d = omega arith

one_deeper : (g : Form) (d k : ℕ) → deepened g d k ≤ d + 1
unfolding deepened
one_deeper g d k = by_test (list_any (λ o. nat_eq o k) g.openers) (list_any (λ c. nat_eq c k) g.closers) d

depth_more : (g : Form) (ts : List Token) (n : ℕ) (e : Token) → n < length ts → depth g (take (n + 1) (kinds_of ts)) ≡ deepened g (depth g (take n (kinds_of ts))) (get_or ts n e).kind
depth_more g ts n e h =
    let ks : List ℕ = kinds_of ts in
    let inside : n < length ks = omega (arith, h, length-map ts (λ t. t.kind)) in
    ap (depth g) (take_more ks n 0 inside) ∙ fold-append (deepened g) 0 (take n ks) (get_or ks n 0 ∷ []) ∙ ap (deepened g (depth g (take n ks))) (get_or-map (λ t. t.kind) ts n e 0 h)

-- how deep the brackets are behind one more token
deeper : {g : Form} (ts : List Token) {n d d' : ℕ} (e : Token) → AllowedUpTo g (kinds_of ts) n d → n < length ts → d' ≡ deepened g d (get_or ts n e).kind → d' ≡ depth g (take (n + 1) (kinds_of ts))
deeper {g = g} ts {n = n} e a h q = q ∙ ap (λ x. deepened g x (get_or ts n e).kind) a.is ∙ sym (depth_more g ts n e h)

pub one_more : {g : Form} (ts : List Token) {n d d' : ℕ} (e : Token) → AllowedUpTo g (kinds_of ts) n d → n < length ts → d' ≡ deepened g d (get_or ts n e).kind → allows g.limit d' ≡ true → AllowedUpTo g (kinds_of ts) (n + 1) d'
one_more {g = g} ts {n = n} {d = d} {d' = d'} e a h q allowed = record {
  is = deeper ts e a h q;
  small = (let step : d' ≤ d + 1 = subst (λ x. x ≤ d + 1) (sym q) (one_deeper g d (get_or ts n e).kind) in omega (arith, a.small));
  before = λ m lt. elim (cases_lt m n) [ inl l ↦ a.before m l | inr ge ↦ (let same : n ≡ m = omega arith in subst (λ x. allows g.limit (depth g (take (x + 1) (kinds_of ts))) ≡ true) same (subst (λ x. allows g.limit x ≡ true) (deeper ts e a h q) allowed)) ];
}

pub too_deep : {g : Form} (ts : List Token) {n d d' : ℕ} (e : Token) → AllowedUpTo g (kinds_of ts) n d → n < length ts → d' ≡ deepened g d (get_or ts n e).kind → allows g.limit d' ≡ false → IsTooDeep g (kinds_of ts) n
too_deep {g = g} ts {n = n} e a h q refused = record {
  inside = omega (arith, h, length-map ts (λ t. t.kind));
  deep = subst (λ x. allows g.limit x ≡ false) (deeper ts e a h q) refused;
  before = a.before;
}
