-- Trees by the rules of a grammar, as a type that computes: what a symbol of a known rule is made of can be read off.
use Rattle.std.proofs.Common.{◌≡◌, ℕ, ◌+◌, ◌≤◌, Bool, true, false, List, Some, zero, suc, sym, subst, arith, ◌&&◌}
use Rattle.std.specs.Prelude.{slice_get}
use Rattle.vkg_lists.proofs.Bools.{and_parts}
use Rattle.vkg_grammar.specs.declared.rule.Rule.{Rule}
use Rattle.vkg_grammar.specs.declared.rule.Rule.TheVariants.{Token, Empty, Then, Either, Optional, Repeated}
use Rattle.vkg_grammar.specs.OneTree.{rule, IsTree}
use Rattle.vkg_grammar.specs.Laws.{IsMadeBy}
use Rattle.vkg_grammar.specs.Trees.{Tree, leaf, nothing, pair, first, second, size, IsFrom}
use Rattle.vkg_grammar.proofs.Shapes.{made}
use Rattle.vkg_sparql.specs.Meanings.{first_token}

module _ (g : List Rule) (ks : List ℕ) (start : ℕ) where
  -- the token i is of kind k and stands at the start or behind it
  pub record IsToken (k i : ℕ) : Type 0 where
    pub behind : start ≤ i
    pub kind : slice_get ks i ≡ Some k

  abbrev HasLeaf : Rule → ℕ → Type 0
  HasLeaf (Token k) i = IsToken k i
  HasLeaf r i = ⊥

  abbrev HasNothing : Rule → Type 0
  HasNothing Empty = Unit {0}
  HasNothing (Optional a) = Unit {0}
  HasNothing (Repeated a) = Unit {0}
  HasNothing r = ⊥

  abbrev HasPair : Rule → ℕ → (ℕ → Type 0) → (ℕ → Type 0) → Type 0
  HasPair (Then a b) n X Y = X a × Y b
  HasPair (Repeated a) n X Y = X a × Y n
  HasPair r n X Y = ⊥

  abbrev HasFirst : Rule → (ℕ → Type 0) → Type 0
  HasFirst (Either a b) X = X a
  HasFirst (Optional a) X = X a
  HasFirst r X = ⊥

  abbrev HasSecond : Rule → (ℕ → Type 0) → Type 0
  HasSecond (Either a b) X = X b
  HasSecond r X = ⊥

  -- the tree is one of the symbol n
  abbrev pub Has : Tree → ℕ → Type 0
  Has (leaf i) n = HasLeaf (rule g n) i
  Has nothing n = HasNothing (rule g n)
  Has (pair x y) n = HasPair (rule g n) n (Has x) (Has y)
  Has (first x) n = HasFirst (rule g n) (Has x)
  Has (second x) n = HasSecond (rule g n) (Has x)

  at_leaf : (r : Rule) (n i : ℕ) → IsMadeBy g ks n r (leaf i) → start ≤ i → HasLeaf r i
  at_leaf (Token k) n i h l = record { behind = l; kind = h }
  at_leaf r n i h l = absurd (h)

  at_nothing : (r : Rule) (n : ℕ) → IsMadeBy g ks n r nothing → HasNothing r
  at_nothing Empty n h = tt
  at_nothing (Optional a) n h = tt
  at_nothing (Repeated a) n h = tt
  at_nothing r n h = absurd (h)

  at_pair : (r : Rule) (n : ℕ) (x y : Tree) (X Y : ℕ → Type 0) → IsMadeBy g ks n r (pair x y) → ((a : ℕ) → IsTree g ks a x → X a) → ((a : ℕ) → IsTree g ks a y → Y a) → HasPair r n X Y
  at_pair (Then a b) n x y X Y h u v = (u a h.0, v b h.1)
  at_pair (Repeated a) n x y X Y h u v = (u a h.0, v n h.1)
  at_pair r n x y X Y h u v = absurd (h)

  at_first : (r : Rule) (n : ℕ) (x : Tree) (X : ℕ → Type 0) → IsMadeBy g ks n r (first x) → ((a : ℕ) → IsTree g ks a x → X a) → HasFirst r X
  at_first (Either a b) n x X h u = u a h
  at_first (Optional a) n x X h u = u a h
  at_first r n x X h u = absurd (h)

  at_second : (r : Rule) (n : ℕ) (x : Tree) (X : ℕ → Type 0) → IsMadeBy g ks n r (second x) → ((a : ℕ) → IsTree g ks a x → X a) → HasSecond r X
  at_second (Either a b) n x X h u = u b h
  at_second r n x X h u = absurd (h)

  further : (at n : ℕ) → start ≤ at → start ≤ at + n
  further at n l = omega (arith, l)

  -- a tree whose tokens are numbered from a place behind the start
  pub has : (t : Tree) (n at : ℕ) → IsTree g ks n t → IsFrom at t → start ≤ at → Has t n
  has (leaf i) n at h f l = at_leaf (rule g n) n i (made h) (subst (λ j. start ≤ j) (sym f) l)
  has nothing n at h f l = at_nothing (rule g n) n (made h)
  has (pair x y) n at h f l = at_pair (rule g n) n x y (Has x) (Has y) (made h) (λ a k. has x a at k f.0 l) (λ a k. has y a (at + size x) k f.1 (further at (size x) l))
  has (first x) n at h f l = at_first (rule g n) n x (Has x) (made h) (λ a k. has x a at k f l)
  has (second x) n at h f l = at_second (rule g n) n x (Has x) (made h) (λ a k. has x a at k f l)

  abbrev led : Rule → (ℕ → Bool) → (ℕ → Bool) → Bool
  led (Token k) p go = p k
  led (Then a b) p go = go a
  led (Either a b) p go = go a && go b
  led r p go = false

  -- every tree of the symbol begins with a token whose kind passes the test, as so many steps through the rules show
  abbrev pub leads : ℕ → (ℕ → Bool) → ℕ → Bool
  leads zero p n = false
  leads (suc m) p n = led (rule g n) p (leads m p)

  -- the first token is of a kind that passes the test
  pub record Leads (p : ℕ → Bool) (t : Tree) : Type 0 where
    pub kind : ℕ
    pub passes : p kind ≡ true
    pub token : IsToken kind (first_token t)

  lead_leaf : (r : Rule) (p go : ℕ → Bool) (i : ℕ) → led r p go ≡ true → HasLeaf r i → Leads p (leaf i)
  lead_leaf (Token k) p go i e h = record { kind = k; passes = e; token = h }
  lead_leaf r p go i e h = absurd (h)

  lead_nothing : (r : Rule) (p go : ℕ → Bool) → led r p go ≡ true → HasNothing r → ⊥
  lead_nothing Empty p go e h = absurd (cc)
  lead_nothing (Optional a) p go e h = absurd (cc)
  lead_nothing (Repeated a) p go e h = absurd (cc)
  lead_nothing r p go e h = h

  lead_pair : (r : Rule) (n : ℕ) (p go : ℕ → Bool) (X Y : ℕ → Type 0) → led r p go ≡ true → HasPair r n X Y → (a : ℕ) × (go a ≡ true) × X a
  lead_pair (Then a b) n p go X Y e h = (a, e, h.0)
  lead_pair (Repeated a) n p go X Y e h = absurd (cc)
  lead_pair r n p go X Y e h = absurd (h)

  lead_first : (r : Rule) (p go : ℕ → Bool) (X : ℕ → Type 0) → led r p go ≡ true → HasFirst r X → (a : ℕ) × (go a ≡ true) × X a
  lead_first (Either a b) p go X e h = (a, (and_parts (go a) (go b) e).0, h)
  lead_first (Optional a) p go X e h = absurd (cc)
  lead_first r p go X e h = absurd (h)

  lead_second : (r : Rule) (p go : ℕ → Bool) (X : ℕ → Type 0) → led r p go ≡ true → HasSecond r X → (a : ℕ) × (go a ≡ true) × X a
  lead_second (Either a b) p go X e h = (b, (and_parts (go a) (go b) e).1, h)
  lead_second r p go X e h = absurd (h)

  pub lead : (m : ℕ) (p : ℕ → Bool) (t : Tree) (n : ℕ) → leads m p n ≡ true → Has t n → Leads p t
  lead zero p t n e h = absurd (cc)
  lead (suc m) p (leaf i) n e h = lead_leaf (rule g n) p (leads m p) i e h
  lead (suc m) p nothing n e h = absurd (lead_nothing (rule g n) p (leads m p) e h)
  lead (suc m) p (pair x y) n e h =
      let w = lead_pair (rule g n) n p (leads m p) (Has x) (Has y) e h in
      let l = lead m p x w.0 w.1 w.2 in
      record { kind = l.kind; passes = l.passes; token = l.token }
  lead (suc m) p (first x) n e h =
      let w = lead_first (rule g n) p (leads m p) (Has x) e h in
      let l = lead m p x w.0 w.1 w.2 in
      record { kind = l.kind; passes = l.passes; token = l.token }
  lead (suc m) p (second x) n e h =
      let w = lead_second (rule g n) p (leads m p) (Has x) e h in
      let l = lead m p x w.0 w.1 w.2 in
      record { kind = l.kind; passes = l.passes; token = l.token }
