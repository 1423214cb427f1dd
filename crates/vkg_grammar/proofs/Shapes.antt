-- A tree stands for a symbol exactly where it is made as the symbol's rule says.
use Rattle.std.proofs.Common.{◌≡◌, ℕ, List, [], ◌∷◌, Some, refl, ap, sym, subst}
use Rattle.vkg_grammar.specs.declared.rule.Rule.{Rule}
use Rattle.vkg_grammar.specs.declared.rule.Rule.TheVariants.{Token, Empty, Then, Either, Optional, Repeated}
use Rattle.vkg_grammar.specs.declared.note.Act.TheVariants as act
use Rattle.vkg_grammar.specs.Laws.{IsMadeBy, TreesFollowRules}
use Rattle.vkg_grammar.specs.OneTree.{rule, parts, IsTree, a_token, a_nothing, a_pair, a_first, a_second}
use Rattle.vkg_grammar.specs.Trees.{Tree, leaf, nothing, pair, first, second}

moved : {g : List Rule} {ks : List ℕ} {n m : ℕ} {t : Tree} → n ≡ m → IsTree g ks n t → IsTree g ks m t
moved {g = g} {ks = ks} {t = t} e w = subst (λ n. IsTree g ks n t) e w

of_nothing : (g : List Rule) (ks : List ℕ) (n : ℕ) (r : Rule) → parts r n act.Nothing ≡ Some [] → IsMadeBy g ks n r nothing
of_nothing g ks n (Token k) p = absurd (cc)
of_nothing g ks n Empty p = tt
of_nothing g ks n (Then a b) p = absurd (cc)
of_nothing g ks n (Either a b) p = absurd (cc)
of_nothing g ks n (Optional a) p = tt
of_nothing g ks n (Repeated a) p = tt

of_pair : (g : List Rule) (ks : List ℕ) (n : ℕ) (r : Rule) {a b : ℕ} (x y : Tree) → parts r n act.Pair ≡ Some (a ∷ b ∷ []) → IsTree g ks a x → IsTree g ks b y → IsMadeBy g ks n r (pair x y)
of_pair g ks n (Token k) x y p v w = absurd (cc)
of_pair g ks n Empty x y p v w = absurd (cc)
of_pair g ks n (Then c d) x y p v w = (moved (cc) v, moved (cc) w)
of_pair g ks n (Either c d) x y p v w = absurd (cc)
of_pair g ks n (Optional c) x y p v w = absurd (cc)
of_pair g ks n (Repeated c) x y p v w = (moved (cc) v, moved (cc) w)

of_first : (g : List Rule) (ks : List ℕ) (n : ℕ) (r : Rule) {a : ℕ} (x : Tree) → parts r n act.First ≡ Some (a ∷ []) → IsTree g ks a x → IsMadeBy g ks n r (first x)
of_first g ks n (Token k) x p v = absurd (cc)
of_first g ks n Empty x p v = absurd (cc)
of_first g ks n (Then c d) x p v = absurd (cc)
of_first g ks n (Either c d) x p v = moved (cc) v
of_first g ks n (Optional c) x p v = moved (cc) v
of_first g ks n (Repeated c) x p v = absurd (cc)

of_second : (g : List Rule) (ks : List ℕ) (n : ℕ) (r : Rule) {a : ℕ} (x : Tree) → parts r n act.Second ≡ Some (a ∷ []) → IsTree g ks a x → IsMadeBy g ks n r (second x)
of_second g ks n (Token k) x p v = absurd (cc)
of_second g ks n Empty x p v = absurd (cc)
of_second g ks n (Then c d) x p v = absurd (cc)
of_second g ks n (Either c d) x p v = moved (cc) v
of_second g ks n (Optional c) x p v = absurd (cc)
of_second g ks n (Repeated c) x p v = absurd (cc)

pub made : {g : List Rule} {ks : List ℕ} {n : ℕ} {t : Tree} → IsTree g ks n t → IsMadeBy g ks n (rule g n) t
made {g = g} {ks = ks} {n = n} (a_token {k = k} {i = i} p o) = subst (λ r. IsMadeBy g ks n r (leaf i)) (sym p) o
made {g = g} {ks = ks} {n = n} (a_nothing p) = of_nothing g ks n (rule g n) p
made {g = g} {ks = ks} {n = n} (a_pair {x = x} {y = y} p v w) = of_pair g ks n (rule g n) x y p v w
made {g = g} {ks = ks} {n = n} (a_first {x = x} p v) = of_first g ks n (rule g n) x p v
made {g = g} {ks = ks} {n = n} (a_second {x = x} p v) = of_second g ks n (rule g n) x p v

stands : (g : List Rule) (ks : List ℕ) (n : ℕ) (r : Rule) (t : Tree) → rule g n ≡ r → IsMadeBy g ks n r t → IsTree g ks n t
stands g ks n (Token k) (leaf i) e m = a_token e m
stands g ks n Empty nothing e m = a_nothing (ap (λ r. parts r n act.Nothing) e)
stands g ks n (Then a b) (pair x y) e m = a_pair (ap (λ r. parts r n act.Pair) e) m.0 m.1
stands g ks n (Either a b) (first x) e m = a_first (ap (λ r. parts r n act.First) e) m
stands g ks n (Either a b) (second x) e m = a_second (ap (λ r. parts r n act.Second) e) m
stands g ks n (Optional a) (first x) e m = a_first (ap (λ r. parts r n act.First) e) m
stands g ks n (Optional a) nothing e m = a_nothing (ap (λ r. parts r n act.Nothing) e)
stands g ks n (Repeated a) (pair x y) e m = a_pair (ap (λ r. parts r n act.Pair) e) m.0 m.1
stands g ks n (Repeated a) nothing e m = a_nothing (ap (λ r. parts r n act.Nothing) e)
stands g ks n r t e m = absurd (m)

pub trees_follow_rules : TreesFollowRules
trees_follow_rules g ks n t = (made, stands g ks n (rule g n) t refl)
