-- The loops reach the end of a lawful rule, and what they give is lawful.
use Rattle.std.proofs.Common.{◌≡◌, ℕ, zero, suc, ◌<◌, ◌≤◌, [], ◌∷◌, Option, Some, None, refl, sym, ap, ◌∙◌, subst, arith}
use Rattle.std.specs.Prelude.{is_some}
use Rattle.std.proofs.lemmas.List.Sorted.{IsPermutation-refl, IsPermutation-trans}
use Rattle.std.proofs.lemmas.Option.{same_Some}
use Rattle.vkg_schema.specs.Meets.{IsWellFormed}
use Rattle.vkg_plan.specs.Kinds.{Tables, plan_kinds}
use Rattle.vkg_plan.specs.Plan.{Plan}
use Rattle.vkg_rules.specs.declared.rewrite.Fell.{Fell}
use Rattle.vkg_rules.specs.declared.rewrite.Fell.TheVariants.{Weight, Equalities, Size}
use Rattle.vkg_rules.specs.Measure.{weight, plan_equalities, plan_size}
use Rattle.vkg_rules.specs.Steps.{Falls, FallsAll, FallsBy, IsTyped, Keeps, KeepsAll, Rule, Step}
use Rattle.vkg_chains.specs.Chains.{Chain, ended, after}
use Rattle.vkg_chains.specs.Fix.{Run, more, at_size, by_size, at_equalities, by_equalities, by_weight, run, first, foremost, fixed_by, fix_of}

pub typed-kept : (s : Tables) (p q : Plan) → IsTyped s p → plan_kinds s q ≡ plan_kinds s p → IsTyped s q
typed-kept s p q t e = ap is_some e ∙ t

-- ---- two steps in a row

falls_both : (f g : Fell) (w e z w' e' z' w'' e'' z'' : ℕ) → FallsBy f w e z w' e' z' → FallsBy g w' e' z' w'' e'' z'' → FallsBy (first f g) w e z w'' e'' z''
falls_both Weight Weight w e z w' e' z' w'' e'' z'' h k = omega arith
falls_both Weight Equalities w e z w' e' z' w'' e'' z'' h k = omega (arith, k.0)
falls_both Weight Size w e z w' e' z' w'' e'' z'' h k = omega (arith, k.0)
falls_both Equalities Weight w e z w' e' z' w'' e'' z'' h k = omega (arith, h.0)
falls_both Equalities Equalities w e z w' e' z' w'' e'' z'' h k = (omega arith, omega arith)
falls_both Equalities Size w e z w' e' z' w'' e'' z'' h k = (omega arith, omega arith)
falls_both Size Weight w e z w' e' z' w'' e'' z'' h k = omega arith
falls_both Size Equalities w e z w' e' z' w'' e'' z'' h k = (omega arith, omega arith)
falls_both Size Size w e z w' e' z' w'' e'' z'' h k = (omega arith, omega arith, omega arith)

pub chain_end : (r : Plan → Option Step) (p : Plan) (y : Run) → Chain r p y → r y.1 ≡ None
chain_end r p y (ended _ e) = e
chain_end r p y (after _ x z e c) = chain_end r x.0 z c

-- one rule has one chain
chain_unique : (r : Plan → Option Step) (p : Plan) (y : Run) → Chain r p y → (z : Run) → Chain r p z → y ≡ z
chain_unique r p y (ended _ e) z (ended _ f) = refl
chain_unique r p y (ended _ e) z (after _ x w f d) = cc
chain_unique r p y (after _ x v e c) z (ended _ f) = cc
chain_unique r p y (after _ x v e c) z (after _ x' w f d) =
    let same : x' ≡ x = same_Some x' x (sym f ∙ e) in
    let rest : v ≡ w = chain_unique r x.0 v c w (subst (λ u. Chain r u.0 w) same d) in
    ap (λ u. more x.1 u) rest ∙ ap (λ u. more u.1 w) (sym same)

module _ (r : Rule) (keeps : KeepsAll r) (falls : FallsAll r) (s : Tables) (form : IsWellFormed s) where
  abbrev Ends : Plan → Run → Type 0
  Ends = Chain (r s)

  pub typed-after : (p : Plan) (x : Step) → IsTyped s p → r s p ≡ Some x → IsTyped s x.0
  typed-after p x t e = typed-kept s p x.0 t (keeps s form p x t e).kinds

  -- ---- the loop of the last part

  module _ (w e : ℕ) (k : Step → Run)
      (good : (p : Plan) (x : Step) → IsTyped s p → weight p ≤ w → plan_equalities s p ≤ e → r s p ≡ Some x → (x.1 ≡ Size → ⊥) → Ends p (k x)) where
    size_step : (p : Plan) (go : Plan → Run) (o : Option Step) → IsTyped s p → weight p ≤ w → plan_equalities s p ≤ e → r s p ≡ o
        → ((q : Plan) → r s p ≡ Some (q, Size) → Ends q (go q)) → Ends p (at_size k go p o)
    size_step p go None t lw le h rest = ended p h
    size_step p go (Some (q, Size)) t lw le h rest = after p (q, Size) (go q) h (rest q h)
    size_step p go (Some (q, Weight)) t lw le h rest = good p (q, Weight) t lw le h (λ f. cc)
    size_step p go (Some (q, Equalities)) t lw le h rest = good p (q, Equalities) t lw le h (λ f. cc)

    by_size-ends : (n : ℕ) (p : Plan) → IsTyped s p → weight p ≤ w → plan_equalities s p ≤ e → plan_size p < n → Ends p (by_size k (r s) n p)
    by_size-ends zero p t lw le l = absurd (omega arith)
    by_size-ends (suc n) p t lw le l = size_step p (by_size k (r s) n) (r s p) t lw le refl (λ q h.
        let f = falls s form p (q, Size) t h in by_size-ends n q (typed-after p (q, Size) t h) (omega arith) (omega arith) (omega arith))

  -- ---- the loop of the middle part

  module _ (w : ℕ) (k : Step → Run)
      (good : (p : Plan) (x : Step) → IsTyped s p → weight p ≤ w → r s p ≡ Some x → x.1 ≡ Weight → Ends p (k x)) where
    equalities_step : (p : Plan) (x : Step) (go : Plan → Run) → IsTyped s p → weight p ≤ w → r s p ≡ Some x → (x.1 ≡ Size → ⊥)
        → ((q : Plan) → r s p ≡ Some (q, Equalities) → Ends q (go q)) → Ends p (at_equalities k go x)
    equalities_step p (q, Weight) go t lw h not rest = good p (q, Weight) t lw h refl
    equalities_step p (q, Equalities) go t lw h not rest = after p (q, Equalities) (go q) h (rest q h)
    equalities_step p (q, Size) go t lw h not rest = absurd (not refl)

    by_equalities-ends : (n : ℕ) (p : Plan) → IsTyped s p → weight p ≤ w → plan_equalities s p < n → Ends p (by_equalities k (r s) s n p)
    by_equalities-ends zero p t lw l = absurd (omega arith)
    by_equalities-ends (suc n) p t lw l =
        by_size-ends w (plan_equalities s p) (at_equalities k (by_equalities k (r s) s n))
        (λ p' x t' lw' le' h not. equalities_step p' x (by_equalities k (r s) s n) t' lw' h not (λ q h'.
        let f = falls s form p' (q, Equalities) t' h' in by_equalities-ends n q (typed-after p' (q, Equalities) t' h') (omega arith) (omega arith)))
        (suc (plan_size p)) p t lw (omega arith) (omega arith)

  -- ---- the loop of the first part

  weight_falls : (p : Plan) (x : Step) → Falls s p x → x.1 ≡ Weight → weight x.0 < weight p
  weight_falls p (q, Weight) f e = f
  weight_falls p (q, Equalities) f e = cc
  weight_falls p (q, Size) f e = cc

  by_weight-ends : (n : ℕ) (p : Plan) → IsTyped s p → weight p < n → Ends p (by_weight s (r s) n p)
  by_weight-ends zero p t l = absurd (omega arith)
  by_weight-ends (suc n) p t l =
      by_equalities-ends (weight p) (λ x. more x.1 (by_weight s (r s) n x.0))
      (λ p' x t' lw' h e. let f = weight_falls p' x (falls s form p' x t' h) e in after p' x (by_weight s (r s) n x.0) h (by_weight-ends n x.0 (typed-after p' x t' h) (omega arith)))
      (suc (plan_equalities s p)) p t (omega arith) (omega arith)

  -- ---- the run is the chain

  pub run-chain : (p : Plan) → IsTyped s p → Ends p (run r s p)
  unfolding run
  run-chain p t = by_weight-ends (suc (weight p)) p t (omega arith)

  pub run-none : (p : Plan) → IsTyped s p → r s p ≡ None → run r s p ≡ ([], p)
  run-none p t e = chain_unique (r s) p _ (run-chain p t) _ (ended p e)

  pub run-some : (p : Plan) (x : Step) → IsTyped s p → r s p ≡ Some x → run r s p ≡ more x.1 (run r s x.0)
  run-some p x t e = chain_unique (r s) p _ (run-chain p t) _ (after p x _ e (run-chain x.0 (typed-after p x t e)))

  -- at the end the rule gives none
  pub run-end : (p : Plan) → IsTyped s p → r s (run r s p).1 ≡ None
  run-end p t = chain_end (r s) p _ (run-chain p t)

  -- ---- the laws

  pub chain_keeps : (p : Plan) (y : Run) → Ends p y → IsTyped s p → Keeps s p y.1
  chain_keeps p y (ended _ e) t = record { kinds = refl; rows = λ db m. IsPermutation-refl _ }
  chain_keeps p y (after _ x z e c) t =
      let a = keeps s form p x t e in
      let b = chain_keeps x.0 z c (typed-after p x t e) in
      record { kinds = b.kinds ∙ a.kinds; rows = λ db m. IsPermutation-trans _ _ _ (a.rows db m) (b.rows db m) }

  chain_falls : (p₀ p : Plan) (f : Fell) (y : Run) → Ends p y → IsTyped s p → Falls s p₀ (p, f) → Falls s p₀ (y.1, foremost f y.0)
  chain_falls p₀ p f y (ended _ e) t h = h
  chain_falls p₀ p f y (after _ x z e c) t h = chain_falls p₀ x.0 (first f x.1) z c (typed-after p x t e) (falls_both f x.1 _ _ _ _ _ _ _ _ _ h (falls s form p x t e))

  fixed_keeps : (p : Plan) (y : Run) (x : Step) → Ends p y → IsTyped s p → fixed_by y ≡ Some x → Keeps s p x.0
  fixed_keeps p ([], q) x c t e = cc
  fixed_keeps p (f ∷ fs, q) x c t e = let is : (q, foremost f fs) ≡ x = same_Some _ _ e in subst (λ z. Keeps s p z.0) is (chain_keeps p (f ∷ fs, q) c t)

  fixed_falls : (p : Plan) (y : Run) (x : Step) → Ends p y → IsTyped s p → fixed_by y ≡ Some x → Falls s p x
  fixed_falls p y x (ended _ e) t h = cc
  fixed_falls p y x (after _ w z e c) t h =
      let is : (z.1, foremost w.1 z.0) ≡ x = same_Some _ _ h in
      subst (λ u. Falls s p u) is (chain_falls p w.0 w.1 z c (typed-after p w t e) (falls s form p w t e))

pub fix-keeps : (r : Rule) → KeepsAll r → FallsAll r → KeepsAll (fix_of r)
fix-keeps r k f s form p x t e = fixed_keeps r k f s form p (run r s p) x (run-chain r k f s form p t) t e

pub fix-falls : (r : Rule) → KeepsAll r → FallsAll r → FallsAll (fix_of r)
fix-falls r k f s form p x t e = fixed_falls r k f s form p (run r s p) x (run-chain r k f s form p t) t e
