-- A rule has at most one end from a plan.
use Rattle.std.proofs.Common.{◌≡◌, ℕ, zero, suc, Option, Some, None, sym, ap, ◌∙◌}
use Rattle.std.specs.Prelude.{option_and_then}
use Rattle.std.proofs.lemmas.Option.{same_Some}
use Rattle.vkg_plan.specs.Kinds.{Tables}
use Rattle.vkg_plan.specs.Plan.{Plan}
use Rattle.vkg_rules.specs.Steps.{Rule}
use Rattle.vkg_chains.specs.Ends.{IsEndOf, changed, changed_times}

module _ (r : Rule) (s : Tables) where
  -- none after no more change
  stays : (n : ℕ) (p q : Plan) → changed r s p ≡ None → changed_times n r s p ≡ Some q → p ≡ q
  stays zero p q none e = same_Some p q e
  stays (suc n) p q none e = let h : None ≡ Some q = sym (ap (option_and_then (changed_times n r s)) none) ∙ e in cc h

  after_both : (m n : ℕ) (o : Option Plan) (p q : Plan) → ((x : Plan) → changed_times m r s x ≡ Some p → changed_times n r s x ≡ Some q → p ≡ q)
      → option_and_then (changed_times m r s) o ≡ Some p → option_and_then (changed_times n r s) o ≡ Some q → p ≡ q
  after_both m n None p q k e h = cc
  after_both m n (Some x) p q k e h = k x e h

  one_end : (m n : ℕ) (start p q : Plan) → changed_times m r s start ≡ Some p → changed r s p ≡ None → changed_times n r s start ≡ Some q → changed r s q ≡ None → p ≡ q
  one_end zero n start p q e pe h qe =
      let same = same_Some start p e in
      sym same ∙ stays n start q (ap (changed r s) same ∙ pe) h
  one_end (suc m) zero start p q e pe h qe =
      let same = same_Some start q h in
      sym (sym same ∙ stays (suc m) start p (ap (changed r s) same ∙ qe) e)
  one_end (suc m) (suc n) start p q e pe h qe =
      after_both m n (changed r s start) p q (λ x a b. one_end m n x p q a pe b qe) e h

  pub only-end : (start p q : Plan) → IsEndOf r s start p → IsEndOf r s start q → p ≡ q
  only-end start p q x y = one_end x.changes y.changes start p q x.reached x.ended y.reached y.ended
