-- What the outcome of a step tells of it, and two steps of which neither is there.
use Rattle.std.proofs.Common.{◌≡◌, Option, Some, None, refl, sym, ap}
use Rattle.std.specs.Option.{option_or}
use Rattle.std.proofs.lemmas.Option.{same_Some}
use Rattle.vkg_plan.specs.Plan.{Plan}
use Rattle.vkg_rules.specs.declared.rewrite.Fell.{Fell}
use Rattle.vkg_rules.specs.Places.{outcome}
use Rattle.vkg_rules.specs.Steps.{Step}

pub outcome-none : (p q : Plan) (o : Option Step) → (q, None) ≡ outcome p o → (o ≡ None) × (q ≡ p)
outcome-none p q None e = (refl, ap (λ (y : Plan × Option Fell). y.0) e)
outcome-none p q (Some x) e = let d : ◌≡◌ {A = Option Fell} None (Some x.1) = ap (λ (y : Plan × Option Fell). y.1) e in cc d

pub outcome-some : (p q : Plan) (f : Fell) (o : Option Step) → (q, Some f) ≡ outcome p o → o ≡ Some (q, f)
outcome-some p q f None e = let d : Some f ≡ None = ap (λ (y : Plan × Option Fell). y.1) e in cc d
outcome-some p q f (Some x) e =
    let here : q ≡ x.0 = ap (λ (y : Plan × Option Fell). y.0) e in
    let there : f ≡ x.1 = same_Some f x.1 (ap (λ (y : Plan × Option Fell). y.1) e) in
    λ i. Some (sym here i, sym there i)

pub neither : {A : Type 0} (o p : Option A) → option_or o p ≡ None → (o ≡ None) × (p ≡ None)
neither None p e = (refl, e)
neither (Some x) p e = cc
