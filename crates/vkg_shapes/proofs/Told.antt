-- What follows for a list of plans from what a rule did not do to it before one member became another.
use Rattle.std.proofs.Common.{◌≡◌, ◌∙◌, ℕ, zero, suc, ◌<◌, ◌≤◌, Bool, true, false, not, ◌&&◌, List, [], ◌∷◌, length, get_or, Option, Some, None, refl, sym, ap, subst, arith}
use Rattle.std.specs.Prelude.{IfOk, Result, Ok, Err, option_map, if◌then◌else◌, remove}
use Rattle.std.proofs.lemmas.Option.{same_Some}
use Rattle.vkg_base.specs.declared.memory.Memory.{Memory}
use Rattle.vkg_lists.proofs.Bools.{and_parts}
use Rattle.vkg_lists.proofs.Onto.{map_lacking}
use Rattle.vkg_plan.specs.declared.plan.Plan.{Plan as PlanValue}
use Rattle.vkg_plan.specs.Kinds.{Kinds, Tables, plan_kinds}
use Rattle.vkg_plan.specs.Plan.{Plan, Plans, Unit as UnitPlan, Empty, Scan, Select, Project, Join, Left, AntiJoin, UnionAll, Distinct, Nil, More}
use Rattle.vkg_plan.specs.Seen.{plan_seen}
use Rattle.vkg_rules.specs.declared.rewrite.Fell.{Fell}
use Rattle.vkg_rules.specs.declared.rewrite.Fell.TheVariants as fell
use Rattle.vkg_rules.specs.Places.{DidNotApply, DiffersAt, DiffersBefore, Others, before_all, outcome, with_at, with_member}
use Rattle.vkg_rules.specs.StepSeen.{plans_seen}
use Rattle.vkg_rules.specs.Steps.{Step}
use Rattle.vkg_shapes.specs.FlatUnion as flat
use Rattle.vkg_shapes.specs.FlatUnion.{flat_members, flat_union, is_union, opened}
use Rattle.vkg_shapes.specs.PropagateEmpty as empty
use Rattle.vkg_shapes.specs.PropagateEmpty.{is_nothing, propagate_empty, united}
use Rattle.vkg_shapes.specs.Without.{holds_at, is_lone, without_at, without_first}

-- ---- what is at a place of a list of the program

pub holds_past : (test : Plan → Bool) (ps : List PlanValue) (at : ℕ) → length ps ≤ at → false ≡ holds_at test at (plans_seen ps)
holds_past test [] at h = refl
holds_past test (p ∷ ps) zero h = absurd (omega (arith, h))
holds_past test (p ∷ ps) (suc at) h = holds_past test ps at (omega (arith, h))

pub holds_here : (test : Plan → Bool) (ps : List PlanValue) (at : ℕ) (p : PlanValue) → at < length ps → p ≡ get_or ps at p → test (plan_seen p) ≡ holds_at test at (plans_seen ps)
holds_here test [] at p h e = absurd (omega (arith, h))
holds_here test (q ∷ ps) zero p h e = ap (λ (x : PlanValue). test (plan_seen x)) e
holds_here test (q ∷ ps) (suc at) p h e = holds_here test ps at p (omega (arith, h)) e

pub lone_one : (ps : List PlanValue) → 1 ≤ length ps → length ps < 2 → true ≡ is_lone (plans_seen ps)
lone_one [] h k = absurd (omega (arith, h))
lone_one (p ∷ []) h k = refl
lone_one (p ∷ q ∷ ps) h k = absurd (omega (arith, k))

pub lone_more : (ps : List PlanValue) → 2 ≤ length ps → false ≡ is_lone (plans_seen ps)
lone_more [] h = absurd (omega (arith, h))
lone_more (p ∷ []) h = absurd (omega (arith, h))
lone_more (p ∷ q ∷ ps) h = refl

-- what is as it was after a rule that does not apply
pub stayed : (p q : Plan) (f : Option Fell) (o : Option Step) → q ≡ p → f ≡ None → o ≡ None → (q, f) ≡ outcome p o
stayed p q f o e h k = (λ i. (e i, h i)) ∙ sym (ap (outcome p) k)

pub removed_seen : (ps : List PlanValue) (at : ℕ) → plans_seen (remove ps at) ≡ without_at at (plans_seen ps)
removed_seen [] zero = refl
removed_seen [] (suc at) = refl
removed_seen (p ∷ ps) zero = refl
removed_seen (p ∷ ps) (suc at) = ap (More (plan_seen p)) (removed_seen ps at)

pub none_removed : (ps : List PlanValue) (at : ℕ) → length ps ≤ at → plans_seen ps ≡ without_at at (plans_seen ps)
none_removed [] at h = refl
none_removed (p ∷ ps) zero h = absurd (omega (arith, h))
none_removed (p ∷ ps) (suc at) h = ap (More (plan_seen p)) (none_removed ps at (omega (arith, h)))

-- what is told of a result part by part
pub made_value : {X : Type 0} (a : X → Plan) (b : X → Option Fell) (q : Plan) (f : Option Fell) (z : Plan × Option Fell) (made : Result X Memory) →
    IfOk made (λ x. a x ≡ q) → IfOk made (λ x. b x ≡ f) → (q, f) ≡ z → IfOk made (λ x. ◌≡◌ {A = Plan × Option Fell} (a x, b x) z)
made_value a b q f z (Ok x) e h k = (λ i. (e i, h i)) ∙ k
made_value a b q f z (Err m) e h k = tt

pub made_dropped : {X : Type 0} (a : X → Plan) (d : X → Option ℕ) (p q : Plan) (o : Option ℕ) (made : Result X Memory) →
    IfOk made (λ x. a x ≡ q) → IfOk made (λ x. d x ≡ o) → DiffersBefore o p q → IfOk made (λ x. DiffersBefore (d x) p (a x))
made_dropped a d p q o (Ok x) e h k = subst (λ (z : Plan). DiffersBefore (d x) p z) (sym e) (subst (λ (n : Option ℕ). DiffersBefore n p q) (sym h) k)
made_dropped a d p q o (Err m) e h k = tt

-- ---- the first for which a test holds

if_none : {A : Type 0} (b : Bool) (x : A) (o : Option A) → (if b then Some x else o) ≡ None → (b ≡ false) × (o ≡ None)
if_none true x o e = cc
if_none false x o e = (refl, e)

-- what looks for the first such plan finds none, wherever it was told that one differs
module _ (test : Plan → Bool) (find : Plans → Option Plans) (found : Plan → Plans → Plans) (nil : find Nil ≡ None)
    (more : (p : Plan) (ps : Plans) → find (More p ps) ≡ (if test p then Some (found p ps) else option_map (More p) (find ps))) where
  apart : (p : Plan) (ps : Plans) → find (More p ps) ≡ None → (test p ≡ false) × (find ps ≡ None)
  apart p ps e = let n = if_none (test p) (found p ps) (option_map (More p) (find ps)) (sym (more p ps) ∙ e) in (n.0, map_lacking (More p) (find ps) n.1)

  together : (p : Plan) (ps : Plans) → test p ≡ false → find ps ≡ None → find (More p ps) ≡ None
  together p ps h e = more p ps ∙ ap (λ b. if b then Some (found p ps) else option_map (More p) (find ps)) h ∙ ap (option_map (More p)) e

  behind-all : (qs ps : Plans) → find (before_all qs ps) ≡ None → find ps ≡ None
  behind-all Nil ps e = e
  behind-all (More q qs) ps e = behind-all qs ps (apart q (before_all qs ps) e).1

  pub none-there : (at : ℕ) (path : List ℕ) (y : Others) (ps : Plans) → find (with_member at path y ps) ≡ None → holds_at test at ps ≡ false → find ps ≡ None
  none-there at path y Nil e h = nil
  none-there zero [] y (More p ps) e h = together p ps h (behind-all y.1 ps (apart y.0 (before_all y.1 ps) e).1)
  none-there zero (m ∷ path) y (More p ps) e h = together p ps h (apart (with_at (m ∷ path) y p) ps e).1
  none-there (suc at) path y (More p ps) e h = let n = apart p (with_member at path y ps) e in together p ps n.0 (none-there at path y ps n.1 h)

-- the first such plan is the one that differs
first-there : (test : Plan → Bool) (at : ℕ) (path : List ℕ) (y : Others) (ps : Plans) → without_first test (with_member at path y ps) ≡ None → holds_at test at ps ≡ true → without_first test ps ≡ Some (without_at at ps)
first-there test at path y Nil e h = cc
first-there test zero path y (More p ps) e h = ap (λ b. if b then Some ps else option_map (More p) (without_first test ps)) h
first-there test (suc at) path y (More p ps) e h =
    let n = if_none (test p) (with_member at path y ps) (option_map (More p) (without_first test (with_member at path y ps))) e in
    ap (λ b. if b then Some ps else option_map (More p) (without_first test ps)) n.0
    ∙ ap (option_map (More p)) (first-there test at path y ps (map_lacking (More p) (without_first test (with_member at path y ps)) n.1) h)

-- the list is the one without it but for its place
differs-there : (test : Plan → Bool) (at : ℕ) (ps : Plans) → holds_at test at ps ≡ true → (y : Others) × (with_member at [] y (without_at at ps) ≡ ps)
differs-there test at Nil h = cc
differs-there test zero (More p Nil) h = ((p, Nil), refl)
differs-there test zero (More p (More q qs)) h = ((p, More q Nil), refl)
differs-there test (suc at) (More p ps) h = let d = differs-there test at ps h in (d.0, ap (More p) d.1)

is-not : (b : Bool) → not b ≡ true → b ≡ false
is-not true e = cc
is-not false e = refl

if_some : (b : Bool) (n at : ℕ) → (if b then Some n else None) ≡ Some at → (b ≡ true) × (n ≡ at)
if_some true n at e = (refl, same_Some n at e)
if_some false n at e = cc

-- ---- PropagateEmpty

no-nil : (p : Plan) (o : Option Plans) → option_map (More p) o ≡ Some Nil → ⊥
no-nil p None e = cc
no-nil p (Some qs) e = let d : More p qs ≡ Nil = same_Some (More p qs) Nil e in cc d

-- an Empty alone has kinds, so that it does not stay
lone-kinds : (s : Tables) (ps : Plans) → without_first is_nothing ps ≡ Some Nil → united (plan_kinds s (UnionAll ps)) (Some Nil) ≡ None → ⊥
lone-kinds s Nil e h = cc
lone-kinds s (More (Empty ks) Nil) e h = cc
lone-kinds s (More (Empty ks) (More p ps)) e h = let d : More p ps ≡ Nil = same_Some (More p ps) Nil e in cc d
lone-kinds s (More UnitPlan ps) e h = no-nil UnitPlan (without_first is_nothing ps) e
lone-kinds s (More (Scan table) ps) e h = no-nil (Scan table) (without_first is_nothing ps) e
lone-kinds s (More (Select c p) ps) e h = no-nil (Select c p) (without_first is_nothing ps) e
lone-kinds s (More (Project es p) ps) e h = no-nil (Project es p) (without_first is_nothing ps) e
lone-kinds s (More (Join qs c) ps) e h = no-nil (Join qs c) (without_first is_nothing ps) e
lone-kinds s (More (Left p q c) ps) e h = no-nil (Left p q c) (without_first is_nothing ps) e
lone-kinds s (More (AntiJoin p q c) ps) e h = no-nil (AntiJoin p q c) (without_first is_nothing ps) e
lone-kinds s (More (UnionAll qs) ps) e h = no-nil (UnionAll qs) (without_first is_nothing ps) e
lone-kinds s (More (Distinct p) ps) e h = no-nil (Distinct p) (without_first is_nothing ps) e

united-none : (s : Tables) (ps : Plans) → united (plan_kinds s (UnionAll ps)) (without_first is_nothing ps) ≡ None → without_first is_nothing ps ≡ None
united-none s ps h = at (without_first is_nothing ps) refl h
  where
    at : (o : Option Plans) → without_first is_nothing ps ≡ o → united (plan_kinds s (UnionAll ps)) o ≡ None → without_first is_nothing ps ≡ None
    at None e k = e
    at (Some Nil) e k = absurd (lone-kinds s ps e k)
    at (Some (More q qs)) e k = cc

united-left : (o : Option Kinds) (at : ℕ) (ps : Plans) → holds_at is_nothing at ps ≡ true → is_lone ps ≡ false → united o (Some (without_at at ps)) ≡ Some (UnionAll (without_at at ps), fell.Weight)
united-left o at Nil h k = cc
united-left o at (More p Nil) h k = cc
united-left o zero (More p (More q qs)) h k = refl
united-left o (suc at) (More p (More q qs)) h k = refl

module _ (s : Tables) where
  drops : (at : ℕ) (path : List ℕ) (ps : Plans) → DidNotApply (propagate_empty s) (at ∷ path) (UnionAll ps) → holds_at is_nothing at ps ≡ true → is_lone ps ≡ false →
      (propagate_empty s (UnionAll ps) ≡ Some (UnionAll (without_at at ps), fell.Weight)) × DiffersAt (at ∷ []) (UnionAll ps) (UnionAll (without_at at ps))
  drops at path ps d h k =
      let first = first-there is_nothing at path d.0 ps (united-none s (with_member at path d.0 ps) d.1) h in
      let there = differs-there is_nothing at ps h in
      (ap (united (plan_kinds s (UnionAll ps))) first ∙ united-left (plan_kinds s (UnionAll ps)) at ps h k, (there.0, ap UnionAll there.1))

  pub dropped-is : (path : List ℕ) (p : Plan) (at : ℕ) → DidNotApply (propagate_empty s) path p → empty.dropped_at path p ≡ Some at →
      (propagate_empty s p ≡ Some (UnionAll (without_at at (flat.members p)), fell.Weight)) × DiffersAt (at ∷ []) p (UnionAll (without_at at (flat.members p)))
  dropped-is [] (UnionAll ps) at d e = cc
  dropped-is (n ∷ path) (UnionAll ps) at d e =
      let i = if_some (not (is_lone ps) && holds_at is_nothing n ps) n at e in
      let b = and_parts (not (is_lone ps)) (holds_at is_nothing n ps) i.0 in
      subst
      (λ (k : ℕ). (propagate_empty s (UnionAll ps) ≡ Some (UnionAll (without_at k ps), fell.Weight)) × DiffersAt (k ∷ []) (UnionAll ps) (UnionAll (without_at k ps)))
      i.1 (drops n path ps d b.1 (is-not (is_lone ps) b.0))
  dropped-is path _ at d e = cc

  pub empty-stays : (path : List ℕ) (p : Plan) → DidNotApply (propagate_empty s) path p → empty.stays path p ≡ true → propagate_empty s p ≡ None
  empty-stays [] (UnionAll ps) d e = cc
  empty-stays (n ∷ path) (UnionAll ps) d e =
      ap (united (plan_kinds s (UnionAll ps)))
      (none-there is_nothing (without_first is_nothing) (λ p ps. ps) refl (λ p ps. refl) n path d.0 ps (united-none s (with_member n path d.0 ps) d.1) (is-not (holds_at is_nothing n ps) e))
  empty-stays path _ d e = cc

-- ---- FlatUnion

flat-none : (ps : Plans) → flat_members ps ≡ None → opened ps ≡ None
flat-none Nil e = refl
flat-none (More p Nil) e = cc
flat-none (More p (More q qs)) e = map_lacking (λ (l : Plans). (UnionAll l, fell.Weight)) (opened (More p (More q qs))) e

none-flat : (ps : Plans) → is_lone ps ≡ false → opened ps ≡ None → flat_members ps ≡ None
none-flat Nil h e = refl
none-flat (More p Nil) h e = cc
none-flat (More p (More q qs)) h e = ap (option_map (λ (l : Plans). (UnionAll l, fell.Weight))) e

pub flat-stays : (s : Tables) (path : List ℕ) (p : Plan) → DidNotApply (flat_union s) path p → flat.stays path p ≡ true → flat_union s p ≡ None
flat-stays s [] (UnionAll ps) d e = cc
flat-stays s (n ∷ path) (UnionAll ps) d e =
    let b = and_parts (not (is_lone ps)) (not (holds_at is_union n ps)) e in
    none-flat ps (is-not (is_lone ps) b.0)
    (none-there is_union opened (λ p ps. before_all (flat.members p) ps) refl (λ p ps. refl) n path d.0 ps (flat-none (with_member n path d.0 ps) d.1) (is-not (holds_at is_union n ps) b.1))
flat-stays s path _ d e = refl
