-- Plans that differ at a place, and what is known of a rule at the nodes around it.
use Rattle.std.proofs.Common.{◌≡◌, ℕ, zero, suc, List, [], ◌∷◌, Option, Some, None, refl, sym, ap, ◌∙◌, slice_get}
use Rattle.std.specs.Prelude.{slice_set}
use Rattle.std.proofs.lemmas.Option.{same_Some}
use Rattle.vkg_expr.specs.Expr.{Expr}
use Rattle.vkg_plan.specs.Plan.{Plan, Plans, Nil, More, plans, Unit as UnitPlan, Empty, Scan, Select, Project, Join, Left, AntiJoin, UnionAll, Distinct}
use Rattle.vkg_rules.specs.Places.{DidNotApply, DiffersAt, Others, before_all, with_at, with_member}
use Rattle.vkg_rules.specs.Steps.{Step}
use Rattle.vkg_steps.specs.Behind.{Behind, BehindMember}
use Rattle.vkg_steps.specs.Outcomes.{DifferAt}

-- ---- what differs at a place below a node differs there

pub differs-select : (c : Expr) (path : List ℕ) (p q : Plan) → DiffersAt path p q → DiffersAt path (Select c p) (Select c q)
differs-select c [] p q d = tt
differs-select c (at ∷ path) p q d = (d.0, ap (Select c) d.1)

pub differs-project : (es : List Expr) (path : List ℕ) (p q : Plan) → DiffersAt path p q → DiffersAt path (Project es p) (Project es q)
differs-project es [] p q d = tt
differs-project es (at ∷ path) p q d = (d.0, ap (Project es) d.1)

pub differs-distinct : (path : List ℕ) (p q : Plan) → DiffersAt path p q → DiffersAt path (Distinct p) (Distinct q)
differs-distinct [] p q d = tt
differs-distinct (at ∷ path) p q d = (d.0, ap Distinct d.1)

pub differs-join : (c : Expr) (path : List ℕ) (ps qs : Plans) → DifferAt path ps qs → DiffersAt path (Join ps c) (Join qs c)
differs-join c [] ps qs d = tt
differs-join c (at ∷ path) ps qs d = (d.0, ap (λ (l : Plans). Join l c) d.1)

pub differs-union : (path : List ℕ) (ps qs : Plans) → DifferAt path ps qs → DiffersAt path (UnionAll ps) (UnionAll qs)
differs-union [] ps qs d = tt
differs-union (at ∷ path) ps qs d = (d.0, ap UnionAll d.1)

pub differs-left : (path : List ℕ) (p p' q : Plan) (c : Expr) → DiffersAt path p p' → DiffersAt (zero ∷ path) (Left p q c) (Left p' q c)
differs-left [] p p' q c d = ((p, Nil), refl)
differs-left (at ∷ path) p p' q c d = (d.0, ap (λ (x : Plan). Left x q c) d.1)

pub differs-right : (path : List ℕ) (p q q' : Plan) (c : Expr) → DiffersAt path q q' → DiffersAt (1 ∷ path) (Left p q c) (Left p q' c)
differs-right [] p q q' c d = ((q, Nil), refl)
differs-right (at ∷ path) p q q' c d = (d.0, ap (λ (x : Plan). Left p x c) d.1)

pub differs-alone : (path : List ℕ) (p p' q : Plan) (c : Expr) → DiffersAt path p p' → DiffersAt (zero ∷ path) (AntiJoin p q c) (AntiJoin p' q c)
differs-alone [] p p' q c d = ((p, Nil), refl)
differs-alone (at ∷ path) p p' q c d = (d.0, ap (λ (x : Plan). AntiJoin x q c) d.1)

pub differs-against : (path : List ℕ) (p q q' : Plan) (c : Expr) → DiffersAt path q q' → DiffersAt (1 ∷ path) (AntiJoin p q c) (AntiJoin p q' c)
differs-against [] p q q' c d = ((q, Nil), refl)
differs-against (at ∷ path) p q q' c d = (d.0, ap (λ (x : Plan). AntiJoin p x c) d.1)

-- a member that is set in a list
pub differ-set : (xs : List Plan) (at : ℕ) (path : List ℕ) (p q : Plan) → slice_get xs at ≡ Some p → DiffersAt path p q → DifferAt (at ∷ path) (plans xs) (plans (slice_set xs at q))
differ-set [] at path p q e d = cc
differ-set (x ∷ xs) zero [] p q e d = ((x, Nil), refl)
differ-set (x ∷ xs) zero (n ∷ path) p q e d = (d.0, ap (λ (y : Plan). More y (plans xs)) (d.1 ∙ sym (same_Some x p e)))
differ-set (x ∷ xs) (suc at) path p q e d = let h = differ-set xs at path p q e d in (h.0, ap (More x) h.1)

-- ---- a rule that did not apply to a plan did not apply to the one that differs from it but for the place

pub not-applied : (r : Plan → Option Step) (path : List ℕ) (p q : Plan) → r p ≡ None → DiffersAt path p q → DidNotApply r path q
not-applied r [] p q none d = tt
not-applied r (at ∷ path) p q none d = (d.0, ap r d.1 ∙ none)

pub here : (r : Plan → Option Step) (path : List ℕ) (p : Plan) → Behind r path p → DidNotApply r path p
here r path UnitPlan h = h
here r path (Empty ks) h = h
here r path (Scan table) h = h
here r path (Select c p) h = h.0
here r path (Project es p) h = h.0
here r [] (Join ps c) h = tt
here r (at ∷ path) (Join ps c) h = h.0
here r [] (Left p q c) h = tt
here r (zero ∷ path) (Left p q c) h = h.0
here r (suc at ∷ path) (Left p q c) h = h.0
here r [] (AntiJoin p q c) h = tt
here r (zero ∷ path) (AntiJoin p q c) h = h.0
here r (suc at ∷ path) (AntiJoin p q c) h = h.0
here r [] (UnionAll ps) h = tt
here r (at ∷ path) (UnionAll ps) h = h.0
here r path (Distinct p) h = h.0

-- nothing stands before the root but what is around it
pub nothing_behind : (r : Plan → Option Step) (p : Plan) → Behind r [] p
nothing_behind r UnitPlan = tt
nothing_behind r (Empty ks) = tt
nothing_behind r (Scan table) = tt
nothing_behind r (Select c p) = (tt, nothing_behind r p)
nothing_behind r (Project es p) = (tt, nothing_behind r p)
nothing_behind r (Join ps c) = tt
nothing_behind r (Left p q c) = tt
nothing_behind r (AntiJoin p q c) = tt
nothing_behind r (UnionAll ps) = tt
nothing_behind r (Distinct p) = (tt, nothing_behind r p)

-- ---- two changes at the place of a member are one

before-before : (ps qs rs : Plans) → before_all (before_all ps qs) rs ≡ before_all ps (before_all qs rs)
before-before Nil qs rs = refl
before-before (More p ps) qs rs = ap (More p) (before-before ps qs rs)

member-twice : (at : ℕ) (path : List ℕ) (z y : Others) (ps : Plans) → (w : Others) × (with_member at [] w ps ≡ with_member at path z (with_member at [] y ps))
member-twice zero [] z y Nil = ((z.0, before_all z.1 y.1), refl)
member-twice zero (n ∷ path) z y Nil = ((with_at (n ∷ path) z y.0, y.1), refl)
member-twice (suc at) path z y Nil = ((y.0, with_member at path z y.1), refl)
member-twice zero [] z y (More p ps) = ((z.0, before_all z.1 y.1), ap (More z.0) (before-before z.1 y.1 ps))
member-twice zero (n ∷ path) z y (More p ps) = ((with_at (n ∷ path) z y.0, y.1), refl)
member-twice (suc at) path z y (More p ps) = let h = member-twice at path z y ps in (h.0, ap (More p) h.1)

twice : (at : ℕ) (path : List ℕ) (z y : Others) (p : Plan) → (w : Others) × (with_at (at ∷ []) w p ≡ with_at (at ∷ path) z (with_at (at ∷ []) y p))
twice at path z y UnitPlan = (z, refl)
twice at path z y (Empty ks) = (z, refl)
twice at path z y (Scan table) = (z, refl)
twice at path z y (Select c p) = let h = twice at path z y p in (h.0, ap (Select c) h.1)
twice at path z y (Project es p) = let h = twice at path z y p in (h.0, ap (Project es) h.1)
twice at path z y (Join ps c) = let h = member-twice at path z y ps in (h.0, ap (λ (l : Plans). Join l c) h.1)
twice zero [] z y (Left p q c) = (z, refl)
twice zero (n ∷ path) z y (Left p q c) = ((with_at (n ∷ path) z y.0, Nil), refl)
twice (suc at) [] z y (Left p q c) = (z, refl)
twice (suc at) (n ∷ path) z y (Left p q c) = ((with_at (n ∷ path) z y.0, Nil), refl)
twice zero [] z y (AntiJoin p q c) = (z, refl)
twice zero (n ∷ path) z y (AntiJoin p q c) = ((with_at (n ∷ path) z y.0, Nil), refl)
twice (suc at) [] z y (AntiJoin p q c) = (z, refl)
twice (suc at) (n ∷ path) z y (AntiJoin p q c) = ((with_at (n ∷ path) z y.0, Nil), refl)
twice at path z y (UnionAll ps) = let h = member-twice at path z y ps in (h.0, ap UnionAll h.1)
twice at path z y (Distinct p) = let h = twice at path z y p in (h.0, ap Distinct h.1)

module _ (r : Plan → Option Step) (at : ℕ) (path : List ℕ) (y : Others) where
  once : (p : Plan) → DidNotApply r (at ∷ path) (with_at (at ∷ []) y p) → DidNotApply r (at ∷ []) p
  once p h = let t = twice at path h.0 y p in (t.0, ap r t.1 ∙ h.1)

pub member-dropped : (r : Plan → Option Step) (at : ℕ) (path : List ℕ) (y : Others) (ps : Plans) → BehindMember r at path (with_member at [] y ps) → BehindMember r at [] ps
member-dropped r at path y Nil h = tt
member-dropped r zero path y (More p ps) h = nothing_behind r p
member-dropped r (suc at) path y (More p ps) h = (h.0, member-dropped r at path y ps h.1)

-- what was behind the way to a member is behind the place where it was dropped
pub dropped : (r : Plan → Option Step) (at : ℕ) (path : List ℕ) (y : Others) (p : Plan) → Behind r (at ∷ path) (with_at (at ∷ []) y p) → Behind r (at ∷ []) p
dropped r at path y UnitPlan h = h
dropped r at path y (Empty ks) h = h
dropped r at path y (Scan table) h = h
dropped r at path y (Select c p) h = (once r at path y (Select c p) h.0, dropped r at path y p h.1)
dropped r at path y (Project es p) h = (once r at path y (Project es p) h.0, dropped r at path y p h.1)
dropped r at path y (Join ps c) h = (once r at path y (Join ps c) h.0, member-dropped r at path y ps h.1)
dropped r zero path y (Left p q c) h = (once r zero path y (Left p q c) h.0, nothing_behind r p)
dropped r (suc at) path y (Left p q c) h = (once r (suc at) path y (Left p q c) h.0, (h.1.0, nothing_behind r q))
dropped r zero path y (AntiJoin p q c) h = (once r zero path y (AntiJoin p q c) h.0, nothing_behind r p)
dropped r (suc at) path y (AntiJoin p q c) h = (once r (suc at) path y (AntiJoin p q c) h.0, (h.1.0, nothing_behind r q))
dropped r at path y (UnionAll ps) h = (once r at path y (UnionAll ps) h.0, member-dropped r at path y ps h.1)
dropped r at path y (Distinct p) h = (once r at path y (Distinct p) h.0, dropped r at path y p h.1)
