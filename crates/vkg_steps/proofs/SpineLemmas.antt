-- Sides around a plan: one more, one less, and another plan within them.
use Rattle.std.proofs.Common.{◌≡◌, ℕ, zero, suc, ◌<◌, true, List, [], ◌∷◌, ◌++◌, Option, Some, None, refl, sym, ap, ◌∙◌, subst, arith}
use Rattle.std.specs.Prelude.{Bool, false, IfOk, Result, Ok, Err, is_some, option_map, option_and_then, reverse}
use Rattle.std.specs.Option.{option_or}
use Rattle.vkg_lists.specs.Options.{joined}
use Rattle.vkg_base.specs.declared.memory.Memory.{Memory}
use Rattle.vkg_expr.specs.Expr.{Expr, exprs}
use Rattle.vkg_expr.specs.Typing.{kinds_of}
use Rattle.vkg_plan.specs.Kinds.{Kinds, Tables, checked, plan_kinds}
use Rattle.vkg_plan.specs.Plan.{Plan, Unit as UnitPlan, Project, Left}
use Rattle.vkg_rules.specs.declared.rewrite.Fell.{Fell}
use Rattle.vkg_rules.specs.Everywhere.{around, everywhere}
use Rattle.vkg_rules.specs.Parts.{typed_left, typed_project}
use Rattle.vkg_rules.specs.Places.{DiffersAt, outcome}
use Rattle.vkg_rules.specs.Steps.{FallsAll, IsTyped, KeepsAll, Rule, Step}
use Rattle.vkg_rules.specs.EverywhereLaw.{anywhere-keeps}
use Rattle.vkg_rules.proofs.Inside.{nodes}
use Rattle.vkg_rules.proofs.Outcomes.{outcome-none, outcome-some}
use Rattle.vkg_schema.specs.Meets.{IsWellFormed}
use Rattle.vkg_steps.specs.Behind.{Behind}
use Rattle.vkg_steps.specs.Outcomes.{IsStep}
use Rattle.vkg_steps.specs.Rests.{Rests, inner, with_inner}
use Rattle.vkg_steps.specs.Spine.{AllRest, AreLeftSides, GoesDown, HasStepped, IsAround, IsLeftSide, IsLeftwards, IsOpened, IsRaised, IsSide, IsStepOf, MayFollow, RaisedBy, over, path_over, within}
use Rattle.vkg_steps.proofs.PlaceLemmas.{differs-left, differs-project, not-applied, nothing_behind}

-- ---- sides

pub within-last : (xs : List Plan) (x p : Plan) → within (xs ++ x ∷ []) p ≡ within xs (over x p)
within-last [] x p = refl
within-last (y ∷ ys) x p = ap (over y) (within-last ys x p)

may-follow : (xs : List Plan) (x : Plan) → IsLeftSide x → MayFollow xs x
may-follow [] x f = tt
may-follow (y ∷ ys) x f = f

lefts-more : (xs : List Plan) (x : Plan) → AreLeftSides xs → IsLeftSide x → AreLeftSides (xs ++ x ∷ [])
lefts-more [] x h f = (f, tt)
lefts-more (y ∷ ys) x h f = (h.0, lefts-more ys x h.1 f)

lefts-less : (xs : List Plan) (x : Plan) → AreLeftSides (xs ++ x ∷ []) → AreLeftSides xs × IsLeftSide x
lefts-less [] x h = (tt, h.0)
lefts-less (y ∷ ys) x h = let b = lefts-less ys x h.1 in ((h.0, b.0), b.1)

-- ---- the node that is there

with-own : (p : Plan) → with_inner (inner p) p ≡ p
with-own (Left (Left p q c) r d) = refl
with-own (Left _ r d) = refl
with-own (Project es (Left p q c)) = refl
with-own (Project es _) = refl
with-own _ = refl

-- ---- kinds

module _ (s : Tables) where
  kinds-over : (x p q : Plan) → plan_kinds s q ≡ plan_kinds s p → plan_kinds s (over x q) ≡ plan_kinds s (over x p)
  kinds-over (Left h y c) p q e = ap (λ (o : Option Kinds). checked c (joined o (plan_kinds s y))) e
  kinds-over (Project es h) p q e = ap (option_and_then (kinds_of (exprs es))) e
  kinds-over _ p q e = e

  kinds-within : (xs : List Plan) (p q : Plan) → plan_kinds s q ≡ plan_kinds s p → plan_kinds s (within xs q) ≡ plan_kinds s (within xs p)
  kinds-within [] p q e = e
  kinds-within (x ∷ xs) p q e = kinds-over x (within xs p) (within xs q) (kinds-within xs p q e)

  typed-below : (x p : Plan) → IsTyped s (over x p) → IsTyped s p
  typed-below (Left h y c) p t = (typed_left s p y c t).0
  typed-below (Project es h) p t = typed_project s es p t
  typed-below _ p t = t

  pub typed-within : (xs : List Plan) (p : Plan) → IsTyped s (within xs p) → IsTyped s p
  typed-within [] p t = t
  typed-within (x ∷ xs) p t = typed-within xs p (typed-below x (within xs p) t)

module _ (s : Tables) (r : Plan → Option Step) where
  pub rests-here : (p : Plan) → Rests s r p → r p ≡ None
  rests-here p h = sym (ap r (with-own p)) ∙ h (inner p) refl

  -- ---- one side more

  pub rest-more : (xs : List Plan) (x p : Plan) → IsSide x → MayFollow xs x → AllRest s r xs (over x p) → Rests s r (over x p) → AllRest s r (xs ++ x ∷ []) p
  rest-more [] x p f m a h = (f, h, tt, tt)
  rest-more (y ∷ ys) x p f m a h =
      (a.0, subst (λ (z : Plan). Rests s r (over y z)) (sym (within-last ys x p)) a.1, lefts-more ys x a.2 m, rest-more ys x p f (may-follow ys x m) a.3 h)

  -- ---- one side less

  pub rest-less : (xs : List Plan) (x p : Plan) → AllRest s r (xs ++ x ∷ []) p → AllRest s r xs (over x p) × Rests s r (over x p) × MayFollow xs x
  rest-less [] x p a = (tt, a.1, tt)
  rest-less (y ∷ ys) x p a =
      let b = rest-less ys x p a.3 in
      let l = lefts-less ys x a.2 in
      ((a.0, subst (λ (z : Plan). Rests s r (over y z)) (within-last ys x p) a.1, l.0, b.0), b.1, l.1)

  -- ---- another plan of these columns

  rests-over : (y m n w : Plan) (d : Expr) → IsSide y → plan_kinds s n ≡ plan_kinds s m → Rests s r (over y (Left m w d)) → Rests s r (over y (Left n w d))
  rests-over (Left h z c) m n w d f e k = λ l i. k l (i ∙ e)
  rests-over (Project es h) m n w d f e k = λ l i. k l (i ∙ e)
  rests-over _ m n w d f e k = absurd f

  pub rest-changed : (xs : List Plan) (x p q : Plan) → MayFollow xs x → plan_kinds s q ≡ plan_kinds s p → AllRest s r xs (over x p) → AllRest s r xs (over x q)
  rest-changed [] x p q m e a = tt
  rest-changed (y ∷ []) (Left h z c) p q m e a = (a.0, rests-over y p q z c a.0 e a.1, a.2, tt)
  rest-changed (y ∷ []) _ p q m e a = absurd m
  rest-changed (y ∷ (Left h w d) ∷ zs) x p q m e a = (
    a.0,
    rests-over y (within zs (over x p)) (within zs (over x q)) w d a.0 (kinds-within s zs (over x p) (over x q) (kinds-over s x p q e)) a.1,
    a.2,
    rest-changed ((Left h w d) ∷ zs) x p q m e a.3,
  )
  rest-changed (y ∷ _ ∷ zs) x p q m e a = absurd a.2.0

  -- ---- a step in the plan is one of the whole

  over-step : (x p q : Plan) (f : Fell) → r (over x p) ≡ None → everywhere r p ≡ Some (q, f) → everywhere r (over x p) ≡ Some (over x q, f)
  over-step (Left h y c) p q f none e =
      ap (λ (o : Option Step). option_or o (option_or (option_map (around (λ z. Left z y c)) (everywhere r p)) (option_map (around (λ z. Left p z c)) (everywhere r y)))) none
      ∙ ap (λ (o : Option Step). option_or (option_map (around (λ z. Left z y c)) o) (option_map (around (λ z. Left p z c)) (everywhere r y))) e
  over-step (Project es h) p q f none e =
      ap (λ (o : Option Step). option_or o (option_map (around (Project es)) (everywhere r p))) none
      ∙ ap (option_map (around (Project es))) e
  over-step _ p q f none e = e

  within-step : (xs : List Plan) (p q : Plan) (f : Fell) → AllRest s r xs p → everywhere r p ≡ Some (q, f) → everywhere r (within xs p) ≡ Some (within xs q, f)
  within-step [] p q f a e = e
  within-step (x ∷ xs) p q f a e = over-step x (within xs p) (within xs q) f (rests-here (over x (within xs p)) a.1) (within-step xs p q f a.3 e)

  -- ---- places

  leftwards-behind : (path below : List ℕ) (p q : Plan) (c : Expr) → IsLeftwards below path → Behind r path (Left p q c) → Behind r below p
  leftwards-behind [] below p q c i b = subst (λ (n : List ℕ). Behind r n p) (sym i) (nothing_behind r p)
  leftwards-behind (zero ∷ path) below p q c i b = subst (λ (n : List ℕ). Behind r n p) (sym i) b.1
  leftwards-behind (suc at ∷ path) below p q c i b = absurd i

  over-behind : (x p q : Plan) (path : List ℕ) → r (over x p) ≡ None → Behind r path q → DiffersAt path p q → Behind r (path_over x path) (over x q)
  over-behind (Left h y c) p q path none b d = (not-applied r (0 ∷ path) (Left p y c) (Left q y c) none (differs-left path p q y c d), b)
  over-behind (Project es h) p q path none b d = (not-applied r path (Project es p) (Project es q) none (differs-project es path p q d), b)
  over-behind _ p q path none b d = b

  -- ---- down

  pub gone-down : (o : Bool) (xs ys : List Plan) (p l whole : Plan) (path below : List ℕ) → (o ≡ true → xs ≡ []) → IsAround s r xs p path whole → GoesDown s r o path below p → IsOpened xs p ys l →
      IsAround s r ys l below whole × (nodes l < nodes p)
  gone-down o xs ys (Left p q c) l whole path below none a g t =
      let x = Left UnitPlan q c in
      let rest = rest-more xs x p tt (may-follow xs x tt) a.1 g.0 in (
        (
          (λ i. within (t.0 i) (t.1 i)) ∙ within-last xs x p ∙ a.0,
          subst (λ (zs : List Plan). AllRest s r zs l) (sym t.0) (subst (λ (z : Plan). AllRest s r (xs ++ x ∷ []) z) (sym t.1) rest),
          subst (λ (z : Plan). Behind r below z) (sym t.1) (leftwards-behind path below p q c g.1 a.2),
        ),
        subst (λ (z : Plan). nodes z < nodes (Left p q c)) (sym t.1) (omega arith),
      )
  gone-down o xs ys (Project es p) l whole path below none a g t =
      let x = Project es UnitPlan in
      let alone : MayFollow xs x = subst (λ (zs : List Plan). MayFollow zs x) (sym (none g.1)) tt in
      let rest = rest-more xs x p tt alone a.1 g.0 in (
        (
          (λ i. within (t.0 i) (t.1 i)) ∙ within-last xs x p ∙ a.0,
          subst (λ (zs : List Plan). AllRest s r zs l) (sym t.0) (subst (λ (z : Plan). AllRest s r (xs ++ x ∷ []) z) (sym t.1) rest),
          subst (λ (z : Plan). Behind r below z) (sym t.1) (subst (λ (n : List ℕ). Behind r n p) (sym g.2) a.2.1),
        ),
        subst (λ (z : Plan). nodes z < nodes (Project es p)) (sym t.1) (omega arith),
      )
  gone-down o xs ys _ l whole path below none a g t = absurd g

  -- ---- up

  -- what is known of a plan after a step in it
  abbrev pub Moved : List Plan → Plan → Plan → List ℕ → Type 0
  Moved xs p q path = AllRest s r xs p × (plan_kinds s q ≡ plan_kinds s p) × Behind r path q × DiffersAt path p q

  by-side : (x : Option Plan) (xs ys : List Plan) (p q z : Plan) (path way : List ℕ) → Moved xs p q path → RaisedBy x xs q path ys z way → IsAround s r ys z way (within xs q)
  by-side None xs ys p q z path way m h = (
    (λ i. within (h.1 i) (h.2 i)) ∙ sym (ap (λ (zs : List Plan). within zs q) h.0),
    subst (λ (zs : List Plan). AllRest s r zs z) (sym h.1) tt,
    subst (λ (n : List ℕ). Behind r n z) (sym h.3) (subst (λ (v : Plan). Behind r path v) (sym h.2) m.2),
  )
  by-side (Some x) xs ys p q z path way m h =
      let b = rest-less ys x p (subst (λ (zs : List Plan). AllRest s r zs p) h.0 m.0) in
      let rest = rest-changed ys x p q b.2 m.1 b.0 in
      let behind = over-behind x p q path (rests-here (over x p) b.1) m.2 m.3 in (
        ap (within ys) h.1 ∙ sym (within-last ys x q) ∙ sym (ap (λ (zs : List Plan). within zs q) h.0),
        subst (λ (v : Plan). AllRest s r ys v) (sym h.1) rest,
        subst (λ (n : List ℕ). Behind r n z) (sym h.2) (subst (λ (v : Plan). Behind r (path_over x path) v) (sym h.1) behind),
      )

  pub raised : (xs ys : List Plan) (p q z : Plan) (path way : List ℕ) → Moved xs p q path → IsRaised xs q path ys z way → IsAround s r ys z way (within xs q)
  raised xs ys p q z path way m h = by-side h.0 xs ys p q z path way m h.1

  -- ---- a whole step

  pub whole-step : (whole : Plan) (xs ys : List Plan) (p q z : Plan) (f : Fell) (path way : List ℕ) → within xs p ≡ whole → everywhere r p ≡ Some (q, f) → Moved xs p q path → IsRaised xs q path ys z way →
      IsStepOf s r whole ys z (Some f) way
  whole-step whole xs ys p q z f path way w e m h =
      let a = raised xs ys p q z path way m h in
      let step : everywhere r whole ≡ Some (within xs q, f) = subst (λ (v : Plan). everywhere r v ≡ Some (within xs q, f)) w (within-step xs p q f m.0 e) in
      ((λ i. (a.0 i, Some f)) ∙ sym (ap (outcome whole) step), (a.1, a.2))

  pub no-step : (whole p : Plan) (xs : List Plan) (path : List ℕ) → xs ≡ [] → within xs p ≡ whole → everywhere r p ≡ None → IsStepOf s r whole xs p None path
  no-step whole p xs path n w e =
      let same : p ≡ whole = sym (ap (λ (zs : List Plan). within zs p) n) ∙ w in
      ((λ i. (w i, None)) ∙ sym (ap (outcome whole) (subst (λ (v : Plan). everywhere r v ≡ None) same e)), n)

  -- ---- beside a plan in which there is none

  pub over-none : (es : List Expr) (p : Plan) → r (Project es p) ≡ None → everywhere r p ≡ None → everywhere r (Project es p) ≡ None
  over-none es p none e =
      ap (λ (o : Option Step). option_or o (option_map (around (Project es)) (everywhere r p))) none ∙ ap (option_map (around (Project es))) e

  pub settled-step : (p q : Plan) (fell : Option Fell) (place : List ℕ) → everywhere r p ≡ None → q ≡ p → fell ≡ None → place ≡ [] → IsStep r p q fell place
  settled-step p q fell place e same none here =
      let at : IsStep r p p None [] = (sym (ap (outcome p) e), nothing_behind r p, tt) in
      subst (λ (n : List ℕ). IsStep r p q fell n) (sym here)
      (subst (λ (f : Option Fell). IsStep r p q f []) (sym none) (subst (λ (v : Plan). IsStep r p v None []) (sym same) at))

-- ---- what is told of a result part by part

pub raised-told : {X : Type 0} (a : X → Plan) (d : X → List ℕ) (xs ys : List Plan) (x p : Plan) (path : List ℕ) (made : Result X Memory) → xs ≡ ys ++ x ∷ [] → IfOk made (λ y. a y ≡ over x p) → IfOk made (λ y. d y ≡ path_over x path)
    → IfOk made (λ y. IsRaised xs p path ys (a y) (d y))
raised-told a d xs ys x p path (Ok y) h e k = (Some x, (h, e, k))
raised-told a d xs ys x p path (Err m) h e k = tt

pub step-told : {X : Type 0} (s : Tables) (r : Plan → Option Step) (whole : Plan) (xs : List Plan) (a : X → Plan) (b : X → Option Fell) (d : X → List ℕ) (p q : Plan) (f : Fell) (path : List ℕ) (ys : List Plan) (made : Result X Memory)
    → within xs p ≡ whole → everywhere r p ≡ Some (q, f) → Moved s r xs p q path → IfOk made (λ y. IsRaised xs q path ys (a y) (d y)) → IfOk made (λ y. b y ≡ Some f) → IfOk made (λ y. IsStepOf s r whole ys (a y) (b y) (d y))
step-told s r whole xs a b d p q f path ys (Ok y) w e m h k =
    subst (λ (o : Option Fell). IsStepOf s r whole ys (a y) o (d y)) (sym k) (whole-step s r whole xs ys p q (a y) f path (d y) w e m h)
step-told s r whole xs a b d p q f path ys (Err x) w e m h k = tt

-- ---- the kinds stay

pub kinds-stay : (r : Rule) → KeepsAll r → FallsAll r → (s : Tables) → IsWellFormed s → (p q : Plan) (f : Fell) → IsTyped s p → everywhere (r s) p ≡ Some (q, f) → plan_kinds s q ≡ plan_kinds s p
kinds-stay r keeps falls s form p q f t e = (anywhere-keeps r keeps falls s form p (q, f) t e).kinds

-- ---- after a step within the sides, and where there is none

pub none-known : (s : Tables) (r : Plan → Option Step) (whole : Plan) (xs : List Plan) (q : Plan) (fell : Option Fell) (place : List ℕ) → fell ≡ None → HasStepped s r whole xs q fell place →
    (within xs q ≡ whole) × AllRest s r xs q × (everywhere r q ≡ None)
none-known s r whole xs q fell place is d =
    let n = outcome-none d.0 q (everywhere r d.0) (ap (λ (o : Option Fell). (q, o)) (sym is) ∙ d.3.0) in
    (ap (within xs) n.1 ∙ d.1, subst (AllRest s r xs) (sym n.1) d.2, ap (everywhere r) n.1 ∙ n.0)

pub some-known : (r : Rule) → KeepsAll r → FallsAll r → (s : Tables) → IsWellFormed s → (whole : Plan) (xs : List Plan) (q : Plan) (f : Fell) (fell : Option Fell) (place : List ℕ) → IsTyped s whole → fell ≡ Some f → HasStepped s (r s) whole xs q fell place →
    (p : Plan) × (within xs p ≡ whole) × (everywhere (r s) p ≡ Some (q, f)) × Moved s (r s) xs p q (reverse place)
some-known r keeps falls s form whole xs q f fell place t is d =
    let p = d.0 in
    let e = outcome-some p q f (everywhere (r s) p) (ap (λ (o : Option Fell). (q, o)) (sym is) ∙ d.3.0) in
    let typed = typed-within s xs p (subst (IsTyped s) (sym d.1) t) in
    (p, d.1, e, (d.2, kinds-stay r keeps falls s form p q f typed e, d.3.1, d.3.2))

-- ---- the innermost side is taken

pub popped : (s : Tables) (r : Plan → Option Step) (xs ys : List Plan) (x p whole : Plan) → xs ≡ ys ++ x ∷ [] → within xs p ≡ whole → AllRest s r xs p →
    (within ys (over x p) ≡ whole) × AllRest s r ys (over x p) × Rests s r (over x p)
popped s r xs ys x p whole h w a =
    let b = rest-less s r ys x p (subst (λ (zs : List Plan). AllRest s r zs p) h a) in
    (sym (within-last ys x p) ∙ sym (ap (λ (zs : List Plan). within zs p) h) ∙ w, b.0, b.1)

pub at-end : (s : Tables) (r : Plan → Option Step) (whole p q : Plan) (xs : List Plan) (fell : Option Fell) (path : List ℕ) → xs ≡ [] → within xs p ≡ whole → everywhere r p ≡ None → q ≡ p → fell ≡ None → IsStepOf s r whole xs q fell path
at-end s r whole p q xs fell path n w e same none =
    subst (λ (o : Option Fell). IsStepOf s r whole xs q o path) (sym none) (no-step s r whole q xs path n (ap (within xs) same ∙ w) (ap (everywhere r) same ∙ e))

pub none-there : {A : Type 0} (o : Option A) → is_some o ≡ false → o ≡ None
none-there None e = refl
none-there (Some x) e = cc

pub not-so : {A : Type 0} → false ≡ true → A
not-so e = cc
