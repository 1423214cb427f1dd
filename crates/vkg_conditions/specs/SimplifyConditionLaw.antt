-- The laws of the rule: the plan's columns and rows stay, and the size of its expressions falls.
use Rattle.std.proofs.Common.{◌≡◌, ◌∙◌, inl, inr, suc, ◌<◌, ◌≤◌, true, List, [], ◌∷◌, refl, sym, ap, subst, arith}
use Rattle.std.specs.Prelude.{Option, Some}
use Rattle.vkg_lists.specs.Options.{with_first}
use Rattle.vkg_lists.proofs.Onto.{first_given, map_given}
use Rattle.vkg_lists.proofs.Results.{then_given}
use Rattle.vkg_cells.specs.declared.cell.SqlType.{SqlType}
use Rattle.vkg_cells.specs.declared.cell.SqlType.TheVariants as kind
use Rattle.vkg_schema.specs.Rows.{Row, is_known_true}
use Rattle.vkg_expr.specs.Expr.{Expr, Exprs, Not, And, Or, exprs}
use Rattle.vkg_expr.specs.Laws.{FitsRow}
use Rattle.vkg_expr.specs.Places.{first_place, first_of_each}
use Rattle.vkg_expr.specs.Typing.{are_all, is_one, kind_of, kinds_of, no_column}
use Rattle.vkg_expr.specs.Value.{truth_of, value_of, values_of}
use Rattle.vkg_plan.specs.Kinds.{Kinds, Tables}
use Rattle.vkg_plan.specs.Plan.{Plan, Select, Project, Join, Left, AntiJoin}
use Rattle.vkg_rules.specs.declared.rewrite.Fell.TheVariants as fell
use Rattle.vkg_rules.specs.InNodes.{IsLawful}
use Rattle.vkg_rules.specs.Measure.{equalities_each, sizes}
use Rattle.vkg_rules.specs.Steps.{FallsAll, IsTyped, KeepsAll, Step}
use Rattle.vkg_conditions.specs.Conditions.{deciding, flat, negated, neutral, repeated, twice_negated}
use Rattle.vkg_conditions.specs.ConditionsLaw.{deciding-simpler, flat-step, negated-step, neutral-step, repeated-step, twice-step}
use Rattle.vkg_conditions.specs.ConjunctsLaw.{conjuncts-better}
use Rattle.vkg_conditions.specs.FirstPlace.{bare-of_each, first_place-same, or_cases}
use Rattle.vkg_conditions.specs.FirstPlaceLess.{place-less}
use Rattle.vkg_conditions.specs.Junctions.{IsTruth, SimplerOn}
use Rattle.vkg_conditions.specs.NodesLaw.{AreOwn, BetterOn, anti-better, join-better, left-better, own-fit, project-better, select-better}
use Rattle.vkg_conditions.specs.SameAs.{SameEachOn, SameOn}
use Rattle.vkg_conditions.specs.SimplifyCondition.{first_of, in_condition, in_conjuncts, in_own, same_itself, simplified, simplify_condition}

-- a step on truths that makes each simpler, on such rows
pub record IsGoodOn (On : Kinds → Row → Type 0) (f : Expr → Option Expr) : Type 0 where
  pub simpler : (ks : List SqlType) (e d : Expr) (k : SqlType) → kind_of e ks ≡ Some k → f e ≡ Some d → SimplerOn (On ks) ks e d
  pub on_truths : (ks : List SqlType) (e d : Expr) (k : SqlType) → kind_of e ks ≡ Some k → f e ≡ Some d → k ≡ kind.Bool

module _ (On : Kinds → Row → Type 0) (f : Expr → Option Expr) (good : IsGoodOn On f) (ks : List SqlType) where
  same : (e d : Expr) (k : SqlType) → kind_of e ks ≡ Some k → f e ≡ Some d → SameOn (On ks) ks e d
  same e d k t h = (good.simpler ks e d k t h).same

  texts : (es ds : Exprs) → are_all kind.Text (kinds_of es ks) ≡ true → no_column es ≡ true → first_of_each f es ≡ Some ds → no_column ds ≡ true
  texts es ds t n h = bare-of_each ks f (good.on_truths ks) es ds t n h

  place-simpler : (e d : Expr) (k : SqlType) → kind_of e ks ≡ Some k → first_place f e ≡ Some d → SimplerOn (On ks) ks e d
  place-simpler e d k t h =
      let l = place-less (On ks) ks f same texts (λ e d k t h. ((good.simpler ks e d k t h).less, (good.simpler ks e d k t h).fewer)) e d k t h in
      record { same = first_place-same (On ks) ks f same texts e d k t h; less = l.0; fewer = l.1 }

  pub place-better : (c d : Expr) → first_place f c ≡ Some d → IsTruth ks c → BetterOn (On ks) ks c d
  place-better c d h t =
      let s = place-simpler c d kind.Bool t h in
      record { truth = s.same.kind_kept ∙ t; same = λ row w. ap (λ v. is_known_true (truth_of v)) (s.same.value row w); less = s.less; fewer = s.fewer }

  -- the same among several
  abbrev pub AreBetter : List Expr → List Expr → Type 0
  AreBetter es ds = SameEachOn (On ks) ks (exprs es) (exprs ds) × (sizes (exprs ds) < sizes (exprs es)) × (equalities_each ks (exprs ds) ≤ equalities_each ks (exprs es))

  first-better : (es ds : List Expr) (ls : List SqlType) → kinds_of (exprs es) ks ≡ Some ls → first_of f es ≡ Some ds → AreBetter es ds
  first-better [] ds ls t h = cc
  first-better (e ∷ es) ds ls t h =
      let m = first_given (kind_of e ks) (kinds_of (exprs es) ks) ls t in
      elim (or_cases _ _ ds h) [
        | inl i ↦
            let n = map_given (λ x. x ∷ es) (first_place f e) ds i in
            let s = place-simpler e n.0 m.0 m.1 n.1 in let a = s.less in let b = s.fewer in
            subst (AreBetter (e ∷ es)) n.2 (
              record {
                kinds_kept = ap (λ x. with_first x (kinds_of (exprs es) ks)) s.same.kind_kept;
                as_many = refl;
                values = λ row w. ap (λ v. v ∷ values_of (exprs es) row) (s.same.value row w);
              },
              omega (arith, a),
              omega (arith, b),
            )
        | inr i ↦
            let n = map_given (λ x. e ∷ x) (first_of f es) ds i in
            let s = first-better es n.0 m.2.0 m.2.1 n.1 in let a = s.1 in let b = s.2 in
            subst (AreBetter (e ∷ es)) n.2 (
              record {
                kinds_kept = ap (with_first (kind_of e ks)) s.0.kinds_kept;
                as_many = ap suc s.0.as_many;
                values = λ row w. ap (λ v. value_of e row ∷ v) (s.0.values row w);
              },
              omega (arith, a),
              omega (arith, b),
            )
      ]

pub own-lawful : (On : Kinds → Row → Type 0) (f : Expr → Option Expr) → IsGoodOn On f → (s : Tables) (p q : Plan) → AreOwn On s p → IsTyped s p → in_own f p ≡ Some q → IsLawful s p (q, fell.Size)
own-lawful On f good s (Select c p) q own t h =
    let m = map_given (λ d. Select d p) (first_place f c) q h in
    subst (λ z. IsLawful s (Select c p) (z, fell.Size)) m.2 (select-better On s c m.0 p t own (λ ks k. place-better On f good ks c m.0 m.1 k))
own-lawful On f good s (Project es p) q own t h =
    let m = map_given (λ ds. Project ds p) (first_of f es) q h in
    subst (λ z. IsLawful s (Project es p) (z, fell.Size)) m.2 (project-better On s es m.0 p t own (λ ks ls k. first-better On f good ks es m.0 ls k m.1))
own-lawful On f good s (Join ps c) q own t h =
    let m = map_given (Join ps) (first_place f c) q h in
    subst (λ z. IsLawful s (Join ps c) (z, fell.Size)) m.2 (join-better On s c m.0 ps t own (λ ks k. place-better On f good ks c m.0 m.1 k))
own-lawful On f good s (Left p r c) q own t h =
    let m = map_given (Left p r) (first_place f c) q h in
    subst (λ z. IsLawful s (Left p r c) (z, fell.Size)) m.2 (left-better On s c m.0 p r t own (λ ks k. place-better On f good ks c m.0 m.1 k))
own-lawful On f good s (AntiJoin p r c) q own t h =
    let m = map_given (AntiJoin p r) (first_place f c) q h in
    subst (λ z. IsLawful s (AntiJoin p r c) (z, fell.Size)) m.2 (anti-better On s c m.0 p r t own (λ ks k. place-better On f good ks c m.0 m.1 k))
own-lawful On f good s _ q own t h = cc

-- on rows of their columns' kinds
abbrev pub IsGood : (Expr → Option Expr) → Type 0
IsGood f = IsGoodOn FitsRow f

pub fit-lawful : (f : Expr → Option Expr) → IsGood f → (s : Tables) (p q : Plan) → IsTyped s p → in_own f p ≡ Some q → IsLawful s p (q, fell.Size)
fit-lawful f good s p q t h = own-lawful FitsRow f good s p q (own-fit s p) t h

pub condition-lawful : (s : Tables) (p q : Plan) → IsTyped s p → in_condition same_itself p ≡ Some q → IsLawful s p (q, fell.Size)
condition-lawful s (Select c p) q t h =
    let m = map_given (λ d. Select d p) (in_conjuncts same_itself c) q h in
    subst (λ z. IsLawful s (Select c p) (z, fell.Size)) m.2 (select-better FitsRow s c m.0 p t (own-fit s (Select c p)) (λ ks k. conjuncts-better ks c m.0 m.1 k))
condition-lawful s (Join ps c) q t h =
    let m = map_given (Join ps) (in_conjuncts same_itself c) q h in
    subst (λ z. IsLawful s (Join ps c) (z, fell.Size)) m.2 (join-better FitsRow s c m.0 ps t (own-fit s (Join ps c)) (λ ks k. conjuncts-better ks c m.0 m.1 k))
condition-lawful s (Left p r c) q t h =
    let m = map_given (Left p r) (in_conjuncts same_itself c) q h in
    subst (λ z. IsLawful s (Left p r c) (z, fell.Size)) m.2 (left-better FitsRow s c m.0 p r t (own-fit s (Left p r c)) (λ ks k. conjuncts-better ks c m.0 m.1 k))
condition-lawful s (AntiJoin p r c) q t h =
    let m = map_given (AntiJoin p r) (in_conjuncts same_itself c) q h in
    subst (λ z. IsLawful s (AntiJoin p r c) (z, fell.Size)) m.2 (anti-better FitsRow s c m.0 p r t (own-fit s (AntiJoin p r c)) (λ ks k. conjuncts-better ks c m.0 m.1 k))
condition-lawful s _ q t h = cc

-- ---- the steps are good

and-truth : (ks : List SqlType) (es : Exprs) (k : SqlType) → kind_of (And es) ks ≡ Some k → k ≡ kind.Bool
and-truth ks es k t = sym (then_given (are_all kind.Bool (kinds_of es ks)) kind.Bool k t).1

or-truth : (ks : List SqlType) (es : Exprs) (k : SqlType) → kind_of (Or es) ks ≡ Some k → k ≡ kind.Bool
or-truth ks es k t = sym (then_given (are_all kind.Bool (kinds_of es ks)) kind.Bool k t).1

not-truth : (ks : List SqlType) (e : Expr) (k : SqlType) → kind_of (Not e) ks ≡ Some k → k ≡ kind.Bool
not-truth ks e k t = sym (then_given (is_one kind.Bool (kind_of e ks)) kind.Bool k t).1

deciding-truth : (ks : List SqlType) (e d : Expr) (k : SqlType) → kind_of e ks ≡ Some k → deciding e ≡ Some d → k ≡ kind.Bool
deciding-truth ks (And es) d k t h = and-truth ks es k t
deciding-truth ks (Or es) d k t h = or-truth ks es k t
deciding-truth ks _ d k t h = cc

neutral-truth : (ks : List SqlType) (e d : Expr) (k : SqlType) → kind_of e ks ≡ Some k → neutral e ≡ Some d → k ≡ kind.Bool
neutral-truth ks (And es) d k t h = and-truth ks es k t
neutral-truth ks (Or es) d k t h = or-truth ks es k t
neutral-truth ks _ d k t h = cc

flat-truth : (ks : List SqlType) (e d : Expr) (k : SqlType) → kind_of e ks ≡ Some k → flat e ≡ Some d → k ≡ kind.Bool
flat-truth ks (And es) d k t h = and-truth ks es k t
flat-truth ks (Or es) d k t h = or-truth ks es k t
flat-truth ks _ d k t h = cc

repeated-truth : (ks : List SqlType) (e d : Expr) (k : SqlType) → kind_of e ks ≡ Some k → repeated e ≡ Some d → k ≡ kind.Bool
repeated-truth ks (And es) d k t h = and-truth ks es k t
repeated-truth ks (Or es) d k t h = or-truth ks es k t
repeated-truth ks _ d k t h = cc

negated-truth : (ks : List SqlType) (e d : Expr) (k : SqlType) → kind_of e ks ≡ Some k → negated e ≡ Some d → k ≡ kind.Bool
negated-truth ks (Not e) d k t h = not-truth ks e k t
negated-truth ks _ d k t h = cc

twice-truth : (ks : List SqlType) (e d : Expr) (k : SqlType) → kind_of e ks ≡ Some k → twice_negated e ≡ Some d → k ≡ kind.Bool
twice-truth ks (Not e) d k t h = not-truth ks e k t
twice-truth ks _ d k t h = cc

simplified-lawful : (s : Tables) (p q : Plan) → IsTyped s p → simplified p ≡ Some q → IsLawful s p (q, fell.Size)
simplified-lawful s p q t h = elim (or_cases (in_own deciding p) _ q h) [
  | inl i ↦ fit-lawful deciding (record { simpler = deciding-simpler; on_truths = deciding-truth }) s p q t i
  | inr a ↦ elim (or_cases (in_own neutral p) _ q a) [
    | inl i ↦ fit-lawful neutral (record { simpler = neutral-step; on_truths = neutral-truth }) s p q t i
    | inr b ↦ elim (or_cases (in_own negated p) _ q b) [
      | inl i ↦ fit-lawful negated (record { simpler = negated-step; on_truths = negated-truth }) s p q t i
      | inr c ↦ elim (or_cases (in_own flat p) _ q c) [
        | inl i ↦ fit-lawful flat (record { simpler = flat-step; on_truths = flat-truth }) s p q t i
        | inr d ↦ elim (or_cases (in_own twice_negated p) _ q d) [
          | inl i ↦ fit-lawful twice_negated (record { simpler = twice-step; on_truths = twice-truth }) s p q t i
          | inr e ↦ elim (or_cases (in_own repeated p) _ q e) [
            | inl i ↦ fit-lawful repeated (record { simpler = repeated-step; on_truths = repeated-truth }) s p q t i
            | inr f ↦ condition-lawful s p q t f
          ]
        ]
      ]
    ]
  ]
]

simplify_condition-lawful : (s : Tables) (p : Plan) (x : Step) → IsTyped s p → simplify_condition s p ≡ Some x → IsLawful s p x
unfolding simplify_condition
simplify_condition-lawful s p x t e = let m = map_given (λ q. (q, fell.Size)) (simplified p) x e in subst (IsLawful s p) m.2 (simplified-lawful s p m.0 t m.1)

pub simplify_condition-keeps : KeepsAll simplify_condition
simplify_condition-keeps s form p x t e = let l = simplify_condition-lawful s p x t e in record { kinds = l.kinds; rows = l.rows }

pub simplify_condition-falls : FallsAll simplify_condition
simplify_condition-falls s form p x t e = (simplify_condition-lawful s p x t e).falls
