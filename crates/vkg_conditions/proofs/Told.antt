-- A plan that is another at a place below its first node has the expressions of its own that it had.
use Rattle.std.proofs.Common.{◌≡◌, ◌∙◌, ℕ, zero, suc, List, [], ◌∷◌, Option, None, refl, ap}
use Rattle.std.specs.Prelude.{option_map}
use Rattle.std.specs.Option.{option_or}
use Rattle.vkg_lists.proofs.Onto.{map_lacking}
use Rattle.vkg_expr.specs.Expr.{Expr}
use Rattle.vkg_expr.specs.Places.{first_place}
use Rattle.vkg_plan.specs.Kinds.{Tables}
use Rattle.vkg_plan.specs.Plan.{Plan, Unit as UnitPlan, Empty, Scan, Select, Project, Join, Left, AntiJoin, UnionAll, Distinct}
use Rattle.vkg_rules.proofs.Outcomes.{neither}
use Rattle.vkg_rules.specs.declared.rewrite.Fell.TheVariants as fell
use Rattle.vkg_rules.specs.Places.{DidNotApply, Others, with_at, with_member}
use Rattle.vkg_conditions.specs.Conditions.{deciding, flat, negated, neutral, repeated, twice_negated}
use Rattle.vkg_conditions.specs.SimplifyCondition.{first_of, in_condition, in_conjuncts, in_own, same_itself, simplified, simplify_condition}

abbrev Same : (Plan → Option Plan) → Type 0
Same f = (at : ℕ) (path : List ℕ) (y : Others) (p : Plan) → f (with_at (at ∷ path) y p) ≡ None → f p ≡ None

still : {A B C : Type 0} (f : A → B) (g : A → C) (o : Option A) → option_map f o ≡ None → option_map g o ≡ None
still f g o e = ap (option_map g) (map_lacking f o e)

own-same : (f : Expr → Option Expr) → Same (in_own f)
own-same f at path y UnitPlan e = refl
own-same f at path y (Empty ks) e = refl
own-same f at path y (Scan table) e = refl
own-same f at path y (Select c p) e = still (λ d. Select d (with_at (at ∷ path) y p)) (λ d. Select d p) (first_place f c) e
own-same f at path y (Project es p) e = still (λ ds. Project ds (with_at (at ∷ path) y p)) (λ ds. Project ds p) (first_of f es) e
own-same f at path y (Join ps c) e = still (Join (with_member at path y ps)) (Join ps) (first_place f c) e
own-same f zero [] y (Left p q c) e = still (Left y.0 q) (Left p q) (first_place f c) e
own-same f zero (n ∷ path) y (Left p q c) e = still (Left (with_at (n ∷ path) y p) q) (Left p q) (first_place f c) e
own-same f (suc at) [] y (Left p q c) e = still (Left p y.0) (Left p q) (first_place f c) e
own-same f (suc at) (n ∷ path) y (Left p q c) e = still (Left p (with_at (n ∷ path) y q)) (Left p q) (first_place f c) e
own-same f zero [] y (AntiJoin p q c) e = still (AntiJoin y.0 q) (AntiJoin p q) (first_place f c) e
own-same f zero (n ∷ path) y (AntiJoin p q c) e = still (AntiJoin (with_at (n ∷ path) y p) q) (AntiJoin p q) (first_place f c) e
own-same f (suc at) [] y (AntiJoin p q c) e = still (AntiJoin p y.0) (AntiJoin p q) (first_place f c) e
own-same f (suc at) (n ∷ path) y (AntiJoin p q c) e = still (AntiJoin p (with_at (n ∷ path) y q)) (AntiJoin p q) (first_place f c) e
own-same f at path y (UnionAll ps) e = refl
own-same f at path y (Distinct p) e = refl

condition-same : (f : Expr → Option Expr) → Same (in_condition f)
condition-same f at path y UnitPlan e = refl
condition-same f at path y (Empty ks) e = refl
condition-same f at path y (Scan table) e = refl
condition-same f at path y (Select c p) e = still (λ d. Select d (with_at (at ∷ path) y p)) (λ d. Select d p) (in_conjuncts f c) e
condition-same f at path y (Project es p) e = refl
condition-same f at path y (Join ps c) e = still (Join (with_member at path y ps)) (Join ps) (in_conjuncts f c) e
condition-same f zero [] y (Left p q c) e = still (Left y.0 q) (Left p q) (in_conjuncts f c) e
condition-same f zero (n ∷ path) y (Left p q c) e = still (Left (with_at (n ∷ path) y p) q) (Left p q) (in_conjuncts f c) e
condition-same f (suc at) [] y (Left p q c) e = still (Left p y.0) (Left p q) (in_conjuncts f c) e
condition-same f (suc at) (n ∷ path) y (Left p q c) e = still (Left p (with_at (n ∷ path) y q)) (Left p q) (in_conjuncts f c) e
condition-same f zero [] y (AntiJoin p q c) e = still (AntiJoin y.0 q) (AntiJoin p q) (in_conjuncts f c) e
condition-same f zero (n ∷ path) y (AntiJoin p q c) e = still (AntiJoin (with_at (n ∷ path) y p) q) (AntiJoin p q) (in_conjuncts f c) e
condition-same f (suc at) [] y (AntiJoin p q c) e = still (AntiJoin p y.0) (AntiJoin p q) (in_conjuncts f c) e
condition-same f (suc at) (n ∷ path) y (AntiJoin p q c) e = still (AntiJoin p (with_at (n ∷ path) y q)) (AntiJoin p q) (in_conjuncts f c) e
condition-same f at path y (UnionAll ps) e = refl
condition-same f at path y (Distinct p) e = refl

or-same : (f g : Plan → Option Plan) → Same f → Same g → Same (λ p. option_or (f p) (g p))
or-same f g h k at path y p e =
    let q = with_at (at ∷ path) y p in
    let n = neither (f q) (g q) e in
    ap (λ o. option_or o (g p)) (h at path y p n.0) ∙ k at path y p n.1

simplified-same : Same simplified
simplified-same =
    or-same _ _ (own-same deciding)
    (or-same _ _ (own-same neutral)
    (or-same _ _ (own-same negated)
    (or-same _ _ (own-same flat)
    (or-same _ _ (own-same twice_negated)
    (or-same _ _ (own-same repeated) (condition-same same_itself))))))

pub condition-stays : (s : Tables) (at : ℕ) (path : List ℕ) (p : Plan) → DidNotApply (simplify_condition s) (at ∷ path) p → simplify_condition s p ≡ None
unfolding simplify_condition
condition-stays s at path p d =
    ap (option_map (λ q. (q, fell.Size))) (simplified-same at path d.0 p (map_lacking (λ q. (q, fell.Size)) (simplified (with_at (at ∷ path) d.0 p)) d.1))
