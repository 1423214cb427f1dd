-- `same_plan` tells equal plans from all others.
use Rattle.std.proofs.Common.{◌≡◌, true, ◌&&◌, List, [], ◌∷◌, refl, sym, ap, ◌∙◌}
use Rattle.vkg_lists.specs.Sets.{IsEqualityTest}
use Rattle.vkg_lists.proofs.Bools.{and_parts, and_true}
use Rattle.vkg_lists.proofs.Counts.{eq_itself, eq_same}
use Rattle.vkg_lists.proofs.Tests.{list_test, nat_test}
use Rattle.vkg_expr.specs.Expr.{Expr, Exprs, exprs}
use Rattle.vkg_expr.specs.Expr as expr
use Rattle.vkg_expr.proofs.ValueFits.{kinds_apart}
use Rattle.vkg_plan.specs.Plan.{Plan, Plans, Unit, Empty, Scan, Select, Project, Join, Left, AntiJoin, UnionAll, Distinct, Nil, More}
use Rattle.vkg_same.specs.SameExpr.{same_expr, same_exprs}
use Rattle.vkg_same.specs.SameExprLaw.{same_expr-is, same_exprs-is}
use Rattle.vkg_same.specs.SameItself.{same_expr-itself, same_exprs-itself}
use Rattle.vkg_unions.specs.SamePlan.{same_plan, same_plans}

exprs-is : (es fs : List Expr) → exprs es ≡ exprs fs → es ≡ fs
exprs-is [] [] h = refl
exprs-is [] (f ∷ fs) h = cc
exprs-is (e ∷ es) [] h = cc
exprs-is (e ∷ es) (f ∷ fs) h = let k = more-is e f (exprs es) (exprs fs) h in let r = exprs-is es fs k.1 in λ i. k.0 i ∷ r i
  where
    more-is : (e f : Expr) (es fs : Exprs) → expr.More e es ≡ expr.More f fs → (e ≡ f) × (es ≡ fs)
    more-is e f es fs h = (ap head h, ap tail h)
      where
        head : Exprs → Expr
        head expr.Nil = e
        head (expr.More x xs) = x

        tail : Exprs → Exprs
        tail expr.Nil = es
        tail (expr.More x xs) = xs

mutual
  pub same_plan-is : (p q : Plan) → same_plan p q ≡ true → p ≡ q
  same_plan-is Unit Unit h = refl
  same_plan-is (Empty ks) (Empty ls) h = ap Empty (eq_same (list_test kinds_apart) ks ls h)
  same_plan-is (Scan t) (Scan u) h = ap Scan (eq_same nat_test t u h)
  same_plan-is (Select c p) (Select d q) h = let b = and_parts _ _ h in let l = same_expr-is c d b.0 in let r = same_plan-is p q b.1 in λ i. Select (l i) (r i)
  same_plan-is (Project es p) (Project fs q) h =
      let b = and_parts _ _ h in
      let l = exprs-is es fs (same_exprs-is (exprs es) (exprs fs) b.1) in
      let r = same_plan-is p q b.0 in λ i. Project (l i) (r i)
  same_plan-is (Join ps c) (Join qs d) h = let b = and_parts _ _ h in let l = same_plans-is ps qs b.0 in let r = same_expr-is c d b.1 in λ i. Join (l i) (r i)
  same_plan-is (Left p q c) (Left r t d) h =
      let b = and_parts (same_plan p r && same_plan q t) (same_expr c d) h in
      let a = and_parts (same_plan p r) (same_plan q t) b.0 in
      let l = same_plan-is p r a.0 in let m = same_plan-is q t a.1 in let k = same_expr-is c d b.1 in λ i. Left (l i) (m i) (k i)
  same_plan-is (AntiJoin p q c) (AntiJoin r t d) h =
      let b = and_parts (same_plan p r && same_plan q t) (same_expr c d) h in
      let a = and_parts (same_plan p r) (same_plan q t) b.0 in
      let l = same_plan-is p r a.0 in let m = same_plan-is q t a.1 in let k = same_expr-is c d b.1 in λ i. AntiJoin (l i) (m i) (k i)
  same_plan-is (UnionAll ps) (UnionAll qs) h = ap UnionAll (same_plans-is ps qs h)
  same_plan-is (Distinct p) (Distinct q) h = ap Distinct (same_plan-is p q h)
  same_plan-is _ _ h = cc

  pub same_plans-is : (ps qs : Plans) → same_plans ps qs ≡ true → ps ≡ qs
  same_plans-is Nil Nil h = refl
  same_plans-is (More p ps) (More q qs) h = let b = and_parts _ _ h in let l = same_plan-is p q b.0 in let r = same_plans-is ps qs b.1 in λ i. More (l i) (r i)
  same_plans-is _ _ h = cc

-- ---- each is one with itself

mutual
  pub same_plan-itself : (p : Plan) → same_plan p p ≡ true
  same_plan-itself Unit = refl
  same_plan-itself (Empty ks) = eq_itself (list_test kinds_apart) ks
  same_plan-itself (Scan t) = eq_itself nat_test t
  same_plan-itself (Select c p) = and_true (same_expr c c) (same_plan p p) (same_expr-itself c) (same_plan-itself p)
  same_plan-itself (Project es p) = and_true (same_plan p p) (same_exprs (exprs es) (exprs es)) (same_plan-itself p) (same_exprs-itself (exprs es))
  same_plan-itself (Join ps c) = and_true (same_plans ps ps) (same_expr c c) (same_plans-itself ps) (same_expr-itself c)
  same_plan-itself (Left p q c) = and_true (same_plan p p && same_plan q q) (same_expr c c) (and_true (same_plan p p) (same_plan q q) (same_plan-itself p) (same_plan-itself q)) (same_expr-itself c)
  same_plan-itself (AntiJoin p q c) = and_true (same_plan p p && same_plan q q) (same_expr c c) (and_true (same_plan p p) (same_plan q q) (same_plan-itself p) (same_plan-itself q)) (same_expr-itself c)
  same_plan-itself (UnionAll ps) = same_plans-itself ps
  same_plan-itself (Distinct p) = same_plan-itself p

  pub same_plans-itself : (ps : Plans) → same_plans ps ps ≡ true
  same_plans-itself Nil = refl
  same_plans-itself (More p ps) = and_true (same_plan p p) (same_plans ps ps) (same_plan-itself p) (same_plans-itself ps)

-- the test tells equal plans from all others
pub plans_apart : IsEqualityTest same_plan
plans_apart = record { decides = λ p q. (same_plan-is p q, λ e. ap (same_plan p) (sym e) ∙ same_plan-itself p) }
