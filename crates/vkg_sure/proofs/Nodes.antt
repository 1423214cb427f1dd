-- What is placed by a node's parts is placed by the node: a condition says nothing of places, nor does the right of a left join.
use Rattle.std.proofs.Common.{◌≡◌, ◌∙◌, ℕ, List, map, sym, ap}
use Rattle.vkg_equalities.specs.TableColumns.{flags_beside}
use Rattle.vkg_expr.specs.declared.expr.Expr.{Expr as ExprValue}
use Rattle.vkg_expr.specs.Seen.{expr_seen}
use Rattle.vkg_plan.specs.declared.plan.Plan.{Plan as PlanValue}
use Rattle.vkg_plan.specs.declared.plan.Plan.TheVariants as value
use Rattle.vkg_plan.specs.Kinds.{Tables}
use Rattle.vkg_plan.specs.Plan.{Plan, plans}
use Rattle.vkg_plan.specs.Seen.{plan_seen}
use Rattle.vkg_plan.proofs.SeenParts.{seen-AntiJoin, seen-Left, seen-Select}
use Rattle.vkg_rules.proofs.Seen.{seen-Join}
use Rattle.vkg_sure.specs.declared.told.Told.{Told}
use Rattle.vkg_sure.specs.NeverNull.{never_null, never_null_each}
use Rattle.vkg_sure.specs.ToldAt.{or_behind, told_at, unsaid}
use Rattle.vkg_sure.proofs.Places.{placed_condition, placed_two}

abbrev placed_of : Tables → Plan → ℕ → Told
placed_of s p at = unsaid (told_at (never_null s p) at)

pub placed_select : (s : Tables) (e p q : PlanValue) (c : ExprValue) (at : ℕ) (t : Told) → e ≡ value.Select c p → q ≡ p → t ≡ unsaid (told_at (never_null s (plan_seen q)) at) → t ≡ unsaid (told_at (never_null s (plan_seen e)) at)
placed_select s e p q c at t is same h =
    h ∙ ap (λ x. placed_of s (plan_seen x) at) same ∙ sym (placed_condition (never_null s (plan_seen p)) (expr_seen c) at) ∙ ap (λ x. placed_of s x at) (sym (ap plan_seen is ∙ seen-Select c p))

pub placed_join : (s : Tables) (e : PlanValue) (ps qs : List PlanValue) (c : ExprValue) (at : ℕ) (t : Told) → e ≡ value.Join ps c → qs ≡ ps →
    t ≡ unsaid (told_at (flags_beside (never_null_each s (plans (map plan_seen qs)))) at) → t ≡ unsaid (told_at (never_null s (plan_seen e)) at)
placed_join s e ps qs c at t is same h =
    h ∙ ap (λ (l : List PlanValue). unsaid (told_at (flags_beside (never_null_each s (plans (map plan_seen l)))) at)) same
    ∙ sym (placed_condition (flags_beside (never_null_each s (plans (map plan_seen ps)))) (expr_seen c) at) ∙ ap (λ x. placed_of s x at) (sym (ap plan_seen is ∙ seen-Join ps c))

pub placed_left : (s : Tables) (e p q l r : PlanValue) (c : ExprValue) (at : ℕ) (t u : Told) → e ≡ value.Left p q c → l ≡ p → r ≡ q →
    u ≡ unsaid (told_at (never_null s (plan_seen l)) at) → t ≡ or_behind u (λ n. unsaid (told_at (never_null s (plan_seen r)) n)) → t ≡ unsaid (told_at (never_null s (plan_seen e)) at)
placed_left s e p q l r c at t u is first second i h =
    h ∙ ap (λ z. or_behind z (placed_of s (plan_seen r))) (i ∙ ap (λ x. placed_of s (plan_seen x) at) first) ∙ ap (λ x. or_behind (placed_of s (plan_seen p) at) (placed_of s (plan_seen x))) second
    ∙ sym (placed_two (never_null s (plan_seen p)) (never_null s (plan_seen q)) at) ∙ ap (λ x. placed_of s x at) (sym (ap plan_seen is ∙ seen-Left p q c))

pub placed_anti : (s : Tables) (e p q l : PlanValue) (c : ExprValue) (at : ℕ) (t : Told) → e ≡ value.AntiJoin p q c → l ≡ p → t ≡ unsaid (told_at (never_null s (plan_seen l)) at) → t ≡ unsaid (told_at (never_null s (plan_seen e)) at)
placed_anti s e p q l c at t is same h =
    h ∙ ap (λ x. placed_of s (plan_seen x) at) same ∙ ap (λ x. placed_of s x at) (sym (ap plan_seen is ∙ seen-AntiJoin p q c))
