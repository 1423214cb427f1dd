-- What the rule makes of a Join by the condition of the first Select among its members: the Join that is opened.
use Rattle.std.proofs.Common.{◌≡◌, ◌∙◌, ℕ, ◌+◌, Option, Some, None, refl, sym, ap}
use Rattle.std.specs.Prelude.{option_map}
use Rattle.vkg_expr.specs.Expr.{Expr}
use Rattle.vkg_expr.specs.Logic.{and_then}
use Rattle.vkg_plan.specs.Kinds.{Tables, width}
use Rattle.vkg_plan.specs.Plan.{Plan, Plans, Unit as UnitPlan, Empty, Scan, Select, Project, Join, Left, AntiJoin, UnionAll, Distinct, More, Nil}
use Rattle.vkg_rules.specs.declared.rewrite.Fell.TheVariants as fell
use Rattle.vkg_rules.specs.Steps.{Step}
use Rattle.vkg_joins.specs.JoinInJoin.{Members, behind}
use Rattle.vkg_moves.specs.MergeSelects.{first_below, first_condition, member_condition, merge_selects, opened, unselected}

-- the members are those of the list, the first Select among them opened
abbrev AreFirst : Plans → Option Members → Type 0
AreFirst ps o = o ≡ option_map (λ (c : Expr). (ps, c)) (option_map (λ (x : Members). x.1) o)

later : (p : Plan) (ps : Plans) (o : Option Members) → AreFirst ps o → AreFirst (More p ps) (option_map (behind p) o)
later p ps None e = refl
later p ps (Some x) e = ap (option_map (behind p)) e

-- the step to the Join of members under their condition and then this one, and to the plan that is opened
abbrev joined : Expr → Members → Step
joined c x = (Join x.0 (and_then x.1 c), fell.Weight)

abbrev over : Plan → Expr → Step
over p d = (opened d p, fell.Weight)

above-first : (ps : Plans) (c : Expr) (o : Option Members) → AreFirst (first_below ps) o → option_map (joined c) o ≡ option_map (over (Join ps c)) (option_map (λ (x : Members). x.1) o)
above-first ps c None e = refl
above-first ps c (Some x) e = ap (option_map (joined c)) e

module _ (s : Tables) where
  first-below : (n : ℕ) (ps : Plans) → AreFirst (first_below ps) (unselected s n ps)
  first-below n Nil = refl
  first-below n (More (Select c p) ps) = refl
  first-below n (More UnitPlan ps) = later UnitPlan (first_below ps) (unselected s (n + width s UnitPlan) ps) (first-below (n + width s UnitPlan) ps)
  first-below n (More (Empty ks) ps) = later (Empty ks) (first_below ps) (unselected s (n + width s (Empty ks)) ps) (first-below (n + width s (Empty ks)) ps)
  first-below n (More (Scan table) ps) = later (Scan table) (first_below ps) (unselected s (n + width s (Scan table)) ps) (first-below (n + width s (Scan table)) ps)
  first-below n (More (Project es p) ps) = later (Project es p) (first_below ps) (unselected s (n + width s (Project es p)) ps) (first-below (n + width s (Project es p)) ps)
  first-below n (More (Join qs c) ps) = later (Join qs c) (first_below ps) (unselected s (n + width s (Join qs c)) ps) (first-below (n + width s (Join qs c)) ps)
  first-below n (More (Left p q c) ps) = later (Left p q c) (first_below ps) (unselected s (n + width s (Left p q c)) ps) (first-below (n + width s (Left p q c)) ps)
  first-below n (More (AntiJoin p q c) ps) = later (AntiJoin p q c) (first_below ps) (unselected s (n + width s (AntiJoin p q c)) ps) (first-below (n + width s (AntiJoin p q c)) ps)
  first-below n (More (UnionAll qs) ps) = later (UnionAll qs) (first_below ps) (unselected s (n + width s (UnionAll qs)) ps) (first-below (n + width s (UnionAll qs)) ps)
  first-below n (More (Distinct p) ps) = later (Distinct p) (first_below ps) (unselected s (n + width s (Distinct p)) ps) (first-below (n + width s (Distinct p)) ps)

  pub member_opened : (p q : Plan) (d : Expr) → member_condition s p ≡ Some d → q ≡ opened d p → merge_selects s p ≡ Some (q, fell.Weight)
  member_opened (Join ps c) q d e h =
      above-first ps c (unselected s 0 ps) (first-below 0 ps)
      ∙ ap (option_map (over (Join ps c))) e
      ∙ ap (λ (z : Plan). Some (z, fell.Weight)) (sym h)
  member_opened _ q d e h = cc
