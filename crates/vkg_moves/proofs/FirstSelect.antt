-- The first member of a list that is a Select, with what it selects from where it stands.
use Rattle.std.proofs.Common.{◌≡◌, ◌∙◌, ℕ, ◌+◌, ◌<◌, List, [], ◌∷◌, ◌++◌, Option, Some, None, map, take, drop, length, get_or, refl, sym, ap}
use Rattle.std.specs.Prelude.{false, option_map}
use Rattle.std.specs.List.{list_any}
use Rattle.std.specs.Option.{option_map_or, option_or}
use Rattle.vkg_lists.proofs.Bools.{neither}
use Rattle.vkg_lists.proofs.Onto.{map_lacking}
use Rattle.vkg_expr.specs.declared.expr.Expr.{Expr as ExprValue}
use Rattle.vkg_expr.specs.Expr.{Expr}
use Rattle.vkg_expr.specs.Seen.{expr_seen}
use Rattle.vkg_plan.specs.declared.plan.Plan.{Plan as PlanValue}
use Rattle.vkg_plan.specs.Kinds.{Kinds, Tables, plan_kinds, width}
use Rattle.vkg_plan.specs.Plan.{Plan, Plans, Unit as UnitPlan, Empty, Scan, Select, Project, Join, Left, AntiJoin, UnionAll, Distinct, More, Nil}
use Rattle.vkg_plan.specs.Seen.{plan_seen}
use Rattle.vkg_rules.specs.declared.rewrite.Fell.TheVariants as fell
use Rattle.vkg_rules.specs.Measure.{kinds_or_none, or_no_kinds}
use Rattle.vkg_rules.specs.StepSeen.{plans_seen}
use Rattle.vkg_rules.proofs.Inside.{after_all}
use Rattle.vkg_rules.proofs.Members.{after_seen, before_one, drop_here, seen_more}
use Rattle.vkg_joins.specs.JoinInJoin.{Members, behind}
use Rattle.vkg_moves.specs.MergeSelects.{Part, before, first_condition, is_select, part_behind, unselected}

-- as many kinds as columns
pub kinds_wide : (s : Tables) (p : Plan) → length (kinds_or_none s p) ≡ width s p
kinds_wide s p = at (plan_kinds s p)
  where
    at : (o : Option Kinds) → length (or_no_kinds o) ≡ option_map_or length o 0
    at None = refl
    at (Some ks) = refl

-- the members of the list that were passed stay before what comes of the rest
abbrev pub passed : List Plan → Option Members → Option Members
passed ps = option_map (λ x. (after_all ps x.0, x.1))

-- no Select before i, where n columns stand
abbrev pub Passed : Tables → List PlanValue → ℕ → ℕ → Type 0
Passed s ps i n = unselected s 0 (plans_seen ps) ≡ passed (map plan_seen (take i ps)) (unselected s n (plans_seen (drop i ps)))

pub after_one : (ps : List Plan) (p : Plan) (qs : Plans) → after_all ps (More p qs) ≡ after_all (ps ++ p ∷ []) qs
after_one ps p qs = ap (λ o. option_map_or (λ x. x.0) o Nil) (before_one ps p (Some (qs, fell.Weight)))

passed-one : (ps : List Plan) (p : Plan) (o : Option Members) → passed ps (option_map (behind p) o) ≡ passed (ps ++ p ∷ []) o
passed-one ps p None = refl
passed-one ps p (Some x) = ap (λ q. Some (q, x.1)) (after_one ps p x.0)

-- the member at i, whose part is this
abbrev at_first : Tables → ℕ → Plan → Plans → Option Part → Option Members
at_first s n p ps o = option_or (option_map (before ps) o) (option_map (behind p) (unselected s (n + width s p) ps))

passed-here : (s : Tables) (ps : List PlanValue) (i n : ℕ) (p : PlanValue) (o : Option Part) → i < length ps → p ≡ get_or ps i p → o ≡ part_behind n (plan_seen p) → Passed s ps i n →
    unselected s 0 (plans_seen ps) ≡ passed (map plan_seen (take i ps)) (at_first s n (plan_seen p) (plans_seen (drop (i + 1) ps)) o)
passed-here s ps i n p o below is h k =
    k
    ∙ ap (λ l. passed (map plan_seen (take i ps)) (unselected s n (plans_seen l))) (drop_here ps i p below is)
    ∙ ap (λ m. passed (map plan_seen (take i ps)) (at_first s n (plan_seen p) (plans_seen (drop (i + 1) ps)) m)) (sym h)

pub select_here : (s : Tables) (ps : List PlanValue) (i n : ℕ) (p inner : PlanValue) (r : List PlanValue) (c : ExprValue) → i < length ps → p ≡ get_or ps i p →
    Some (plan_seen inner, expr_seen c) ≡ part_behind n (plan_seen p) → r ≡ take i ps ++ inner ∷ drop (i + 1) ps → Passed s ps i n → Some (plans_seen r, expr_seen c) ≡ unselected s 0 (plans_seen ps)
select_here s ps i n p inner r c below is part new k =
    ap (λ qs. Some (qs, expr_seen c)) (ap plans_seen new ∙ sym (after_seen (take i ps) (inner ∷ drop (i + 1) ps)))
    ∙ sym (passed-here s ps i n p (Some (plan_seen inner, expr_seen c)) below is part k)

pub no_select_here : (s : Tables) (ps : List PlanValue) (i n m : ℕ) (p : PlanValue) → i < length ps → p ≡ get_or ps i p → None ≡ part_behind n (plan_seen p) → m ≡ n + width s (plan_seen p) →
    Passed s ps i n → Passed s ps (i + 1) m
no_select_here s ps i n m p below is none w k =
    let rest = plans_seen (drop (i + 1) ps) in
    passed-here s ps i n p None below is none k
    ∙ passed-one (map plan_seen (take i ps)) (plan_seen p) (unselected s (n + width s (plan_seen p)) rest)
    ∙ (λ j. passed (sym (seen_more ps i p below is) j) (unselected s (sym w j) rest))

-- without a Select among them none is found
pub no_part : (p : Plan) (n : ℕ) → is_select p ≡ false → part_behind n p ≡ None
no_part UnitPlan n e = refl
no_part (Empty ks) n e = refl
no_part (Scan table) n e = refl
no_part (Select c p) n e = cc
no_part (Project es p) n e = refl
no_part (Join ps c) n e = refl
no_part (Left p q c) n e = refl
no_part (AntiJoin p q c) n e = refl
no_part (UnionAll ps) n e = refl
no_part (Distinct p) n e = refl

pub no_select : (s : Tables) (n : ℕ) (ps : List PlanValue) → list_any (λ p. is_select (plan_seen p)) ps ≡ false → unselected s n (plans_seen ps) ≡ None
no_select s n [] e = refl
no_select s n (p ∷ ps) e =
    let none = neither (is_select (plan_seen p)) (list_any (λ q. is_select (plan_seen q)) ps) e in
    let m = n + width s (plan_seen p) in
    ap (λ o. option_or (option_map (before (plans_seen ps)) o) (option_map (behind (plan_seen p)) (unselected s m (plans_seen ps)))) (no_part (plan_seen p) n none.0)
    ∙ ap (option_map (behind (plan_seen p))) (no_select s m ps none.1)

-- ---- the condition alone

condition-first : (s : Tables) (n : ℕ) (ls : List Plan) (p : Plan) (ps : Plans) (o : Option Part) (c : Expr) → Some c ≡ option_map (λ x. x.1) o → Some c ≡ option_map (λ x. x.1) (passed ls (at_first s n p ps o))
condition-first s n ls p ps None c e = cc
condition-first s n ls p ps (Some x) c e = e

pub condition_here : (s : Tables) (ps : List PlanValue) (i n : ℕ) (p : PlanValue) (c : Expr) → i < length ps → p ≡ get_or ps i p → Some c ≡ option_map (λ x. x.1) (part_behind n (plan_seen p)) → Passed s ps i n →
    Some c ≡ first_condition s (plans_seen ps)
condition_here s ps i n p c below is part k =
    let o = part_behind n (plan_seen p) in
    condition-first s n (map plan_seen (take i ps)) (plan_seen p) (plans_seen (drop (i + 1) ps)) o c part ∙ ap (option_map (λ (x : Members). x.1)) (sym (passed-here s ps i n p o below is refl k))

pub no_condition_here : (s : Tables) (ps : List PlanValue) (i n m : ℕ) (p : PlanValue) → i < length ps → p ≡ get_or ps i p → None ≡ option_map (λ (x : Part). x.1) (part_behind n (plan_seen p)) → m ≡ n + width s (plan_seen p) →
    Passed s ps i n → Passed s ps (i + 1) m
no_condition_here s ps i n m p below is none w k =
    no_select_here s ps i n m p below is (sym (map_lacking (λ (x : Part). x.1) (part_behind n (plan_seen p)) (sym none))) w k

pub no_condition : (s : Tables) (ps : List PlanValue) → list_any (λ p. is_select (plan_seen p)) ps ≡ false → first_condition s (plans_seen ps) ≡ None
no_condition s ps e = ap (option_map (λ (x : Members). x.1)) (no_select s 0 ps e)
