-- The first member of a list that is a Join, opened where it stands.
use Rattle.std.proofs.Common.{◌≡◌, ◌∙◌, ℕ, ◌+◌, ◌<◌, List, [], ◌∷◌, ◌++◌, Option, Some, None, map, take, drop, length, get_or, refl, sym, ap, append_assoc}
use Rattle.std.specs.Prelude.{false, option_map}
use Rattle.std.specs.List.{list_any}
use Rattle.vkg_lists.proofs.Bools.{neither}
use Rattle.std.specs.Option.{option_map_or, option_or}
use Rattle.std.proofs.lemmas.List.{map-append}
use Rattle.vkg_expr.specs.declared.expr.Expr.{Expr as ExprValue}
use Rattle.vkg_expr.specs.Seen.{expr_seen}
use Rattle.vkg_plan.specs.declared.plan.Plan.{Plan as PlanValue}
use Rattle.vkg_plan.specs.Kinds.{Tables, width}
use Rattle.vkg_plan.specs.Plan.{Plan, Plans, Unit as UnitPlan, Empty, Scan, Select, Project, Join, Left, AntiJoin, UnionAll, Distinct, More, Nil, each, plans}
use Rattle.vkg_plan.specs.Seen.{plan_seen}
use Rattle.vkg_rules.specs.declared.rewrite.Fell.TheVariants as fell
use Rattle.vkg_rules.specs.StepSeen.{plans_seen}
use Rattle.vkg_rules.proofs.Inside.{after_all}
use Rattle.vkg_rules.proofs.Members.{after_seen, before_one, drop_here, seen_more}
use Rattle.vkg_joins.specs.JoinInJoin.{Members, before, behind, is_join, opened, parts_behind}

-- the members of the list that were passed stay before what comes of the rest
abbrev pub passed : List Plan → Option Members → Option Members
passed ps = option_map (λ x. (after_all ps x.0, x.1))

-- no Join before i, where n columns stand
abbrev pub Closed : Tables → List PlanValue → ℕ → ℕ → Type 0
Closed s ps i n = opened s 0 (plans_seen ps) ≡ passed (map plan_seen (take i ps)) (opened s n (plans_seen (drop i ps)))

after_one : (ps : List Plan) (p : Plan) (qs : Plans) → after_all ps (More p qs) ≡ after_all (ps ++ p ∷ []) qs
after_one ps p qs = ap (λ o. option_map_or (λ x. x.0) o Nil) (before_one ps p (Some (qs, fell.Weight)))

passed-one : (ps : List Plan) (p : Plan) (o : Option Members) → passed ps (option_map (behind p) o) ≡ passed (ps ++ p ∷ []) o
passed-one ps p None = refl
passed-one ps p (Some x) = ap (λ q. Some (q, x.1)) (after_one ps p x.0)

each-plans : (ps : List Plan) → each (plans ps) ≡ ps
each-plans [] = refl
each-plans (p ∷ ps) = ap (λ l. p ∷ l) (each-plans ps)

both-seen : (qs ps : List PlanValue) → plans (each (plans_seen qs) ++ each (plans_seen ps)) ≡ plans_seen (qs ++ ps)
both-seen qs ps = ap plans ((λ i. each-plans (map plan_seen qs) i ++ each-plans (map plan_seen ps) i) ∙ sym (map-append plan_seen qs ps))

-- the member at i, whose parts are these
abbrev at_first : Tables → ℕ → Plan → Plans → Option Members → Option Members
at_first s n p ps o = option_or (option_map (before ps) o) (option_map (behind p) (opened s (n + width s p) ps))

closed-here : (s : Tables) (ps : List PlanValue) (i n : ℕ) (p : PlanValue) (o : Option Members) → i < length ps → p ≡ get_or ps i p → o ≡ parts_behind n (plan_seen p) → Closed s ps i n →
    opened s 0 (plans_seen ps) ≡ passed (map plan_seen (take i ps)) (at_first s n (plan_seen p) (plans_seen (drop (i + 1) ps)) o)
closed-here s ps i n p o below is h k =
    k
    ∙ ap (λ l. passed (map plan_seen (take i ps)) (opened s n (plans_seen l))) (drop_here ps i p below is)
    ∙ ap (λ m. passed (map plan_seen (take i ps)) (at_first s n (plan_seen p) (plans_seen (drop (i + 1) ps)) m)) (sym h)

pub join_here : (s : Tables) (ps : List PlanValue) (i n : ℕ) (p : PlanValue) (inner r : List PlanValue) (c : ExprValue) → i < length ps → p ≡ get_or ps i p →
    Some (plans_seen inner, expr_seen c) ≡ parts_behind n (plan_seen p) → r ≡ (take i ps ++ inner) ++ drop (i + 1) ps → Closed s ps i n → Some (plans_seen r, expr_seen c) ≡ opened s 0 (plans_seen ps)
join_here s ps i n p inner r c below is parts new k =
    let rest = drop (i + 1) ps in
    ap (λ qs. Some (qs, expr_seen c)) (
    ap plans_seen (new ∙ append_assoc (take i ps) inner rest)
    ∙ sym (after_seen (take i ps) (inner ++ rest))
    ∙ ap (after_all (map plan_seen (take i ps))) (sym (both-seen inner rest)))
    ∙ sym (closed-here s ps i n p (Some (plans_seen inner, expr_seen c)) below is parts k)

pub no_join_here : (s : Tables) (ps : List PlanValue) (i n m : ℕ) (p : PlanValue) → i < length ps → p ≡ get_or ps i p → None ≡ parts_behind n (plan_seen p) → m ≡ n + width s (plan_seen p) →
    Closed s ps i n → Closed s ps (i + 1) m
no_join_here s ps i n m p below is none w k =
    let rest = plans_seen (drop (i + 1) ps) in
    closed-here s ps i n p None below is none k
    ∙ passed-one (map plan_seen (take i ps)) (plan_seen p) (opened s (n + width s (plan_seen p)) rest)
    ∙ (λ j. passed (sym (seen_more ps i p below is) j) (opened s (sym w j) rest))

-- without a Join among them nothing is opened
no-parts : (p : Plan) (n : ℕ) → is_join p ≡ false → parts_behind n p ≡ None
no-parts UnitPlan n e = refl
no-parts (Empty ks) n e = refl
no-parts (Scan table) n e = refl
no-parts (Select c p) n e = refl
no-parts (Project es p) n e = refl
no-parts (Join ps c) n e = cc
no-parts (Left p q c) n e = refl
no-parts (AntiJoin p q c) n e = refl
no-parts (UnionAll ps) n e = refl
no-parts (Distinct p) n e = refl

pub no_join : (s : Tables) (n : ℕ) (ps : List PlanValue) → list_any (λ p. is_join (plan_seen p)) ps ≡ false → opened s n (plans_seen ps) ≡ None
no_join s n [] e = refl
no_join s n (p ∷ ps) e =
    let none = neither (is_join (plan_seen p)) (list_any (λ q. is_join (plan_seen q)) ps) e in
    let m = n + width s (plan_seen p) in
    ap (λ o. option_or (option_map (before (plans_seen ps)) o) (option_map (behind (plan_seen p)) (opened s m (plans_seen ps)))) (no-parts (plan_seen p) n none.0)
    ∙ ap (option_map (behind (plan_seen p))) (no_join s m ps none.1)
