-- The first member of a list that is a Project, lifted where it stands.
use Rattle.std.proofs.Common.{◌≡◌, ◌∙◌, ℕ, ◌+◌, ◌<◌, List, [], ◌∷◌, ◌++◌, Option, Some, None, map, take, drop, length, get_or, refl, sym, ap}
use Rattle.std.specs.Prelude.{false, option_map}
use Rattle.std.specs.List.{list_any}
use Rattle.std.specs.Option.{option_map_or, option_or}
use Rattle.vkg_lists.proofs.Bools.{neither}
use Rattle.vkg_lists.proofs.Onto.{map_lacking}
use Rattle.vkg_expr.specs.Expr.{Expr}
use Rattle.vkg_plan.specs.declared.plan.Plan.{Plan as PlanValue}
use Rattle.vkg_plan.specs.Kinds.{Tables, width}
use Rattle.vkg_plan.specs.Plan.{Plan, Plans, Unit as UnitPlan, Empty, Scan, Select, Project, Join, Left, AntiJoin, UnionAll, Distinct, More, Nil}
use Rattle.vkg_plan.specs.Seen.{plan_seen}
use Rattle.vkg_rules.specs.declared.rewrite.Fell.TheVariants as fell
use Rattle.vkg_rules.specs.StepSeen.{plans_seen}
use Rattle.vkg_rules.proofs.Inside.{after_all}
use Rattle.vkg_rules.proofs.Members.{before_one, drop_here, seen_more}
use Rattle.vkg_lifts.specs.BelowProjects.{exprs_between, exprs_of_members, is_project}
use Rattle.vkg_lifts.specs.LiftProjects.{Lifted, Parts, before, behind, lifted, parts_between, widths}

-- the members of the list that were passed stay before what comes of the rest
abbrev pub passed : List Plan → Option Lifted → Option Lifted
passed ps = option_map (λ x. (x.0, after_all ps x.1))

-- no Project before i, where n columns stand
abbrev pub Closed : Tables → List PlanValue → ℕ → ℕ → Type 0
Closed s ps i n = lifted s 0 (plans_seen ps) ≡ passed (map plan_seen (take i ps)) (lifted s n (plans_seen (drop i ps)))

pub after_one : (ps : List Plan) (p : Plan) (qs : Plans) → after_all ps (More p qs) ≡ after_all (ps ++ p ∷ []) qs
after_one ps p qs = ap (λ o. option_map_or (λ x. x.0) o Nil) (before_one ps p (Some (qs, fell.Weight)))

passed-one : (ps : List Plan) (p : Plan) (o : Option Lifted) → passed ps (option_map (behind p) o) ≡ passed (ps ++ p ∷ []) o
passed-one ps p None = refl
passed-one ps p (Some x) = ap (λ q. Some (x.0, q)) (after_one ps p x.1)

-- the member at i, whose parts are these
abbrev pub at_first : Tables → ℕ → Plan → Plans → Option Parts → Option Lifted
at_first s n p ps o = option_or (option_map (before ps) o) (option_map (behind p) (lifted s (n + width s p) ps))

closed-here : (s : Tables) (ps : List PlanValue) (i n : ℕ) (p : PlanValue) (o : Option Parts) → i < length ps → p ≡ get_or ps i p →
    o ≡ parts_between s n (widths s (plans_seen (drop (i + 1) ps))) (plan_seen p) → Closed s ps i n →
    lifted s 0 (plans_seen ps) ≡ passed (map plan_seen (take i ps)) (at_first s n (plan_seen p) (plans_seen (drop (i + 1) ps)) o)
closed-here s ps i n p o below is h k =
    k
    ∙ ap (λ l. passed (map plan_seen (take i ps)) (lifted s n (plans_seen l))) (drop_here ps i p below is)
    ∙ ap (λ m. passed (map plan_seen (take i ps)) (at_first s n (plan_seen p) (plans_seen (drop (i + 1) ps)) m)) (sym h)

-- the expressions are those of the member at i
exprs-first : (s : Tables) (n : ℕ) (ls : List Plan) (p : Plan) (ps : Plans) (o : Option Parts) (es : List Expr) → Some es ≡ option_map (λ x. x.0) o → Some es ≡ option_map (λ x. x.0) (passed ls (at_first s n p ps o))
exprs-first s n ls p ps None es e = cc
exprs-first s n ls p ps (Some x) es e = e

pub project_here : (s : Tables) (ps : List PlanValue) (i n : ℕ) (p : PlanValue) (es : List Expr) → i < length ps → p ≡ get_or ps i p →
    Some es ≡ exprs_between s n (widths s (plans_seen (drop (i + 1) ps))) (plan_seen p) → Closed s ps i n → Some es ≡ exprs_of_members s (plans_seen ps)
project_here s ps i n p es below is parts k =
    let rest = plans_seen (drop (i + 1) ps) in
    let o = parts_between s n (widths s rest) (plan_seen p) in
    exprs-first s n (map plan_seen (take i ps)) (plan_seen p) rest o es parts ∙ ap (option_map (λ (x : Lifted). x.0)) (sym (closed-here s ps i n p o below is refl k))

pub no_project_here : (s : Tables) (ps : List PlanValue) (i n m : ℕ) (p : PlanValue) → i < length ps → p ≡ get_or ps i p →
    None ≡ exprs_between s n (widths s (plans_seen (drop (i + 1) ps))) (plan_seen p) → m ≡ n + width s (plan_seen p) → Closed s ps i n → Closed s ps (i + 1) m
no_project_here s ps i n m p below is none w k =
    let rest = plans_seen (drop (i + 1) ps) in
    let lacking = map_lacking (λ (x : Parts). x.0) (parts_between s n (widths s rest) (plan_seen p)) (sym none) in
    closed-here s ps i n p None below is (sym lacking) k
    ∙ passed-one (map plan_seen (take i ps)) (plan_seen p) (lifted s (n + width s (plan_seen p)) rest)
    ∙ (λ j. passed (sym (seen_more ps i p below is) j) (lifted s (sym w j) rest))

-- ---- what is no Project has no parts

pub no_parts : (s : Tables) (n k : ℕ) (p : Plan) → is_project p ≡ false → parts_between s n k p ≡ None
no_parts s n k UnitPlan e = refl
no_parts s n k (Empty ks) e = refl
no_parts s n k (Scan table) e = refl
no_parts s n k (Select c p) e = refl
no_parts s n k (Project es p) e = cc
no_parts s n k (Join ps c) e = refl
no_parts s n k (Left p q c) e = refl
no_parts s n k (AntiJoin p q c) e = refl
no_parts s n k (UnionAll ps) e = refl
no_parts s n k (Distinct p) e = refl

pub no_exprs : (s : Tables) (n k : ℕ) (p : Plan) → is_project p ≡ false → exprs_between s n k p ≡ None
no_exprs s n k p e = ap (option_map (λ (x : Parts). x.0)) (no_parts s n k p e)

pub none_lifted : (s : Tables) (n : ℕ) (ps : List PlanValue) → list_any (λ p. is_project (plan_seen p)) ps ≡ false → lifted s n (plans_seen ps) ≡ None
none_lifted s n [] e = refl
none_lifted s n (p ∷ ps) e =
    let none = neither (is_project (plan_seen p)) (list_any (λ q. is_project (plan_seen q)) ps) e in
    ap (at_first s n (plan_seen p) (plans_seen ps)) (no_parts s n (widths s (plans_seen ps)) (plan_seen p) none.0)
    ∙ ap (option_map (behind (plan_seen p))) (none_lifted s (n + width s (plan_seen p)) ps none.1)

pub no_project : (s : Tables) (ps : List PlanValue) → list_any (λ p. is_project (plan_seen p)) ps ≡ false → exprs_of_members s (plans_seen ps) ≡ None
no_project s ps e = ap (option_map (λ (x : Lifted). x.0)) (none_lifted s 0 ps e)
