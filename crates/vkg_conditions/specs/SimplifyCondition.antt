-- The rule: what is constant, nested or said twice in a condition goes, one step at a time.
use Rattle.std.specs.Prelude.{◌&&◌, List, [], ◌∷◌, Option, None, option_map}
use Rattle.std.specs.Option.{option_or}
use Rattle.vkg_expr.specs.Expr.{Expr, Same, IsNull, Not}
use Rattle.vkg_expr.specs.Logic.{and_of, conjuncts}
use Rattle.vkg_expr.specs.Places.{first_place}
use Rattle.vkg_expr.specs.Strict.{is_strict}
use Rattle.vkg_plan.specs.Plan.{Plan, Select, Project, Join, Left, AntiJoin}
use Rattle.vkg_rules.specs.declared.rewrite.Fell.TheVariants as fell
use Rattle.vkg_rules.specs.Steps.{Rule}
use Rattle.vkg_conditions.specs.Conditions.{deciding, flat, if_so, negated, neutral, repeated, twice_negated}
use Rattle.vkg_same.specs.SameExpr.{same_expr}

-- a change at the first place of the first expression that has one
abbrev pub first_of : (Expr → Option Expr) → List Expr → Option (List Expr)
first_of f [] = None
first_of f (e ∷ es) = option_or (option_map (λ d. d ∷ es) (first_place f e)) (option_map (λ ds. e ∷ ds) (first_of f es))

-- the same in a plan's own expressions: a condition, or what is projected
abbrev pub in_own : (Expr → Option Expr) → Plan → Option Plan
in_own f (Select c p) = option_map (λ d. Select d p) (first_place f c)
in_own f (Project es p) = option_map (λ ds. Project ds p) (first_of f es)
in_own f (Join ps c) = option_map (Join ps) (first_place f c)
in_own f (Left p q c) = option_map (Left p q) (first_place f c)
in_own f (AntiJoin p q c) = option_map (AntiJoin p q) (first_place f c)
in_own f p = None

-- a change of the first conjunct of a condition that has one
abbrev pub first_conjunct : (Expr → Option Expr) → List Expr → Option (List Expr)
first_conjunct f [] = None
first_conjunct f (c ∷ cs) = option_or (option_map (λ d. d ∷ cs) (f c)) (option_map (λ ds. c ∷ ds) (first_conjunct f cs))

abbrev pub in_conjuncts : (Expr → Option Expr) → Expr → Option Expr
in_conjuncts f c = option_map and_of (first_conjunct f (conjuncts c))

abbrev pub in_condition : (Expr → Option Expr) → Plan → Option Plan
in_condition f (Select c p) = option_map (λ d. Select d p) (in_conjuncts f c)
in_condition f (Join ps c) = option_map (Join ps) (in_conjuncts f c)
in_condition f (Left p q c) = option_map (Left p q) (in_conjuncts f c)
in_condition f (AntiJoin p q c) = option_map (AntiJoin p q) (in_conjuncts f c)
in_condition f p = None

-- SQL-92, 8.2: what is strict is equal to itself where it is known. Where it is NULL the equality is unknown and the other test
-- is false: no row passes either, so that this is a step of conjuncts, but their values differ, so that it is one of no other place
abbrev pub same_itself : Expr → Option Expr
same_itself (Same a b) = if_so (same_expr a b && is_strict a) (Not (IsNull a))
same_itself e = None

-- the first listed step that applies anywhere in the plan's own expressions, at its first place
abbrev pub simplified : Plan → Option Plan
simplified p =
    option_or (in_own deciding p)
    (option_or (in_own neutral p)
    (option_or (in_own negated p)
    (option_or (in_own flat p)
    (option_or (in_own twice_negated p)
    (option_or (in_own repeated p)
    (in_condition same_itself p))))))

unfoldable pub simplify_condition : Rule
simplify_condition schema p = option_map (λ q. (q, fell.Size)) (simplified p)
