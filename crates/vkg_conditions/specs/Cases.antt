-- The steps by their names, and a change below an expression's root.
use Rattle.std.specs.Prelude.{Bool, List, [], ◌∷◌, Option, None, map, option_map}
use Rattle.std.specs.Option.{option_or}
use Rattle.vkg_expr.specs.declared.expr.Expr.{Expr as ExprValue}
use Rattle.vkg_expr.specs.Seen.{expr_seen}
use Rattle.vkg_expr.specs.Expr.{Expr, Exprs, exprs, Col, Const, MakeIri, IriOf, MakeBlank, MakeLit, Lex, IriSafe, Concat, Same, IsNull, Not, And, Or, Coalesce, Sparql, Ebv}
use Rattle.vkg_expr.specs.Logic.{and_of, or_of}
use Rattle.vkg_expr.specs.Places.{first_place, first_of_each}
use Rattle.vkg_plan.specs.Plan.{Plan}
use Rattle.vkg_rules.specs.declared.rewrite.Fell.TheVariants as fell
use Rattle.vkg_rules.specs.Steps.{Step}
use Rattle.vkg_conditions.specs.declared.cases.Case.{Case}
use Rattle.vkg_conditions.specs.declared.cases.Case.TheVariants as case
use Rattle.vkg_conditions.specs.declared.junctions.Junction.{Junction}
use Rattle.vkg_conditions.specs.declared.junctions.Junction.TheVariants as junction
use Rattle.vkg_conditions.specs.Conditions.{deciding, flat, is_and, is_or, negated, neutral, repeated, twice_negated}
use Rattle.vkg_conditions.specs.SimplifyCondition.{in_condition, in_conjuncts, in_own, same_itself}

-- And or Or of some, and whether an expression is one
abbrev pub junction_of : Junction → List Expr → Expr
junction_of junction.All = and_of
junction_of junction.Any = or_of

abbrev pub junction_with : Junction → Exprs → Expr
junction_with junction.All = And
junction_with junction.Any = Or

abbrev pub is_junction : Junction → Expr → Bool
is_junction junction.All = is_and
is_junction junction.Any = is_or

-- the step of a case
abbrev pub step_of : Case → Expr → Option Expr
step_of case.Deciding = deciding
step_of case.Neutral = neutral
step_of case.Negated = negated
step_of case.Flat = flat
step_of case.TwiceNegated = twice_negated
step_of case.Repeated = repeated

-- the first of some cases that applies in a plan's own expressions, else a conjunct that is equal to itself
abbrev pub first_case : List Case → Plan → Option Plan
first_case [] p = in_condition same_itself p
first_case (c ∷ cs) p = option_or (in_own (step_of c) p) (first_case cs p)

-- so of a condition: the first of some cases that applies in it, and the first of all
abbrev pub case_in : List Case → Expr → Option Expr
case_in [] c = in_conjuncts same_itself c
case_in (k ∷ ks) c = option_or (first_place (step_of k) c) (case_in ks c)

abbrev pub simplified_in : Expr → Option Expr
simplified_in c = case_in (case.Deciding ∷ case.Neutral ∷ case.Negated ∷ case.Flat ∷ case.TwiceNegated ∷ case.Repeated ∷ []) c

abbrev pub smaller : Plan → Step
smaller p = (p, fell.Size)

abbrev pub exprs_seen : List ExprValue → Exprs
exprs_seen es = exprs (map expr_seen es)

-- a change at the first place below the root
abbrev pub inside : (Expr → Option Expr) → Expr → Option Expr
inside f (Col at) = None
inside f (Const c k) = None
inside f (MakeIri e) = option_map MakeIri (first_place f e)
inside f (IriOf base e) = option_map (IriOf base) (first_place f e)
inside f (MakeBlank e) = option_map MakeBlank (first_place f e)
inside f (MakeLit e k) = option_map (λ x. MakeLit x k) (first_place f e)
inside f (Lex e) = option_map Lex (first_place f e)
inside f (IriSafe e) = option_map IriSafe (first_place f e)
inside f (Concat es) = option_map Concat (first_of_each f es)
inside f (Same a b) = option_or (option_map (λ x. Same x b) (first_place f a)) (option_map (Same a) (first_place f b))
inside f (IsNull e) = option_map IsNull (first_place f e)
inside f (Not e) = option_map Not (first_place f e)
inside f (And es) = option_map And (first_of_each f es)
inside f (Or es) = option_map Or (first_of_each f es)
inside f (Coalesce es) = option_map Coalesce (first_of_each f es)
inside f (Sparql op es) = option_map (Sparql op) (first_of_each f es)
inside f (Ebv e) = option_map Ebv (first_place f e)

-- an expression of one part, and one of a list of parts, with others in their place
abbrev pub with_part : Expr → Expr → Expr
with_part (MakeIri e) d = MakeIri d
with_part (IriOf base e) d = IriOf base d
with_part (MakeBlank e) d = MakeBlank d
with_part (MakeLit e k) d = MakeLit d k
with_part (Lex e) d = Lex d
with_part (IriSafe e) d = IriSafe d
with_part (IsNull e) d = IsNull d
with_part (Not e) d = Not d
with_part (Ebv e) d = Ebv d
with_part e d = d

abbrev pub with_parts : Expr → Exprs → Expr
with_parts (And es) ds = And ds
with_parts (Or es) ds = Or ds
with_parts (Coalesce es) ds = Coalesce ds
with_parts (Sparql op es) ds = Sparql op ds
with_parts e ds = Concat ds
