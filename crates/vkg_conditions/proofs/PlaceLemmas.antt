-- A step at the root or at the first place below it, and in lists of parts.
use Rattle.std.proofs.Common.{◌≡◌, ◌∙◌, List, [], ◌∷◌, map, Option, Some, None, refl, sym, ap}
use Rattle.std.specs.Prelude.{option_map}
use Rattle.std.specs.Option.{option_or}
use Rattle.vkg_lists.proofs.Onto.{or_none}
use Rattle.vkg_expr.specs.declared.expr.Expr.{Expr as ExprValue}
use Rattle.vkg_expr.specs.Expr.{Expr, Exprs, Col, Const, MakeIri, IriOf, MakeBlank, MakeLit, Lex, IriSafe, Concat, Same, IsNull, Not, And, Or, Coalesce, Sparql, Ebv, More, each, exprs}
use Rattle.vkg_expr.specs.Logic.{and_of}
use Rattle.vkg_expr.specs.Places.{first_place, first_of_each}
use Rattle.vkg_expr.specs.Seen.{expr_seen}
use Rattle.vkg_expr.proofs.Conjuncts.{each_exprs}
use Rattle.vkg_conditions.specs.Cases.{exprs_seen, inside}
use Rattle.vkg_conditions.specs.SimplifyCondition.{first_conjunct, first_of}

pub at_root : (f : Expr → Option Expr) (e : Expr) → first_place f e ≡ option_or (f e) (inside f e)
at_root f (Col at) = sym (or_none (f (Col at)))
at_root f (Const c k) = sym (or_none (f (Const c k)))
at_root f (MakeIri e) = refl
at_root f (IriOf base e) = refl
at_root f (MakeBlank e) = refl
at_root f (MakeLit e k) = refl
at_root f (Lex e) = refl
at_root f (IriSafe e) = refl
at_root f (Concat es) = refl
at_root f (Same a b) = refl
at_root f (IsNull e) = refl
at_root f (Not e) = refl
at_root f (And es) = refl
at_root f (Or es) = refl
at_root f (Coalesce es) = refl
at_root f (Sparql op es) = refl
at_root f (Ebv e) = refl

-- ---- in lists, and in lists of parts

case_parts : (o : Option Expr) (e : Expr) (es : List Expr) (p : Option (List Expr)) (q : Option Exprs) → q ≡ option_map exprs p →
    option_or (option_map (λ x. More x (exprs es)) o) (option_map (More e) q) ≡ option_map exprs (option_or (option_map (λ d. d ∷ es) o) (option_map (λ ds. e ∷ ds) p))
case_parts (Some d) e es p q k = refl
case_parts None e es None q k = ap (option_map (More e)) k
case_parts None e es (Some ds) q k = ap (option_map (More e)) k

pub of_parts : (f : Expr → Option Expr) (es : List Expr) → first_of_each f (exprs es) ≡ option_map exprs (first_of f es)
of_parts f [] = refl
of_parts f (e ∷ es) = case_parts (first_place f e) e es (first_of f es) (first_of_each f (exprs es)) (of_parts f es)

pub listed : (f : Expr → Option Expr) (o : Option (List ExprValue)) (es : List Expr) → option_map exprs_seen o ≡ first_of_each f (exprs es) → option_map (map expr_seen) o ≡ first_of f es
listed f o es h = sym (each_of o) ∙ ap (option_map each) (h ∙ of_parts f es) ∙ each_back (first_of f es)
  where
    each_of : (o : Option (List ExprValue)) → option_map each (option_map exprs_seen o) ≡ option_map (map expr_seen) o
    each_of None = refl
    each_of (Some ds) = ap Some (each_exprs (map expr_seen ds))

    each_back : (o : Option (List Expr)) → option_map each (option_map exprs o) ≡ o
    each_back None = refl
    each_back (Some ds) = ap Some (each_exprs ds)

-- a list of one conjunct
pub only_conjunct : (f : Expr → Option Expr) (c : Expr) → option_map and_of (first_conjunct f (c ∷ [])) ≡ f c
only_conjunct f c = case_only (f c)
  where
    case_only : (o : Option Expr) → option_map and_of (option_or (option_map (λ d. d ∷ []) o) None) ≡ o
    case_only None = refl
    case_only (Some d) = refl
