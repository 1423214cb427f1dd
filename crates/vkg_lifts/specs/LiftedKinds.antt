-- The kinds of a Project and of the plan below it, and of what comes of lifting it.
use Rattle.std.proofs.Common.{◌≡◌, ◌∙◌, ℕ, List, length, Option, Some, None, refl, sym, ap, subst}
use Rattle.std.specs.Prelude.{option_and_then, if◌then◌else◌}
use Rattle.std.specs.Option.{option_map_or}
use Rattle.vkg_lists.proofs.Each.{recursion_weaken}
use Rattle.vkg_cells.specs.declared.cell.SqlType.TheVariants as kind
use Rattle.vkg_schema.specs.Rows.{Row}
use Rattle.vkg_expr.specs.Expr.{Expr, exprs}
use Rattle.vkg_expr.specs.Laws.{HasKinds}
use Rattle.vkg_expr.specs.Strict.{put}
use Rattle.vkg_expr.specs.Typing.{is_one, kinds_of}
use Rattle.vkg_columns.proofs.Conjuncts.{IsTruth}
use Rattle.vkg_columns.proofs.OnColumns.{each-in_range}
use Rattle.vkg_columns.specs.Columns.{at_place}
use Rattle.vkg_plan.specs.Kinds.{Kinds, Tables, checked, plan_kinds, width}
use Rattle.vkg_plan.specs.Laws.{HaveKinds}
use Rattle.vkg_plan.specs.Plan.{Plan, Project}
use Rattle.vkg_shapes.specs.PartsLaw.{wide}
use Rattle.vkg_lifts.specs.InBetween.{AreWithin}
use Rattle.vkg_lifts.specs.PutPlaces.{put_places-kind}
use Rattle.vkg_lifts.specs.ThroughPairs.{AreOfWidth}

-- the columns below a Project of the kinds ls
pub record ProjectKinds (s : Tables) (es : List Expr) (p : Plan) (ls : Kinds) : Type 0 where
  pub below : Kinds
  pub of_below : plan_kinds s p ≡ Some below
  pub of_each : kinds_of (exprs es) below ≡ Some ls
  pub as_wide : length below ≡ width s p
  pub within : AreWithin (width s p) es

pub as_wide : (s : Tables) (p : Plan) (ks : Kinds) → plan_kinds s p ≡ Some ks → length ks ≡ width s p
as_wide s p ks e = ap (λ o. option_map_or length o 0) (sym e)

pub project-kinds : (s : Tables) (es : List Expr) (p : Plan) (ls : Kinds) → plan_kinds s (Project es p) ≡ Some ls → ProjectKinds s es p ls
project-kinds s es p ls e = at (plan_kinds s p) refl e
  where
    at : (o : Option Kinds) → plan_kinds s p ≡ o → option_and_then (kinds_of (exprs es)) o ≡ Some ls → ProjectKinds s es p ls
    at None i k = cc
    at (Some ks) i k =
        let w = as_wide s p ks i in
        record { below = ks; of_below = i; of_each = k; as_wide = w; within = subst (λ n. AreWithin n es) w (each-in_range (exprs es) ks ls k) }

checked-truth : (c : Expr) (o : Option Kinds) (ks : Kinds) → o ≡ Some ks → IsTruth ks c → checked c o ≡ Some ks
checked-truth c o ks e k = ap (checked c) e ∙ ap (λ m. if is_one kind.Bool m then Some ks else None) k

-- expressions that give of the columns below those over which the condition was: so many columns are above as before
pub above-kinds : (all : List Expr) (c : Expr) (o p : Option Kinds) (ks ls : Kinds) → o ≡ Some ls → IsTruth ls c → p ≡ Some ks → kinds_of (exprs all) ks ≡ Some ls →
    option_and_then (kinds_of (exprs all)) (checked (put (at_place all) c) p) ≡ checked c o
above-kinds all c o p ks ls e t f k =
    ap (option_and_then (kinds_of (exprs all))) (checked-truth (put (at_place all) c) p ks f (put_places-kind all ks ls k c kind.Bool t))
    ∙ k ∙ sym (checked-truth c o ls e t)

pub wide-rows : (ks : Kinds) (n : ℕ) (rows : List Row) → length ks ≡ n → HaveKinds ks rows → AreOfWidth n rows
wide-rows ks n rows w h = recursion_weaken (HasKinds ks) (λ row. length row ≡ n) rows (λ row k. sym (wide ks row k) ∙ w) h
