-- Of no other plan a key of each table is given.
use Rattle.std.proofs.Common.{◌≡◌, ◌∙◌, Bool, true, false, ◌&&◌, List, drop, refl, ap}
use Rattle.std.proofs.Math.Bool.{and-false}
use Rattle.vkg_expr.specs.Expr.{Expr}
use Rattle.vkg_plan.specs.Kinds.{Tables, width}
use Rattle.vkg_plan.specs.Plan.{Plan, Plans, Unit, Empty, Scan, Select, Project, Join, Left, AntiJoin, UnionAll, Distinct, Nil, More}
use Rattle.vkg_unique.specs.Recovered.{are_keys_given, are_keys_given_in, is_recovered, recovered}
use Rattle.vkg_unique.specs.Scans.{has_scans_alone, have_scans_alone}

module _ (s : Tables) where
  mutual
    no_keys : (p : Plan) (flags : List Bool) → has_scans_alone p ≡ false → are_keys_given s flags p ≡ false
    no_keys Unit flags h = refl
    no_keys (Empty ks) flags h = refl
    no_keys (Scan table) flags h = cc
    no_keys (Select c p) flags h = no_keys p flags h
    no_keys (Project es p) flags h = refl
    no_keys (Join ps c) flags h = no_keys_in ps flags h
    no_keys (Left p q c) flags h = refl
    no_keys (AntiJoin p q c) flags h = refl
    no_keys (UnionAll ps) flags h = refl
    no_keys (Distinct p) flags h = refl

    no_keys_in : (ps : Plans) (flags : List Bool) → have_scans_alone ps ≡ false → are_keys_given_in s flags ps ≡ false
    no_keys_in Nil flags h = cc
    no_keys_in (More p ps) flags h =
        elim (has_scans_alone p) as (λ b. has_scans_alone p ≡ b → (b && have_scans_alone ps) ≡ false → (are_keys_given s flags p && are_keys_given_in s (drop (width s p) flags) ps) ≡ false) [
          | true ↦ λ b e. ap (λ c. are_keys_given s flags p && c) (no_keys_in ps (drop (width s p) flags) e) ∙ and-false (are_keys_given s flags p)
          | false ↦ λ b e. ap (λ c. c && are_keys_given_in s (drop (width s p) flags) ps) (no_keys p flags b)
        ] refl h

pub no_scans : (s : Tables) (es : List Expr) (p : Plan) → has_scans_alone p ≡ false → is_recovered s es p ≡ false
no_scans s es p h = no_keys s p (recovered s es p) h
