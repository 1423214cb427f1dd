-- What a join without one of its Scans keeps: kinds, where those in the place of its columns have theirs; and its weight is a quarter.
use Rattle.std.proofs.Common.{◌≡◌, ◌∙◌, ℕ, ◌+◌, ◌*◌, ◌<◌, List, [], ◌∷◌, ◌++◌, length, map, Option, Some, None, refl, sym, ap, subst, arith}
use Rattle.std.specs.Prelude.{slice_get, if◌then◌else◌}
use Rattle.std.specs.Option.{option_map_or}
use Rattle.std.proofs.lemmas.List.{length-map}
use Rattle.vkg_lists.proofs.Onto.{map_given}
use Rattle.vkg_cells.specs.declared.cell.SqlType.TheVariants as kind
use Rattle.vkg_columns.proofs.Conjuncts.{IsTruth}
use Rattle.vkg_columns.specs.Columns.{KeepsKind, at_place}
use Rattle.vkg_expr.specs.Expr.{Expr}
use Rattle.vkg_expr.specs.Typing.{is_one}
use Rattle.vkg_schema.specs.declared.table.Column.{Column}
use Rattle.vkg_schema.specs.declared.table.Table.{Table}
use Rattle.vkg_plan.proofs.RowsFit.{checked_parts}
use Rattle.vkg_plan.specs.Kinds.{Kinds, Tables, beside_all, checked, kinds_of_each, plan_kinds, width}
use Rattle.vkg_plan.specs.Plan.{Plan, Plans, Scan, Join, Nil, More, each, plans}
use Rattle.vkg_rules.specs.Measure.{weight, weights_product}
use Rattle.vkg_rules.specs.Steps.{IsTyped}
use Rattle.vkg_keys.specs.Members.{renamed, widths}
use Rattle.vkg_keys.proofs.Places.{AroundKinds, around-kinds, beside-sides, both-kinds, sides, sides-of, sides-wide}
use Rattle.vkg_keys.proofs.RenamedColumns.{renamed-kind}

pub plans-each : (ps : Plans) → plans (each ps) ≡ ps
plans-each Nil = refl
plans-each (More p ps) = ap (More p) (plans-each ps)

-- ---- weights

times_four : (a b : ℕ) → a * (4 * b) ≡ 4 * (a * b)
times_four a b = omega arith

pub without-weight : (l : List Plan) (table : ℕ) (a : List Plan) → weights_product (plans (l ++ (Scan table ∷ a))) ≡ 4 * weights_product (plans (l ++ a))
without-weight [] table a = refl
without-weight (p ∷ l) table a = ap (λ n. weight p * n) (without-weight l table a) ∙ times_four (weight p) (weights_product (plans (l ++ a)))

-- ---- kinds

pub checked-truth : (c : Expr) (o : Option Kinds) (ks : Kinds) → o ≡ Some ks → IsTruth ks c → checked c o ≡ Some ks
checked-truth c o ks e t = ap (checked c) e ∙ ap (λ m. if is_one kind.Bool m then Some ks else None) t

-- a table that has kinds is there, and it has as many columns
pub record ScanKinds (s : Tables) (table : ℕ) (ks : Kinds) : Type 0 where
  pub found : Table
  pub is_found : slice_get s table ≡ Some found
  pub of_columns : map (λ c. c.kind) found.columns ≡ ks
  pub as_wide : length found.columns ≡ width s (Scan table)
  pub as_long : length ks ≡ width s (Scan table)

pub scan-kinds : (s : Tables) (table : ℕ) (ks : Kinds) → plan_kinds s (Scan table) ≡ Some ks → ScanKinds s table ks
scan-kinds s table ks e =
    let m = map_given (λ (t : Table). map (λ (c : Column). c.kind) t.columns) (slice_get s table) ks e in
    let long : length ks ≡ width s (Scan table) = ap (λ o. option_map_or length o 0) (sym e) in
    record { found = m.0; is_found = m.1; of_columns = m.2; as_wide = sym (length-map m.0.columns (λ (c : Column). c.kind)) ∙ ap length m.2 ∙ long; as_long = long }

-- the kinds of a join, and those about one of its members
pub record JoinKinds (s : Tables) (l : List Plan) (p : Plan) (a : List Plan) (c : Expr) : Type 0 where
  pub all : Kinds
  pub of_all : plan_kinds s (Join (plans (l ++ (p ∷ a))) c) ≡ Some all
  pub of_members : sides s (l ++ (p ∷ a)) ≡ Some all
  pub truth : IsTruth all c
  pub around : AroundKinds s l p a all

pub join-kinds : (s : Tables) (l : List Plan) (p : Plan) (a : List Plan) (c : Expr) → IsTyped s (Join (plans (l ++ (p ∷ a))) c) → JoinKinds s l p a c
join-kinds s l p a c t =
    let k = checked_parts c (beside_all (kinds_of_each s (plans (l ++ (p ∷ a))))) t in
    let m = sides-of (kinds_of_each s (plans (l ++ (p ∷ a)))) k.0 k.1 in
    record {
      all = k.0;
      of_all = checked-truth c (beside_all (kinds_of_each s (plans (l ++ (p ∷ a))))) k.0 k.1 k.2;
      of_members = m;
      truth = k.2;
      around = around-kinds s l p a k.0 m;
    }

-- the kinds of the others, of which there is one
pub others-kinds : (s : Tables) (l a b : List Plan) (p : Plan) (d : List Plan) (ks ls : Kinds) → sides s l ≡ Some ks → sides s a ≡ Some ls → l ++ a ≡ b ++ (p ∷ d) → beside_all (kinds_of_each s (plans (l ++ a))) ≡ Some (ks ++ ls)
others-kinds s l a b p d ks ls e f is =
    ap (λ ps. beside_all (kinds_of_each s (plans ps))) is ∙ beside-sides s b p d ∙ ap (sides s) (sym is) ∙ both-kinds s l a ks ls e f

-- the columns of all over those of the others
pub renamed-keeps : (s : Tables) (l : List Plan) (p : Plan) (a : List Plan) (ks : Kinds) (k : AroundKinds s l p a ks) (own : List Expr) → length own ≡ length k.own →
    (at : ℕ) → at < length ks → ((y : ℕ) → y < length k.own → at ≡ widths s l + y → KeepsKind (at_place own) k.own (k.first ++ k.last) y) →
    KeepsKind (at_place (renamed (widths s l) own (widths s a))) ks (k.first ++ k.last) at
renamed-keeps s l p a ks k own long at below given =
    subst (λ m. at < length m → KeepsKind (at_place (renamed (widths s l) own (widths s a))) m (k.first ++ k.last) at) k.together
    (λ b. renamed-kind k.first k.own k.last (widths s l) (widths s a) own (sides-wide s l k.first k.of_first) (sides-wide s a k.last k.of_last) long at b given)
    below
