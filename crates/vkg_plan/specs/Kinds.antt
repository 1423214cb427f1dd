-- The kinds of a plan's columns over a schema; none where it is ill typed.
use Rattle.std.specs.Prelude.{ℕ, Bool, false, List, [], ◌∷◌, length, Option, Some, None, option_and_then, is_some, if◌then◌else◌}
use Rattle.std.specs.List.{flat_map, list_all}
use Rattle.std.specs.Cmp.Lexicographic.{pointwise}
use Rattle.std.specs.Option.{option_map_or}
use Rattle.vkg_lists.specs.Options.{with_first, joined}
use Rattle.vkg_cells.specs.declared.cell.SqlType.{SqlType}
use Rattle.vkg_cells.specs.declared.cell.SqlType.TheVariants as kind
use Rattle.vkg_schema.specs.Kinds.{table_kinds}
use Rattle.vkg_schema.specs.declared.table.Table.{Table}
use Rattle.vkg_expr.specs.Expr.{Expr, exprs}
use Rattle.vkg_expr.specs.Typing.{is_one, kind_of, kinds_of, same_kind}
use Rattle.vkg_plan.specs.Plan.{Plan, Plans, Unit, Empty, Scan, Select, Project, Join, Left, AntiJoin, UnionAll, Distinct, Nil, More}

-- the tables of a schema
abbrev pub Tables : Type 0
Tables = List Table

abbrev pub Kinds : Type 0
Kinds = List SqlType

-- the kinds, where the condition over them is a truth
abbrev pub checked : Expr → Option Kinds → Option Kinds
checked c None = None
checked c (Some ks) = if is_one kind.Bool (kind_of c ks) then Some ks else None

-- one after another
abbrev pub side_by_side : List Kinds → Kinds
side_by_side kss = flat_map (λ ks. ks) kss

-- the kinds of one or more after each other
abbrev pub beside_all : Option (List Kinds) → Option Kinds
beside_all (Some (ks ∷ kss)) = Some (side_by_side (ks ∷ kss))
beside_all kss = None

abbrev pub is_alike : Kinds → Option Kinds → Bool
is_alike ks None = false
is_alike ks (Some ls) = pointwise same_kind ks ls

abbrev pub are_alike : Kinds → Option (List Kinds) → Bool
are_alike ks None = false
are_alike ks (Some kss) = list_all (pointwise same_kind ks) kss

-- the kinds that one or more members have alike
abbrev pub alike : Option (List Kinds) → Option Kinds
alike (Some (ks ∷ kss)) = if list_all (pointwise same_kind ks) kss then Some ks else None
alike kss = None

-- the first kinds, where the condition over both is a truth
abbrev pub first_checked : Expr → Option Kinds → Option Kinds → Option Kinds
first_checked c a b = option_and_then (λ ks. a) (checked c (joined a b))

abbrev mutual
  pub plan_kinds : Tables → Plan → Option Kinds
  plan_kinds schema Unit = Some []
  plan_kinds schema (Empty ks) = Some ks
  plan_kinds schema (Scan table) = table_kinds schema table
  plan_kinds schema (Select c p) = checked c (plan_kinds schema p)
  plan_kinds schema (Project es p) = option_and_then (kinds_of (exprs es)) (plan_kinds schema p)
  plan_kinds schema (Join ps c) = checked c (beside_all (kinds_of_each schema ps))
  plan_kinds schema (Left p q c) = checked c (joined (plan_kinds schema p) (plan_kinds schema q))
  plan_kinds schema (AntiJoin p q c) = first_checked c (plan_kinds schema p) (plan_kinds schema q)
  plan_kinds schema (UnionAll ps) = alike (kinds_of_each schema ps)
  plan_kinds schema (Distinct p) = plan_kinds schema p

  pub kinds_of_each : Tables → Plans → Option (List Kinds)
  kinds_of_each schema Nil = Some []
  kinds_of_each schema (More p ps) = with_first (plan_kinds schema p) (kinds_of_each schema ps)

abbrev pub is_well_typed : Tables → Plan → Bool
is_well_typed schema p = is_some (plan_kinds schema p)

-- the number of a plan's columns
abbrev pub width : Tables → Plan → ℕ
width schema p = option_map_or length (plan_kinds schema p) 0
