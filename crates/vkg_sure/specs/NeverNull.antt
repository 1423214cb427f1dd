-- Which columns of a plan are NULL in none of its rows, through each of its nodes.
use Rattle.std.specs.Prelude.{Bool, true, false, ◌&&◌, ◌++◌, List, [], ◌∷◌, map, fold}
use Rattle.vkg_schema.specs.Kinds.{columns_of}
use Rattle.vkg_expr.specs.Expr.{Expr, Same, IsNull}
use Rattle.vkg_expr.specs.Logic.{conjuncts}
use Rattle.vkg_expr.specs.Strict.{is_strict}
use Rattle.vkg_plan.specs.Kinds.{Tables}
use Rattle.vkg_plan.specs.Plan.{Plan, Plans, Unit, Empty, Scan, Select, Project, Join, Left, AntiJoin, UnionAll, Distinct, Nil, More}
use Rattle.vkg_equalities.specs.TableColumns.{flags_beside}
use Rattle.vkg_unique.specs.Sure.{is_sure, unset, with_conjunct, with_tested}

-- SQL-92, 8.2: an equality is true of known values alone, so it says of each of its sides that it is not NULL
abbrev pub with_told : List Bool → Expr → List Bool
with_told flags (Same a b) = with_tested (with_tested flags (IsNull a)) (IsNull b)
with_told flags c = with_conjunct flags c

abbrev pub with_all_told : List Bool → Expr → List Bool
with_all_told flags c = fold with_told flags (conjuncts c)

-- a strict expression over such columns
abbrev pub is_known : List Bool → Expr → Bool
is_known flags e = is_strict e && is_sure flags e

-- those flags of the first list that are set in the other too
abbrev pub both : List Bool → List Bool → List Bool
both [] gs = []
both (f ∷ fs) [] = false ∷ both fs []
both (f ∷ fs) (g ∷ gs) = (f && g) ∷ both fs gs

-- those of the first list that are set in each
abbrev pub common : List (List Bool) → List Bool
common [] = []
common (fs ∷ fss) = fold both fs fss

-- of each column of a plan whether no row has NULL in it, as far as this is seen: a NOT NULL column of a table (SQL-92, 11.7), one of
-- which a condition says so, one of the left side of a left join or an anti join, a strict expression over such columns, one of each member of a union
abbrev mutual
  pub never_null : Tables → Plan → List Bool
  never_null schema Unit = []
  never_null schema (Empty ks) = map (λ k. true) ks
  never_null schema (Scan table) = map (λ c. c.not_null) (columns_of schema table)
  never_null schema (Select c p) = with_all_told (never_null schema p) c
  never_null schema (Project es p) = map (is_known (never_null schema p)) es
  never_null schema (Join ps c) = with_all_told (flags_beside (never_null_each schema ps)) c
  never_null schema (Left p q c) = never_null schema p ++ unset (never_null schema q)
  never_null schema (AntiJoin p q c) = never_null schema p
  never_null schema (UnionAll ps) = common (never_null_each schema ps)
  never_null schema (Distinct p) = never_null schema p

  -- of each of several plans
  pub never_null_each : Tables → Plans → List (List Bool)
  never_null_each schema Nil = []
  never_null_each schema (More p ps) = never_null schema p ∷ never_null_each schema ps

-- of the columns over which a plan's own expressions are
abbrev pub own_never_null : Tables → Plan → List Bool
own_never_null schema (Select c p) = never_null schema p
own_never_null schema (Project es p) = never_null schema p
own_never_null schema (Join ps c) = flags_beside (never_null_each schema ps)
own_never_null schema (Left p q c) = never_null schema p ++ never_null schema q
own_never_null schema (AntiJoin p q c) = never_null schema p ++ never_null schema q
own_never_null schema p = []
