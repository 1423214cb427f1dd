-- The kinds of the columns of a plan that is well typed, as its nodes give them: no condition is looked at, and of a union its first member alone.
use Rattle.std.specs.Prelude.{[], ◌++◌, Option, unwrap_or}
use Rattle.vkg_expr.specs.Expr.{exprs}
use Rattle.vkg_expr.specs.Typing.{kinds_of}
use Rattle.vkg_schema.specs.Kinds.{table_kinds}
use Rattle.vkg_plan.specs.Kinds.{Kinds, Tables}
use Rattle.vkg_plan.specs.Plan.{Plan, Plans, Unit, Empty, Scan, Select, Project, Join, Left, AntiJoin, UnionAll, Distinct, Nil, More}

abbrev pub or_no_kinds : Option Kinds → Kinds
or_no_kinds o = unwrap_or o []

abbrev mutual
  pub given_kinds : Tables → Plan → Kinds
  given_kinds schema Unit = []
  given_kinds schema (Empty ks) = ks
  given_kinds schema (Scan table) = or_no_kinds (table_kinds schema table)
  given_kinds schema (Select c p) = given_kinds schema p
  given_kinds schema (Project es p) = or_no_kinds (kinds_of (exprs es) (given_kinds schema p))
  given_kinds schema (Join ps c) = given_beside schema ps
  given_kinds schema (Left p q c) = given_kinds schema p ++ given_kinds schema q
  given_kinds schema (AntiJoin p q c) = given_kinds schema p
  given_kinds schema (UnionAll Nil) = []
  given_kinds schema (UnionAll (More p ps)) = given_kinds schema p
  given_kinds schema (Distinct p) = given_kinds schema p

  -- of several after each other
  pub given_beside : Tables → Plans → Kinds
  given_beside schema Nil = []
  given_beside schema (More p ps) = given_kinds schema p ++ given_beside schema ps
