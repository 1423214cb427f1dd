-- Which columns of a plan are never NULL: those of which their tables or its conditions say so.
use Rattle.std.specs.Prelude.{ℕ, Bool, true, false, ◌++◌, List, [], map, fold, slice_set, if◌then◌else◌}
use Rattle.std.specs.List.{list_all}
use Rattle.vkg_schema.specs.Kinds.{columns_of}
use Rattle.vkg_expr.specs.Expr.{Expr, IsNull, Not}
use Rattle.vkg_expr.specs.Logic.{conjuncts}
use Rattle.vkg_expr.specs.Strict.{columns, nulls_on_null}
use Rattle.vkg_plan.specs.Kinds.{Tables}
use Rattle.vkg_plan.specs.Plan.{Plan, Plans, Scan, Select, Join, Nil, More}
use Rattle.vkg_rules.specs.Measure.{kinds_or_none}
use Rattle.vkg_equalities.specs.TableColumns.{flag_at}

-- a flag for each column, and none set
abbrev pub unset : {A : Type 0} → List A → List Bool
unset xs = map (λ x. false) xs

-- the flags of these columns set, where there are such
abbrev pub with_flag : List Bool → ℕ → List Bool
with_flag flags at = slice_set flags at true

abbrev pub with_flags : List Bool → List ℕ → List Bool
with_flags flags columns = fold with_flag flags columns

-- SQL-92, 8.6: what says that a strict expression is not NULL says it of each of its columns
abbrev pub with_tested : List Bool → Expr → List Bool
with_tested flags (IsNull e) = if nulls_on_null e then with_flags flags (columns e) else flags
with_tested flags e = flags

abbrev pub with_conjunct : List Bool → Expr → List Bool
with_conjunct flags (Not e) = with_tested flags e
with_conjunct flags c = flags

abbrev pub with_condition : List Bool → Expr → List Bool
with_condition flags c = fold with_conjunct flags (conjuncts c)

-- SQL-92, 11.7: of each column of a plan whether it is a NOT NULL column of a table that is scanned below selections and joins
-- alone, or a condition of these says that it is not NULL
abbrev mutual
  pub sure_columns : Tables → Plan → List Bool
  sure_columns schema (Scan table) = map (λ c. c.not_null) (columns_of schema table)
  sure_columns schema (Select c p) = with_condition (sure_columns schema p) c
  sure_columns schema (Join ps c) = with_condition (sure_beside schema ps) c
  sure_columns schema p = unset (kinds_or_none schema p)

  -- of several after each other
  pub sure_beside : Tables → Plans → List Bool
  sure_beside schema Nil = []
  sure_beside schema (More p ps) = sure_columns schema p ++ sure_beside schema ps

-- each column that the expression names is such
abbrev pub is_sure : List Bool → Expr → Bool
is_sure flags e = list_all (flag_at flags) (columns e)
