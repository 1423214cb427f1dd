-- Scans among the members of a join, and the columns of the members when one of them is gone.
use Rattle.std.specs.Prelude.{ℕ, ◌+◌, List, [], ◌∷◌, ◌++◌, Option, None}
use Rattle.std.specs.Option.{option_or}
use Rattle.vkg_columns.specs.Columns.{columns_from}
use Rattle.vkg_expr.specs.Expr.{Expr}
use Rattle.vkg_plan.specs.Kinds.{Tables, width}
use Rattle.vkg_plan.specs.Plan.{Plan, Scan}

-- the number of columns of all of them
abbrev pub widths : Tables → List Plan → ℕ
widths schema [] = 0
widths schema (p ∷ ps) = width schema p + widths schema ps

-- a Scan, with the members before it and those behind it
pub record Place : Type 0 where
  pub before : List Plan
  pub table : ℕ
  pub after : List Plan

-- the other members
abbrev pub others : Place → List Plan
others x = x.before ++ x.after

-- the member between these, if it is a Scan
abbrev pub scan_between : List Plan → Plan → List Plan → List Place
scan_between before (Scan table) after = record { before = before; table = table; after = after } ∷ []
scan_between before p after = []

-- the Scans among some members, where others stand before all of these
abbrev pub scans : List Plan → List Plan → List Place
scans before [] = []
scans before (p ∷ ps) = scan_between before p ps ++ scans (before ++ p ∷ []) ps

-- what is made of the first element of which something is
abbrev pub first_made : {A B : Type 0} → (A → Option B) → List A → Option B
first_made make [] = None
first_made make (x ∷ xs) = option_or (make x) (first_made make xs)

-- so of two Scans among members: in the order of the one, then of the other
abbrev pub first_two : {B : Type 0} → (Place → Place → Option B) → List Plan → Option B
first_two make ps = first_made (λ x. first_made (make x) (scans [] ps)) (scans [] ps)

-- the columns of members of which one is gone that stood behind n columns and before k: others are in the place of its own
abbrev pub renamed : ℕ → List Expr → ℕ → List Expr
renamed n own k = columns_from 0 n ++ (own ++ columns_from n k)
