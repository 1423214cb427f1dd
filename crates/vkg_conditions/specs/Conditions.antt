-- One step that makes a condition simpler, at its root.
use Rattle.std.specs.Prelude.{Bool, true, false, not, List, [], ◌∷◌, ◌++◌, Option, Some, None, option_map, if◌then◌else◌}
use Rattle.std.specs.List.{list_any}
use Rattle.vkg_cells.specs.declared.cell.Cell.TheVariants as cell
use Rattle.vkg_expr.specs.Expr.{Expr, Const, Not, And, Or, each}
use Rattle.vkg_expr.specs.Logic.{truth_const, and_of, or_of}
use Rattle.vkg_same.specs.SameExpr.{same_expr}

-- the constant of a truth
abbrev pub is_truth : Bool → Expr → Bool
is_truth true (Const (cell.Bool p) k) = p
is_truth false (Const (cell.Bool p) k) = not p
is_truth b e = false

-- the list without the first member that passes, if one does
abbrev pub without_first : (Expr → Bool) → List Expr → Option (List Expr)
without_first test [] = None
without_first test (e ∷ es) = if test e then Some es else option_map (λ fs. e ∷ fs) (without_first test es)

-- the list without the first member that is one of those before it
abbrev pub without_repeat : List Expr → List Expr → Option (List Expr)
without_repeat before [] = None
without_repeat before (e ∷ es) = if list_any (same_expr e) before then Some es else option_map (λ fs. e ∷ fs) (without_repeat (e ∷ before) es)

-- an And, an Or, and the members of one
abbrev pub is_and : Expr → Bool
is_and (And es) = true
is_and e = false

abbrev pub is_or : Expr → Bool
is_or (Or es) = true
is_or e = false

abbrev pub members : Expr → List Expr
members (And es) = each es
members (Or es) = each es
members e = []

-- the list with the members of the first that is nested in its place
abbrev pub spread : (Expr → Bool) → List Expr → Option (List Expr)
spread nested [] = None
spread nested (e ∷ es) = if nested e then Some (members e ++ es) else option_map (λ fs. e ∷ fs) (spread nested es)

-- the expression where something holds
abbrev pub if_so : Bool → Expr → Option Expr
if_so b e = if b then Some e else None

-- SQL-92, 8.12: false decides an And, true an Or
abbrev pub deciding : Expr → Option Expr
deciding (And es) = if_so (list_any (is_truth false) (each es)) (truth_const false)
deciding (Or es) = if_so (list_any (is_truth true) (each es)) (truth_const true)
deciding e = None

-- SQL-92, 8.12: true adds nothing to an And, false nothing to an Or
abbrev pub neutral : Expr → Option Expr
neutral (And es) = option_map and_of (without_first (is_truth true) (each es))
neutral (Or es) = option_map or_of (without_first (is_truth false) (each es))
neutral e = None

-- SQL-92, 8.12: the negation of a constant
abbrev pub negated : Expr → Option Expr
negated (Not (Const (cell.Bool p) k)) = Some (truth_const (not p))
negated (Not (Const cell.Null k)) = Some (Const cell.Null k)
negated e = None

-- an And or Or of none, of one, or with another of its sort in it
abbrev pub flattened : (List Expr → Expr) → (Expr → Bool) → List Expr → Option Expr
flattened of nested [] = Some (of [])
flattened of nested (e ∷ []) = Some (of (e ∷ []))
flattened of nested (e ∷ f ∷ es) = option_map of (spread nested (e ∷ f ∷ es))

abbrev pub flat : Expr → Option Expr
flat (And es) = flattened and_of is_and (each es)
flat (Or es) = flattened or_of is_or (each es)
flat e = None

-- SQL-92, 8.12: the negation of a negation
abbrev pub twice_negated : Expr → Option Expr
twice_negated (Not (Not e)) = Some e
twice_negated e = None

-- a member that is there before
abbrev pub repeated : Expr → Option Expr
repeated (And es) = option_map and_of (without_repeat [] (each es))
repeated (Or es) = option_map or_of (without_repeat [] (each es))
repeated e = None
