-- When a plan stands for an algebra.
use Rattle.std.specs.Prelude.{◌≡◌, ℕ, Bool, true, false, List, map, filter, length, Contains, Option, Some, None}
use Rattle.std.specs.List.{range_with_len}
use Rattle.std.specs.Option.{option_map_or}
use Rattle.vkg_terms.specs.declared.term.Term.{Term}
use Rattle.vkg_terms.specs.declared.term.Term.TheVariants.{Iri}
use Rattle.vkg_terms.specs.Same.{term_eq}
use Rattle.vkg_schema.specs.Rows.{Database, Row}
use Rattle.vkg_cells.specs.declared.cell.Cell.TheVariants as cell
use Rattle.vkg_algebra.specs.Algebra.{Algebra}
use Rattle.vkg_algebra.specs.Solutions.{Solution}
use Rattle.vkg_algebra.specs.Evaluation.{Dataset, evaluate, graph_names}
use Rattle.vkg_algebra.specs.Visible.{visible}
use Rattle.vkg_expr.specs.Value.{value_of, term_of}
use Rattle.vkg_expr.specs.Expr.{Expr, Col}
use Rattle.vkg_plan.specs.Kinds.{Tables}
use Rattle.vkg_plan.specs.Plan.{Plan}
use Rattle.vkg_plan.specs.Rows.{rows_of}
use Rattle.vkg_row_rules.specs.declared.row_rule.RowRule.{RowRule}
use Rattle.vkg_row_rules.specs.RowDataset.{dataset_of}
use Rattle.std.specs.List.Sorted.{IsPermutation}
use Rattle.vkg_unfolded.specs.declared.mode.Mode.{Mode}
use Rattle.vkg_unfolded.specs.declared.mode.Mode.TheVariants.{Default, InGraph, Each}
use Rattle.vkg_unfolded.specs.Unfolded.{visible_column}

-- a row over these variables as a solution of n variables: each variable's column, unbound where it is NULL or not visible
abbrev pub term_in : (ℕ → Expr) → Row → ℕ → Option Term
term_in at row v = term_of (value_of (at v) row)

abbrev pub solution_of : ℕ → List ℕ → Row → Solution
solution_of n vs row = map (term_in (visible_column vs) row) (range_with_len 0 n)

abbrev pub solutions_of : ℕ → List ℕ → List Row → List Solution
solutions_of n vs rows = map (solution_of n vs) rows

-- whether the hidden value of a row, in the column after the variables, is this term
abbrev pub hidden_is : ℕ → Term → Row → Bool
hidden_is at i row = option_map_or (term_eq i) (term_of (value_of (Col at) row)) false

-- the graphs in which the rows of a mode are read, and the rows that belong to one
abbrev pub IsIn : Dataset → Mode → Option Term → Type 0
IsIn d Default g = g ≡ None
IsIn d (InGraph i) g = g ≡ Some (Iri i)
IsIn d Each g = (i : Term) × (g ≡ Some i) × Contains (graph_names d) i

abbrev pub belongs : Mode → ℕ → Option Term → Row → Bool
belongs Each at (Some i) row = hidden_is at i row
belongs mode at g row = true

abbrev pub HasGraph : Dataset → Mode → ℕ → Row → Type 0
HasGraph d Each at row = (i : Term) × Contains (graph_names d) i × (value_of (Col at) row ≡ cell.Term i)
HasGraph d mode at row = Unit {0}

-- over one dataset of n variables and labels: in each graph of the mode the rows that belong to it are the solutions there, and each row belongs to one
abbrev pub StandsOver : ℕ → Dataset → List Row → Mode → Algebra → Type 0
StandsOver n d rows mode a =
    ((g : Option Term) → IsIn d mode g → IsPermutation (solutions_of n (visible a) (filter (belongs mode (length (visible a)) g) rows)) (evaluate n d a g))
    × ((row : Row) → Contains rows row → HasGraph d mode (length (visible a)) row)

-- over every database that meets what is asked of it
abbrev pub StandsFor : (Database → Type 0) → Tables → List RowRule → ℕ → Mode → Plan → Algebra → Type 0
StandsFor Meets schema rules n mode plan a =
    (db : Database) → Meets db → StandsOver n (dataset_of schema rules db) (rows_of schema plan db) mode a
