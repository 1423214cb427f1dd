-- Conjuncts of a condition that tie columns.
use Rattle.std.specs.Prelude.{ℕ, ◌+◌, Bool, false, ◌&&◌, ◌||◌, List, nat_eq}
use Rattle.std.specs.List.{list_all, list_any}
use Rattle.vkg_expr.specs.Expr.{Expr, Col, Same}
use Rattle.vkg_expr.specs.Logic.{conjuncts}

abbrev pub is_column : ℕ → Expr → Bool
is_column at (Col n) = nat_eq at n
is_column at e = false

-- SQL-92, 8.2: it says that the two columns are equal, either way round
abbrev pub ties : ℕ → ℕ → Expr → Bool
ties m n (Same a b) = (is_column m a && is_column n b) || (is_column n a && is_column m b)
ties m n c = false

abbrev pub are_tied : Expr → ℕ → ℕ → Bool
are_tied c m n = list_any (ties m n) (conjuncts c)

-- each pair of columns, the one counted from i on and the other from j on
abbrev pub all_tied : Expr → ℕ → ℕ → List (ℕ × ℕ) → Bool
all_tied c i j pairs = list_all (λ p. are_tied c (i + p.0) (j + p.1)) pairs

-- it says that the column is equal to an expression that passes
abbrev pub ties_value : (Expr → Bool) → ℕ → Expr → Bool
ties_value p at (Same a b) = (is_column at a && p b) || (is_column at b && p a)
ties_value p at c = false

-- so for each of these columns, counted from j on
abbrev pub all_valued : (Expr → Bool) → Expr → ℕ → List ℕ → Bool
all_valued p c j columns = list_all (λ k. list_any (ties_value p (j + k)) (conjuncts c)) columns
