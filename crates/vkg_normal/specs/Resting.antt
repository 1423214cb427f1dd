-- Nodes over a left join of which their first levels tell that no rule comes to apply to them by steps on its left.
use Rattle.std.specs.Prelude.{Bool, true, false, not, ◌&&◌}
use Rattle.std.specs.List.{list_any}
use Rattle.vkg_expr.specs.Logic.{conjuncts}
use Rattle.vkg_plan.specs.Plan.{Plan, Project, Left}
use Rattle.vkg_equalities.specs.Decided.{asks_terms}

-- the plan is a left join
abbrev pub is_left : Plan → Bool
is_left (Left p q c) = true
is_left p = false

-- a left join with one on its left, and a condition of which no conjunct asks two terms that are made to be the same: such a one is decided
-- where its columns become columns of a table; or a Project over a left join
abbrev pub may_rest : Plan → Bool
may_rest (Left p q c) = is_left p && not (list_any asks_terms (conjuncts c))
may_rest (Project es p) = is_left p
may_rest p = false
