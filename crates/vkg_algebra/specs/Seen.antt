-- What the program's type stands for.
use Rattle.std.specs.Prelude.{Option, option_map}
use Rattle.vkg_sparql.specs.declared.condition.Condition.{Condition as ConditionValue}
use Rattle.vkg_sparql.specs.Query.{Condition}
use Rattle.vkg_sparql.specs.Seen.{condition_seen}
use Rattle.vkg_algebra.specs.declared.algebra.Algebra.{Algebra as AlgebraValue}
use Rattle.vkg_algebra.specs.declared.algebra.Algebra.TheOpen.{Algebra-F}
use Rattle.vkg_algebra.specs.declared.algebra.Algebra.TheFolds.{fold-Algebra}
use Rattle.vkg_algebra.specs.Algebra.{Algebra, Bgp, Join, LeftJoin, Union, Filter, Graph, Minus, Table, Extend}

-- a condition that may be left out
abbrev pub condition_seen_if_any : Option ConditionValue → Option Condition
condition_seen_if_any c = option_map condition_seen c

abbrev pub algebra_step : Algebra-F Algebra → Algebra
algebra_step (Algebra-F.Bgp ps) = Bgp ps
algebra_step (Algebra-F.Join a b) = Join a b
algebra_step (Algebra-F.LeftJoin a b c) = LeftJoin a b (condition_seen_if_any c)
algebra_step (Algebra-F.Union a b) = Union a b
algebra_step (Algebra-F.Filter c a) = Filter (condition_seen c) a
algebra_step (Algebra-F.Graph name a) = Graph name a
algebra_step (Algebra-F.Minus a b) = Minus a b
algebra_step (Algebra-F.Table vs rows) = Table vs rows
algebra_step (Algebra-F.Extend a v c) = Extend a v (condition_seen c)

abbrev pub algebra_seen : AlgebraValue → Algebra
algebra_seen = fold-Algebra Algebra algebra_step
