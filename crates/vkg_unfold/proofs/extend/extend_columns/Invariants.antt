use Rattle.std.proofs.Common.{◌≡◌, map, take}
use Rattle.vkg_sparql.specs.Seen.{condition_seen}
use Rattle.vkg_expr.specs.Seen.{expr_seen}
use Rattle.vkg_unfolded.specs.Unfolded.{extend_column}
use Rattle.vkg_unfold.proofs.extend.extend_columns.Given as goal

abbrev pub invariant-loop-wanted : goal.invariant-loop-wanted
invariant-loop-wanted l = map expr_seen l.columns ≡ map (extend_column l.inner l.variable (condition_seen l.condition)) (take l.wanted-index l.all)
