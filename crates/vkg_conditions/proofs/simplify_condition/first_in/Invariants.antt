-- No case until here applies.
use Rattle.std.proofs.Common.{◌≡◌, drop}
use Rattle.vkg_conditions.specs.Cases.{case_in}
use Rattle.vkg_expr.specs.Seen.{expr_seen}
use Rattle.vkg_conditions.proofs.simplify_condition.first_in.Given as goal

abbrev pub invariant-loop-case : goal.invariant-loop-case
invariant-loop-case l = case_in l.cases (expr_seen l.c) ≡ case_in (drop l.case-index l.cases) (expr_seen l.c)
