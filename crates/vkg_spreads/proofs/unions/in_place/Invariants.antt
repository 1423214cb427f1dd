-- The members until here stay.
use Rattle.vkg_plan.specs.Seen.{plan_seen}
use Rattle.vkg_spreads.proofs.Placing.{Staying}
use Rattle.vkg_spreads.proofs.unions.in_place.Given as goal

abbrev pub invariant-loop-i : goal.invariant-loop-i
invariant-loop-i l = Staying (plan_seen l.x) l.ps l.i
