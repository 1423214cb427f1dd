-- What is left decides.
use Rattle.std.proofs.Common.{◌≡◌, drop, map}
use Rattle.vkg_expr.specs.Seen.{expr_seen}
use Rattle.vkg_sure.specs.KnownMember.{told_by}
use Rattle.vkg_sure.proofs.told_members.told_by.Given as goal

abbrev pub invariant-loop-e : goal.invariant-loop-e
invariant-loop-e l = told_by (map expr_seen l.all) (map expr_seen l.some) ≡ told_by (map expr_seen l.all) (map expr_seen (drop l.e-index l.some))
