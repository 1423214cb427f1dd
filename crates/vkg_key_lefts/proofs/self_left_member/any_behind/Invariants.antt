-- What is left decides.
use Rattle.std.proofs.Common.{◌≡◌, drop, nat_le}
use Rattle.std.specs.List.{list_any}
use Rattle.vkg_key_lefts.proofs.self_left_member.any_behind.Given as goal

abbrev pub invariant-loop-column : goal.invariant-loop-column
invariant-loop-column l = list_any (nat_le l.n) l.columns ≡ list_any (nat_le l.n) (drop l.column-index l.columns)
