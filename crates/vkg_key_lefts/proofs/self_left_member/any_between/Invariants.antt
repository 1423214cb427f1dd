-- What is left decides.
use Rattle.std.proofs.Common.{◌≡◌, drop}
use Rattle.std.specs.List.{list_any}
use Rattle.vkg_key_lefts.specs.SelfLeftMember.{is_between}
use Rattle.vkg_key_lefts.proofs.self_left_member.any_between.Given as goal

abbrev pub invariant-loop-column : goal.invariant-loop-column
invariant-loop-column l = list_any (is_between l.m l.own) l.columns ≡ list_any (is_between l.m l.own) (drop l.column-index l.columns)
