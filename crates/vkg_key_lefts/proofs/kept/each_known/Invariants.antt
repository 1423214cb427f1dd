-- What is left decides.
use Rattle.std.proofs.Common.{◌≡◌, drop, map}
use Rattle.std.specs.List.{list_all}
use Rattle.vkg_expr.specs.Seen.{expr_seen}
use Rattle.vkg_key_lefts.specs.SelfLeft.{is_known, says_known}
use Rattle.vkg_key_lefts.proofs.kept.each_known.Given as goal

abbrev pub invariant-loop-c : goal.invariant-loop-c
invariant-loop-c l =
    list_all (says_known (is_known l.schema l.x l.names)) (map expr_seen l.list) ≡ list_all (says_known (is_known l.schema l.x l.names)) (map expr_seen (drop l.c-index l.list))
