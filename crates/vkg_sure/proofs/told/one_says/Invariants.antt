-- The list is as what is left of it.
use Rattle.std.proofs.Common.{◌≡◌, drop, map}
use Rattle.std.specs.List.{list_any}
use Rattle.vkg_expr.specs.Seen.{expr_seen}
use Rattle.vkg_sure.specs.ToldAt.{says}
use Rattle.vkg_sure.proofs.told.one_says.Given as goal

abbrev pub invariant-loop-c : goal.invariant-loop-c
invariant-loop-c l = list_any (says l.column) (map expr_seen l.list) ≡ list_any (says l.column) (map expr_seen (drop l.c-index l.list))
