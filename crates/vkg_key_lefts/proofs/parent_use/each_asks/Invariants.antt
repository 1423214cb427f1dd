-- What is left decides.
use Rattle.std.proofs.Common.{◌≡◌, drop, map}
use Rattle.std.specs.List.{list_all}
use Rattle.vkg_expr.specs.Seen.{expr_seen}
use Rattle.vkg_key_lefts.specs.ParentLeft.{asks_no_more}
use Rattle.vkg_key_lefts.proofs.parent_use.each_asks.Given as goal

abbrev pub invariant-loop-c : goal.invariant-loop-c
invariant-loop-c l = list_all (asks_no_more l.first l.second l.pairs) (map expr_seen l.list) ≡ list_all (asks_no_more l.first l.second l.pairs) (map expr_seen (drop l.c-index l.list))
