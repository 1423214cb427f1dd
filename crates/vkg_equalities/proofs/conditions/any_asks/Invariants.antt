-- None until here asks.
use Rattle.std.proofs.Common.{◌≡◌, drop, map}
use Rattle.std.specs.List.{list_any}
use Rattle.vkg_expr.specs.Seen.{expr_seen}
use Rattle.vkg_equalities.specs.Decided.{asks_terms}
use Rattle.vkg_equalities.proofs.conditions.any_asks.Given as goal

abbrev pub invariant-loop-c : goal.invariant-loop-c
invariant-loop-c l = list_any asks_terms (map expr_seen l.list) ≡ list_any asks_terms (map expr_seen (drop l.c-index l.list))
