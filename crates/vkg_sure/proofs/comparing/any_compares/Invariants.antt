-- What is left decides.
use Rattle.std.proofs.Common.{◌≡◌, drop, map}
use Rattle.std.specs.Prelude.{is_some}
use Rattle.std.specs.List.{list_any}
use Rattle.vkg_expr.specs.Seen.{expr_seen}
use Rattle.vkg_sure.specs.TermComparison.{as_same}
use Rattle.vkg_sure.proofs.comparing.any_compares.Given as goal

abbrev pub invariant-loop-c : goal.invariant-loop-c
invariant-loop-c l = list_any (λ e. is_some (as_same e)) (map expr_seen l.list) ≡ list_any (λ e. is_some (as_same e)) (map expr_seen (drop l.c-index l.list))
