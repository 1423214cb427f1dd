use Rattle.std.proofs.Common.{◌≡◌}
use Rattle.std.specs.List.{list_any}
use Rattle.vkg_expr.specs.declared.term_expr.Sort.TheVariants.{OfIri}
use Rattle.vkg_match.specs.Cut.{is_break}
use Rattle.vkg_match.proofs.breaks.has_break.Given as goal

abbrev pub invariant-loop-c : goal.invariant-loop-c
invariant-loop-c l = l.found ≡ list_any (is_break OfIri) l.yielded
