use Rattle.std.proofs.Common.{◌≡◌}
use Rattle.std.specs.Prelude.{fold}
use Rattle.vkg_match.specs.Cut.{cut_character}
use Rattle.vkg_match.proofs.cut.cut_text.Given as goal

abbrev pub invariant-loop-c : goal.invariant-loop-c
invariant-loop-c l = l.so_far ≡ fold (cut_character l.sort) l.fn.cut l.yielded
