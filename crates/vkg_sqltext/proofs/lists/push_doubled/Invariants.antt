use Rattle.std.proofs.Common.{◌≡◌, ◌++◌, string_bytes, flat_map}
use Rattle.vkg_sqltext.specs.Text.{doubled}
use Rattle.vkg_sqltext.proofs.lists.push_doubled.Given as goal

abbrev pub invariant-loop-c : goal.invariant-loop-c
invariant-loop-c l = string_bytes l.out ≡ string_bytes l.fn.out ++ flat_map (doubled l.sign) l.yielded
