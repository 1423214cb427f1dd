use Rattle.std.proofs.Common.{◌≡◌, not, ◌==◌, string_bytes, flat_map, encode_utf8}
use Rattle.std.specs.List.{filter}
use Rattle.vkg_turtle.proofs.escape.local_meant.Given as goal

abbrev pub invariant-loop-c : goal.invariant-loop-c
invariant-loop-c l = string_bytes l.out ≡ flat_map encode_utf8 (filter (λ c. not (c == 92)) l.yielded)
