use Rattle.std.proofs.Common.{◌≡◌, map, string_bytes, take}
use Rattle.vkg_base.specs.Written.{written}
use Rattle.vkg_terms.specs.NQuads.{line}
use Rattle.vkg_plain.proofs.reader.text_of.Given as goal

abbrev pub invariant-loop-quad : goal.invariant-loop-quad
invariant-loop-quad l = string_bytes l.out ≡ written (map line (take l.quad-index l.quads))
