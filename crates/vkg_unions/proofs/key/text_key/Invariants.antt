use Rattle.std.proofs.Common.{◌≡◌, take}
use Rattle.vkg_unions.specs.Key.{text_key}
use Rattle.vkg_unions.proofs.key.text_key.Given as goal

abbrev pub invariant-loop-byte : goal.invariant-loop-byte
invariant-loop-byte l = l.all ≡ text_key l.fn.key (take l.byte-index l.fn.text)
