use Rattle.std.proofs.Common.{◌≡◌, drop}
use Rattle.std.specs.List.{list_any}
use Rattle.vkg_unique.specs.Recovered.{is_key_given}
use Rattle.vkg_unique.proofs.keys_given.has_key_given.Given as goal

abbrev pub invariant-loop-key : goal.invariant-loop-key
invariant-loop-key l = list_any (is_key_given l.flags l.table) l.keys ≡ list_any (is_key_given l.flags l.table) (drop l.key-index l.keys)
