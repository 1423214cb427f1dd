use Rattle.std.proofs.Common.{◌≡◌, drop}
use Rattle.std.specs.List.{list_any}
use Rattle.vkg_keys.specs.Keys.{is_full}
use Rattle.vkg_unique.proofs.unique.is_any_full.Given as goal

abbrev pub invariant-loop-key : goal.invariant-loop-key
invariant-loop-key l = list_any (is_full l.table) l.keys ≡ list_any (is_full l.table) (drop l.key-index l.keys)
