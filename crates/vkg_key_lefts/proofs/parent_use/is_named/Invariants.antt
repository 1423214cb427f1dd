-- What is left decides.
use Rattle.std.proofs.Common.{◌≡◌, drop}
use Rattle.std.specs.List.{list_any}
use Rattle.vkg_key_lefts.specs.ParentLeft.{is_at}
use Rattle.vkg_key_lefts.proofs.parent_use.is_named.Given as goal

abbrev pub invariant-loop-at : goal.invariant-loop-at
invariant-loop-at l = list_any (is_at l.n l.k) l.names ≡ list_any (is_at l.n l.k) (drop l.at-index l.names)
