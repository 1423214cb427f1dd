-- What is left decides.
use Rattle.std.proofs.Common.{◌≡◌, drop}
use Rattle.std.specs.List.{list_all}
use Rattle.vkg_key_lefts.specs.SelfLeft.{is_known}
use Rattle.vkg_key_lefts.proofs.kept.are_known.Given as goal

abbrev pub invariant-loop-column : goal.invariant-loop-column
invariant-loop-column l = list_all (is_known l.schema l.x l.names) l.columns ≡ list_all (is_known l.schema l.x l.names) (drop l.column-index l.columns)
