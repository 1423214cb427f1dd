use Rattle.std.proofs.Common.{◌≡◌, drop}
use Rattle.std.specs.Prelude.{nat_lt}
use Rattle.std.specs.List.{list_all}
use Rattle.vkg_key_lefts.proofs.kept.are_below.Given as goal

abbrev pub invariant-loop-column : goal.invariant-loop-column
invariant-loop-column l = list_all (λ at. nat_lt at l.n) l.columns ≡ list_all (λ at. nat_lt at l.n) (drop l.column-index l.columns)
