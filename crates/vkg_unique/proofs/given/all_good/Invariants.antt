use Rattle.std.proofs.Common.{◌≡◌, drop}
use Rattle.std.specs.List.{list_all}
use Rattle.vkg_unique.specs.Recovered.{is_good_at}
use Rattle.vkg_unique.proofs.given.all_good.Given as goal

abbrev pub invariant-loop-column : goal.invariant-loop-column
invariant-loop-column l = list_all (is_good_at l.tables l.sure) l.columns ≡ list_all (is_good_at l.tables l.sure) (drop l.column-index l.columns)
