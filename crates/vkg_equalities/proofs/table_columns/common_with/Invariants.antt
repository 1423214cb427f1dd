use Rattle.std.proofs.Common.{◌≡◌, take}
use Rattle.std.specs.Prelude.{fold}
use Rattle.vkg_equalities.specs.TableColumns.{both_flags}
use Rattle.vkg_equalities.proofs.table_columns.common_with.Given as goal

abbrev pub invariant-loop-more : goal.invariant-loop-more
invariant-loop-more l = l.all ≡ fold both_flags l.first (take l.more-index l.rest)
