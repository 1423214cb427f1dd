use Rattle.std.proofs.Common.{◌≡◌, drop}
use Rattle.std.specs.List.{list_all}
use Rattle.vkg_equalities.specs.TableColumns.{flag_at}
use Rattle.vkg_unique.proofs.flags.all_flagged.Given as goal

abbrev pub invariant-loop-at : goal.invariant-loop-at
invariant-loop-at l = list_all (flag_at l.flags) l.columns ≡ list_all (flag_at l.flags) (drop l.at-index l.columns)
