use Rattle.std.proofs.Common.{take}
use Rattle.std.specs.List.{AllByRecursion}
use Rattle.vkg_equalities.specs.Decided.{decided}
use Rattle.vkg_equalities.specs.TableColumns.{flag_at}
use Rattle.vkg_equalities.proofs.Conjuncts.{IsLeft}
use Rattle.vkg_equalities.proofs.deciding.first_decided.Given as goal

abbrev pub invariant-loop-i : goal.invariant-loop-i
invariant-loop-i l = AllByRecursion (IsLeft (decided (flag_at l.flags) l.kinds)) (take l.i l.list)
