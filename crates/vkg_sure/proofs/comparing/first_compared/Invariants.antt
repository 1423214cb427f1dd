-- The members until here stay.
use Rattle.vkg_conditions.proofs.Found.{Kept, one_for}
use Rattle.vkg_equalities.specs.TableColumns.{flag_at}
use Rattle.vkg_sure.specs.TermComparison.{compared}
use Rattle.vkg_sure.proofs.comparing.first_compared.Given as goal

abbrev pub invariant-loop-i : goal.invariant-loop-i
invariant-loop-i l = Kept (one_for (compared (flag_at l.flags) l.kinds)) l.list l.i
