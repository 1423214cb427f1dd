-- Lists of other lengths are not one.
use Rattle.std.proofs.Common.{sym}
use Rattle.vkg_same.proofs.SameLists.{not_as_long}
use Rattle.vkg_same.proofs.same.+same.Goals as goal

pub same_exprs-returns-then-a-b : goal.same_exprs-returns-then-a-b
same_exprs-returns-then-a-b t c = sym (not_as_long c.args.a.now c.args.b.now c.if-a-b.true)
