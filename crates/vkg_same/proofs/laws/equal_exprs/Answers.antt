use Rattle.vkg_same.specs.SameItself.{exprs_apart}
use Rattle.vkg_same.proofs.laws.equal_exprs.Goals as goal

pub returns : goal.returns
returns c = λ e f. exprs_apart.decides e f
