use Rattle.vkg_rewrite.proofs.Typed.{is_end, is_settled}
use Rattle.vkg_rewrite.proofs.laws.rewritten_is_an_end.Goals as goal

pub returns-clause-end : goal.returns-clause-end
returns-clause-end c = is_end

pub returns-clause-settled : goal.returns-clause-settled
returns-clause-settled c = is_settled
