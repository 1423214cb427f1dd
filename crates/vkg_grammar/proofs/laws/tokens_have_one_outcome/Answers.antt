use Rattle.vkg_grammar.proofs.Outcomes.{one_outcome}
use Rattle.vkg_grammar.proofs.laws.tokens_have_one_outcome.Goals as goal

pub returns : goal.returns
returns c = one_outcome
