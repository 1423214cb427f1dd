use Rattle.vkg_grammar.proofs.Certifying.{certificates_hold}
use Rattle.vkg_grammar.proofs.laws.certificates_hold.Goals as goal

pub returns : goal.returns
returns c = certificates_hold
