use Rattle.vkg_direct.proofs.Within.{direct_is_within}
use Rattle.vkg_direct.proofs.laws.mappings.Goals as goal

pub returns : goal.returns
returns c = λ schema base mapping well e. direct_is_within schema base mapping well e
