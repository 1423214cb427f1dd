use Rattle.vkg_direct.proofs.Writable.{direct_is_writable}
use Rattle.vkg_direct.proofs.laws.terms.Goals as goal

pub returns : goal.returns
returns c = λ schema base mapping well absolute e. direct_is_writable schema base mapping well absolute e
