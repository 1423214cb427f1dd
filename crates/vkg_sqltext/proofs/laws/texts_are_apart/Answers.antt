use Rattle.vkg_sqltext.proofs.Plans.{own_texts}
use Rattle.vkg_sqltext.proofs.laws.texts_are_apart.Goals as goal

pub returns : goal.returns
returns c = own_texts
