use Rattle.vkg_normal.proofs.Normal.{has_normal_form}
use Rattle.vkg_normal.proofs.laws.normal_forms.Goals as goal

pub returns : goal.returns
returns c = λ schema form p t. has_normal_form schema form p t
