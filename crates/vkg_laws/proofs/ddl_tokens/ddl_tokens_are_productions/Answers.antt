use Rattle.vkg_laws.proofs.DdlTokens.{are_productions}
use Rattle.vkg_laws.proofs.ddl_tokens.ddl_tokens_are_productions.Goals as goal

pub returns : goal.returns
returns c = are_productions
