use Rattle.vkg_terms.proofs.ComponentsLemmas.{split_steps}
use Rattle.vkg_terms.proofs.components.split.Goals as goal

pub returns : goal.returns
returns c =
    split_steps c.args.text.now _ _ _ _ c.split_scheme.ensures.scheme c.split_scheme.ensures.rest
    c.cut.ensures.front c.cut.ensures.back c.cut-2.ensures.front c.cut-2.ensures.back
    c.split_authority.ensures.authority c.split_authority.ensures.path
