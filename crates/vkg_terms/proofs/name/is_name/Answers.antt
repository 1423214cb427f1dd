use Rattle.std.proofs.Common.{◌∙◌, ap}
use Rattle.vkg_terms.specs.Name.{is_name}
use Rattle.vkg_terms.proofs.NameLemmas.{delimited_exactly}
use Rattle.vkg_terms.proofs.name.is_name.Goals as goal

pub returns-clause-delimited : goal.returns-clause-delimited
returns-clause-delimited c = λ rest begins. delimited_exactly c.args.text.now rest _ (c.names_something.ensures ∙ ap is_name c.as_bytes.ensures.value) begins
