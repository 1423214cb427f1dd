use Rattle.std.proofs.Common.{ap, ◌∙◌}
use Rattle.vkg_turtle.specs.Document.{namespace}
use Rattle.vkg_turtle.proofs.Declared.{namespace_entries}
use Rattle.vkg_turtle.proofs.prefixes.Prefixes.namespace.Goals as goal

pub returns : goal.returns
returns c = c.get.ensures.value ∙ namespace_entries c.self.inside.map.entries c.args.name.now ∙ ap (namespace c.args.name.now) c.self.view_is
