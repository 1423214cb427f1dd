use Rattle.std.proofs.Common.{ap, ◌∙◌}
use Rattle.vkg_turtle.specs.Document.{declared}
use Rattle.vkg_turtle.specs.Entries.{texts_of_entries}
use Rattle.vkg_turtle.proofs.Declared.{declared_entries}
use Rattle.vkg_turtle.proofs.prefixes.Prefixes.declare.Goals as goal

pub returns : goal.returns
returns c =
    ap texts_of_entries c.in_ok-insert.ensures.entries
    ∙ declared_entries c.self.inside.map.entries c.in_ok-name.name c.args.iri
    ∙ (λ i. declared (c.in_ok-name.ensures.ok i) c.args.iri (c.self.view_is i))
