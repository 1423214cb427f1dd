use Rattle.std.proofs.Common.{◌∙◌, ◌&&◌, ◌==◌, sym, ap, string_bytes}
use Rattle.vkg_terms.specs.Iri.{is_absolute}
use Rattle.vkg_turtle.proofs.Known.{absolute_is}
use Rattle.vkg_turtle.proofs.base.Base.is_absolute.Goals as goal

pub returns-then-self : goal.returns-then-self
returns-then-self c =
    sym (ap (λ b. b && (c.self.inside.places.iri == c.len.result)) c.if-self.true)
    ∙ absolute_is (string_bytes c.self.inside.text) c.self.inside.places c.self.invariant c.len.result (c.len.ensures ∙ c.self.inside.text.bytes.ok.0)
    ∙ ap is_absolute c.self.view_is
