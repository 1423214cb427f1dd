use Rattle.std.proofs.Common.{◌∙◌, ◌++◌, List, ℕ, ap, string_bytes}
use Rattle.vkg_turtle.proofs.Known.{fragment_boundary, fragment_known, fragment_resolved}
use Rattle.vkg_turtle.proofs.base.put_fragment.Goals as goal

pub truncate-requires : goal.truncate-requires
truncate-requires c = λ l. let b = fragment_boundary (string_bytes c.args.text) c.args.places.query c.requires.known.query in (b.0, λ some. b.1)

pub invariant_of-result : goal.invariant_of-result
invariant_of-result c =
    fragment_known (string_bytes c.args.text) c.args.reference.now c.requires.empty c.args.places c.requires.known c.requires.scheme c.requires.fragment _
    (c.in_ok-push_str.ensures.bytes ∙ ap (λ (l : List ℕ). l ++ c.args.reference.now) c.truncate.ensures.bytes)
    _ c.iri_behind.ensures

pub returns : goal.returns
returns c =
    fragment_resolved (string_bytes c.args.text) c.args.reference.now c.requires.empty c.args.places c.requires.known c.requires.scheme c.requires.fragment _
    (c.in_ok-push_str.ensures.bytes ∙ ap (λ (l : List ℕ). l ++ c.args.reference.now) c.truncate.ensures.bytes)
